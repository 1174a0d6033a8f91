-- What the tables hold, row by row and byte by byte, after each step of the walk.
use Rattle.std.specs.Prelude.{ℕ, ◌<◌, ◌≡◌, Bool, false, not, ◌&&◌, ◌||◌, List, eqb, length, get_or, replicate}
use Rattle.std.specs.Int.Bits.{bit_or}
use Rattle.pcode.specs.Var.{pick, as_operand}
use Rattle.pcode.specs.Rules.{side_effects}
use Rattle.pcode.specs.declared.var.VarNode.{VarNode}
use Rattle.pcode.specs.declared.block.Stmt.{Stmt}
use Rattle.live_tables.specs.declared.rows.Edge.{Edge}
use Rattle.live_tables.specs.declared.rows.Edge.TheVariants.{Inside, Branch, Label, Marker}
use Rattle.live_tables.specs.declared.rows.Rows.{Rows}
use Rattle.live_tables.specs.declared.tables.Tables.{Tables}
use Rattle.live_bytes.specs.declared.LiveBytes.{LiveBytes}
use Rattle.live_bytes.specs.Bytes.{has, inside, some_byte, live_in}
use Rattle.live_tables.specs.Rows.{edge_of, ends, part_of}

-- no byte
abbrev pub empty : LiveBytes
empty = record { set = 0 }

-- no byte of any variable
unfoldable pub no_sets : List LiveBytes
no_sets = replicate 112 empty

-- nothing is written last, or read
abbrev pub no_tables : Tables
no_tables = record { last = no_sets; reads = no_sets; across = no_sets }

-- no variable
unfoldable pub no_flags : List Bool
no_flags = replicate 112 false

-- byte k in row i
abbrev pub view : List LiveBytes → ℕ → ℕ → Bool
view t i k = has (get_or t i empty).set k

-- a part of a variable has byte k in row i
abbrev pub at : ℕ → VarNode → ℕ → ℕ → Bool
at row v i k = eqb i row && inside v k

-- a table's bytes are those that a test says
pub record TableIs (t : List LiveBytes) (f : ℕ → ℕ → Bool) : Type 0 where
  pub long : length t ≡ 112
  pub bytes : (i k : ℕ) → i < 112 → view t i k ≡ f i k

-- a table's flags are those that a test says
pub record FlagsAre (t : List Bool) (f : ℕ → Bool) : Type 0 where
  pub long : length t ≡ 112
  pub flags : (i : ℕ) → i < 112 → get_or t i false ≡ f i

-- what is read later, past an edge; past a marker nothing
abbrev pub joined_set : Bool → LiveBytes → LiveBytes → LiveBytes
joined_set marker r a = pick marker empty (record { set = bit_or r.set a.set })

-- the tables after the end of a stretch
pub record Ended (marker : Bool) (t t' : Tables) : Type 0 where
  pub last : TableIs t'.last (λ i k. false)
  pub reads : TableIs t'.reads (λ i k. not marker && (view t.reads i k || view t.across i k))
  pub across : TableIs t'.across (λ i k. not marker && (view t.reads i k || view t.across i k))

-- what is read above an edge, of what is read below it and across the next
abbrev pub reads_over : Edge → Bool → Bool → Bool
reads_over Inside r a = r
reads_over Branch r a = r || a
reads_over Label r a = r || a
reads_over Marker r a = false

-- what is read across an edge
abbrev pub across_over : Edge → Bool → Bool → Bool
across_over Inside r a = a
across_over Branch r a = r || a
across_over Label r a = r || a
across_over Marker r a = false

-- the three tables past an edge
pub record Bounded (e : Edge) (t t' : Tables) : Type 0 where
  pub last : TableIs t'.last (λ i k. not (ends e) && view t.last i k)
  pub reads : TableIs t'.reads (λ i k. reads_over e (view t.reads i k) (view t.across i k))
  pub across : TableIs t'.across (λ i k. across_over e (view t.reads i k) (view t.across i k))

-- a statement stays by the tables after its edge
abbrev pub stays_at : List Bool → Tables → Stmt → ℕ → Bool
stays_at p t s row = side_effects s.op || live_in (get_or p row false) (get_or t.last row empty).set (get_or t.reads row empty).set (part_of (as_operand s.output))

-- the same by the tables below its edge
abbrev pub stays_over : List Bool → Stmt → ℕ → Tables → Bool
stays_over p s row t =
    side_effects s.op || some_byte (λ k. inside (part_of (as_operand s.output)) k
    && ((get_or p row false && not (not (ends (edge_of s.op)) && view t.last row k)) || reads_over (edge_of s.op) (view t.reads row k) (view t.across row k)))

-- one statement of the walk
pub record Stepped (p : List Bool) (s : Stmt) (w : Rows) (t t' : Tables) (live : Bool) : Type 0 where
  pub last : TableIs t'.last (λ i k. at w.output (part_of (as_operand s.output)) i k || (not (ends (edge_of s.op)) && view t.last i k))
  pub reads : TableIs t'.reads (λ i k. (live && at w.second (part_of s.second) i k) || ((live && at w.first (part_of s.first) i k)
      || (not (live && at w.output (part_of (as_operand s.output)) i k) && reads_over (edge_of s.op) (view t.reads i k) (view t.across i k))))
  pub across : TableIs t'.across (λ i k. across_over (edge_of s.op) (view t.reads i k) (view t.across i k))
  pub stays : w.output < 112 → live ≡ stays_over p s w.output t
