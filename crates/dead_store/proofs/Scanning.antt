-- The scan from the front for ids read before any write since the last label.
use Rattle.std.proofs.Common.{ℕ, zero, suc, ◌+◌, ◌≤◌, ◌<◌, min, arith, ◌≡◌, refl, sym, ap, ◌∙◌, Bool, true, false, not, ◌&&◌, ◌||◌, List, [], ◌∷◌, eqb, length, get_or, drop, replicate, drop_of_length-le, length-take, get_or-take}
use Rattle.pcode.specs.Var.{as_operand}
use Rattle.pcode.specs.Block.{has_id, lasting}
use Rattle.pcode.specs.declared.var.VarId.{VarId}
use Rattle.pcode.specs.declared.block.Stmt.{Stmt}
use Rattle.pcode.specs.declared.block.Marks.{Marks}
use Rattle.vars.specs.declared.Vars.{Vars}
use Rattle.vars.specs.Vars.{ids_of, row_of, held_ids}
use Rattle.vars.proofs.Rows.{row_below, row_at}
use Rattle.live_tables.specs.declared.rows.Rows.{Rows}
use Rattle.live_tables.specs.Rows.{edge_of, is_label, is_var, rows_of, no_id}
use Rattle.dead_store.specs.Stays.{names_id, read_first, persists}
use Rattle.live_tables.specs.Tables.{FlagsAre, no_flags}
use Rattle.dead_store.specs.Walks.{first_reads}
use Rattle.live_tables.proofs.Rowwise.{or_false}
use Rattle.dead_store.proofs.Places.{output_among, first_among, second_among, names_id_at}

false_at : (n i : ℕ) → get_or (replicate n false) i false ≡ false
false_at zero i = refl
false_at (suc n) zero = refl
false_at (suc n) (suc i) = false_at n i

pub no_flag : (t : List Bool) (i : ℕ) → t ≡ no_flags → get_or t i false ≡ false
unfolding no_flags
no_flag t i e = rw e (false_at 112 i)

or_move : (l a b : Bool) → (l || (a || b)) ≡ ((a || l) || b)
or_move true true b = refl
or_move true false b = refl
or_move false a b = rw (or_false a)

or_swap : (x y : Bool) → (x || y) ≡ (y || x)
or_swap true true = refl
or_swap true false = refl
or_swap false true = refl
or_swap false false = refl

scan_bits : (x y a o : Bool) (r : Bool → Bool) (u v : Bool) → u ≡ (a || x) → v ≡ (o || y) → (x || (a || r (y || o))) ≡ (u || r v)
scan_bits x y a o r u v f g = or_move x a (r (y || o)) ∙ ap (λ (b : Bool). b || r (y || o)) (sym f) ∙ ap (λ (b : Bool). u || r b) (or_swap y o ∙ sym g)

-- place i of the statements, the id's flags being live and written
module _ (ss : List Stmt) (id : VarId) where
  abbrev pub Scanned : ℕ → Bool → Bool → Type 0
  Scanned i live written = read_first false ss id ≡ (live || read_first written (drop i ss) id)

  pub scan_none : (x y : Bool) → x ≡ false → y ≡ false → Scanned 0 x y
  scan_none x y e f = rw (e, f)

  pub scan_all : (i : ℕ) (x y : Bool) → length ss ≤ i → Scanned i x y → x ≡ read_first false ss id
  unfolding read_first
  scan_all i x y h e =
      let d : drop i ss ≡ [] = drop_of_length-le ss {i = i} h in
      let f : read_first false ss id ≡ (x || false) = rw d at e in
      sym (f ∙ or_false x)

  module _ (i : ℕ) (s : Stmt) (x y : Bool) (d : drop i ss ≡ s ∷ drop (i + 1) ss) (e : Scanned i x y) where
    step : read_first false ss id ≡ (x || read_first y (s ∷ drop (i + 1) ss) id)
    step = e ∙ ap (λ (l : List Stmt). x || read_first y l id) d

    pub scan_label : is_label (edge_of s.op) ≡ true → (z : Bool) → z ≡ false → Scanned (i + 1) x z
    unfolding read_first
    scan_label t z f = step ∙ rw (t, f)

    pub scan_more : is_label (edge_of s.op) ≡ false → (u v : Bool)
        → u ≡ ((not y && (names_id s.first id || names_id s.second id)) || x) → v ≡ (names_id (as_operand s.output) id || y) → Scanned (i + 1) u v
    unfolding read_first
    scan_more t u v f g =
        let a : Bool = not y && (names_id s.first id || names_id s.second id) in
        let o : Bool = names_id (as_operand s.output) id in
        let q : (x || read_first y (s ∷ drop (i + 1) ss) id) ≡ (x || (a || read_first (y || o) (drop (i + 1) ss) id)) = rw t in
        step ∙ q ∙ scan_bits x y a o (λ b. read_first b (drop (i + 1) ss) id) u v f g

-- the flags of one statement at the row of an id
module _ (l : List VarId) (s : Stmt) (w : Rows) (h : (id : VarId) → has_id (ids_of s) id ≡ true → has_id l id ≡ true) (r : w ≡ rows_of l s)
    (id : VarId) (m : has_id l id ≡ true) (small : length l ≤ 112) where
  row_low : row_of l id < 112
  row_low = omega (arith, row_below l id m)

  pub reads_flag : (written live new : List Bool) → FlagsAre new (first_reads s w written live)
      → get_or new (row_of l id) false ≡ ((not (get_or written (row_of l id) false) && (names_id s.first id || names_id s.second id)) || get_or live (row_of l id) false)
  unfolding rows_of
  reads_flag written live new f =
      f.flags (row_of l id) row_low
      ∙ ap (λ (x : Rows). first_reads s x written live (row_of l id)) r
      ∙ ap (λ (b : Bool). (not (get_or written (row_of l id) false) && (b || (is_var s.second && eqb (row_of l id) (rows_of l s).second))) || get_or live (row_of l id) false) (names_id_at l id m s.first (first_among l s h))
      ∙ ap (λ (b : Bool). (not (get_or written (row_of l id) false) && (names_id s.first id || b)) || get_or live (row_of l id) false) (names_id_at l id m s.second (second_among l s h))

  pub writes_flag : (written new : List Bool) (there : Bool) → there ≡ is_var (as_operand s.output) → FlagsAre new (λ i. (there && eqb i w.output) || get_or written i false)
      → get_or new (row_of l id) false ≡ (names_id (as_operand s.output) id || get_or written (row_of l id) false)
  unfolding rows_of
  writes_flag written new there t f =
      f.flags (row_of l id) row_low
      ∙ ap (λ (b : Bool). (b && eqb (row_of l id) w.output) || get_or written (row_of l id) false) t
      ∙ ap (λ (x : Rows). (is_var (as_operand s.output) && eqb (row_of l id) x.output) || get_or written (row_of l id) false) r
      ∙ ap (λ (b : Bool). b || get_or written (row_of l id) false) (names_id_at l id m (as_operand s.output) (output_among l s h))

-- what persists, at the row of an id
pub persists_at : (m : Marks) (v : Vars) (ss : List Stmt) (p live : List Bool) → length (held_ids v) ≤ 112
    → ((k : ℕ) → k < 112 → get_or p k false ≡ (lasting m (get_or v.ids k no_id) || get_or live k false))
    → (id : VarId) → has_id (held_ids v) id ≡ true → get_or live (row_of (held_ids v) id) false ≡ read_first false ss id
    → get_or p (row_of (held_ids v) id) false ≡ persists m ss id
persists_at m v ss p live small f id h e =
    let b = row_below (held_ids v) id h in
    let k : length (held_ids v) ≡ min v.count (length v.ids) = length-take v.count v.ids in
    let i : get_or v.ids (row_of (held_ids v) id) no_id ≡ id = sym (get_or-take v.count v.ids (row_of (held_ids v) id) no_id (omega arith)) ∙ row_at (held_ids v) id no_id h in
    f (row_of (held_ids v) id) (omega arith)
    ∙ ap (λ (x : VarId). lasting m x || get_or live (row_of (held_ids v) id) false) i
    ∙ ap (λ (x : Bool). lasting m id || x) e
