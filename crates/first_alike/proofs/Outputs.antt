-- A statement with an output: what the pass makes of it has its effect.
use Rattle.std.proofs.Common.{Option, None as Nothing, Some, Result, Ok, Err, ℕ, ◌+◌, ◌*◌, ◌%◌, ◌^◌, ◌≤◌, ◌<◌, arith, mod-lt, mod-eq_of_lt, ◌≡◌, refl, sym, ◌∙◌, subst, Bool, true, false, List, [], ◌∷◌, eqb-true, ltb-true, ltb-false, eqb, ltb, pow_pos}
use borrow.Author.Tests.{eqb-false}
use lib.Pow.{pow-lt}
use Rattle.pcode.specs.Var.{pick, same_id, less_id, below_id, size_of}
use Rattle.pcode.specs.Block.{has_id, lasting, stmt_of}
use Rattle.pcode.specs.declared.var.VarId.{VarId}
use Rattle.pcode.specs.declared.var.VarNode.{VarNode}
use Rattle.pcode.specs.declared.var.Operand.{Operand}
use Rattle.pcode.specs.declared.var.Operand.TheVariants.{None, Const, Var}
use Rattle.std.specs.declared.option.Option.TheVariants as Out
use Rattle.pcode.specs.declared.op.OneOp.TheVariants.{Copy, ZeroExtend}
use Rattle.pcode.specs.declared.op.Op.{Op}
use Rattle.pcode.specs.declared.op.Op.TheVariants.{One as OneOf}
use Rattle.pcode.specs.declared.block.Stmt.{Stmt}
use Rattle.pcode.specs.declared.block.Marks.{Marks}
use Rattle.vars.specs.declared.Vars.{Vars}
use Rattle.vars.proofs.Rows.{ways}
use Rattle.step.specs.Steps.{act_of}
use Rattle.step.specs.declared.Act.{Act}
use Rattle.uses.specs.Operands.{place_of}
use Rattle.widen.specs.Widen.{two_m, made_in, widened_of, lowest, copied_at, copied_of, added_of, kept_of, made_of}
use Rattle.eval.specs.declared.EvalError.{EvalError}
use Rattle.widen.specs.declared.simple.Simple.{Simple}
use Rattle.widen.specs.declared.simple.Simple.TheVariants as Simples
use Rattle.widen.specs.declared.widen.Why.{Why}
use Rattle.widen.specs.declared.widen.Why.TheVariants as Whys
use Rattle.widen.specs.declared.widen.Made.{Made}
use Rattle.const_prop.specs.Pass.{stmts_of}
use Rattle.alike.proofs.Fits.{InRow}
use Rattle.alike.proofs.Havoc.{State, value_by, put_by, result_by, Holding}
use Rattle.alike.proofs.Parts.{Bytewise}
use Rattle.alike.proofs.Tables.{Known as KnownIn}
use Rattle.first_alike.proofs.Operands.{Canon, Stead}
use Rattle.first_alike.proofs.Settled.{Worth}
use Rattle.first_alike.proofs.Puts.{put_same, put_still}
use Rattle.first_alike.proofs.Widths.{Wide, put_widened}
use Rattle.first_alike.proofs.Pairs.{Real, RealIn, Pair, value_alike}
use Rattle.first_alike.proofs.Effects.{Effect, Writer, copy_copies, extend_copies, dropped_effect, copied_effect, kept_effect, added_effect}

-- a load stays
abbrev pub Loaded : Act → Result Simple EvalError → Type 0
Loaded Act.Nothing m = ⊥
Loaded Act.Marks m = ⊥
Loaded (Act.Jumps l) m = ⊥
Loaded (Act.Exits n) m = ⊥
Loaded (Act.Loads n) (Ok Simples.Dropped) = ⊥
Loaded (Act.Loads n) (Ok (Simples.Skips l)) = ⊥
Loaded (Act.Loads n) (Ok (Simples.Copies q a)) = ⊥
Loaded (Act.Loads n) (Ok (Simples.Stays r)) = Unit {0}
Loaded (Act.Loads n) (Err e) = ⊥
Loaded (Act.Stores n) m = ⊥
Loaded Act.Computes m = Unit {0}

-- not refused
abbrev pub IsFine : Result Made Why → Type 0
IsFine (Ok m) = Unit {0}
IsFine (Err w) = ⊥

module _ (ms : Marks) (answers : List ℕ) (floor : VarId) (real : (id : VarId) → lasting ms id ≡ true → Real ms answers floor id) (ids : List VarId)
    (real_ids : (id : VarId) → has_id ids id ≡ true → Real ms answers floor id) where
  pub known_real : (a : Operand) → KnownIn ids a → RealIn ms answers floor a
  known_real None k = tt
  known_real (Const v n) k = tt
  known_real (Var v) k = real_ids v.id k

  -- what a step makes, and that it starts no skip
  pub record Makes (act : Act) (u : ℕ → State) (st : Stmt) (m : Made) (h g : Holding) : Type 0 where
    pub effect : Effect ms answers floor act u st (stmts_of m) h g
    pub walks : m.skip ≡ Nothing

  module _ (u : ℕ → State) (calm : Bytewise (u 0)) (op : Op) (a b c d : Operand) (o : VarNode) (fit : o.offset + o.size ≤ 16) (h g : Holding) (p : Pair ms answers floor h g)
      (sa : Stead ids h.bytes a c) (sb : Stead ids h.bytes b d) (least : VarId) (under : same_id (below_id least) least ≡ false → less_id (below_id least) floor ≡ true) where
    abbrev st : Stmt
    st = stmt_of op (Out.Some o) a b

    abbrev X : Act → ℕ
    X act = result_by answers h.loads st act (value_by h.bytes a) (value_by h.bytes b)

    -- a copy
    module _ (w : Option ℕ) (wide : (n : ℕ) → w ≡ Some n → Wide (put_by h.bytes (Out.Some o) (X Act.Computes)) o n) (e : Operand) (value : value_by h.bytes e ≡ X Act.Computes % 2 ^ (8 * o.size))
        (known : KnownIn ids e) (inrow : InRow e) (canon : Canon e) (size : size_of e ≡ o.size) where
      abbrev x : ℕ
      x = X Act.Computes

      abbrev y : ℕ
      y = x % 2 ^ (8 * o.size)

      small : y < 2 ^ (8 * o.size)
      small = mod-lt x (pow_pos (8 * o.size))

      there : value_by g.bytes e ≡ y
      there = sym (value_alike ms answers floor h.bytes g.bytes e p.bytes (known_real e known) inrow) ∙ value

      narrow : Effect ms answers floor Act.Computes u st (stmt_of (OneOf Copy) (Out.Some o) e None ∷ []) h g
      narrow = copied_effect ms answers floor u st Copy (Out.Some o) e y h g copy_copies p there (λ id i. put_same h.bytes o x y id i fit (sym (mod-eq_of_lt small)))

      widely : (w : ℕ) (f : Operand) → Wide (put_by h.bytes (Out.Some o) x) o w → value_by h.bytes f ≡ y → value_by g.bytes f ≡ y → Canon f → size_of f ≡ o.size
          → Effect ms answers floor Act.Computes u st (copied_at w o f ∷ []) h g
      widely w None d z t n l = copied_effect ms answers floor u st ZeroExtend (lowest o w) None y h g extend_copies p t (λ id i. put_widened h.bytes o x y w id i fit small refl d)
      widely w (Const k m) d z t n l =
          copied_effect ms answers floor u st Copy (lowest o w) (Const k w) y h g copy_copies p
          (mod-eq_of_lt (higher k m d.wider l n) ∙ sym (mod-eq_of_lt n) ∙ z) (λ id i. put_widened h.bytes o x y w id i fit small refl d)
        where
          less_or : (i j : ℕ) → i ≤ j → (k : ℕ) → k < 2 ^ (8 * i) → k < 2 ^ (8 * j)
          less_or i j q k r = ways (eqb i j) (λ t. subst (λ (n : ℕ). k < 2 ^ (8 * n)) (eqb-true i j t) r)
              (λ t. let f = eqb-false i j t in let v : 2 ^ (8 * i) < 2 ^ (8 * j) = pow-lt {i = 8 * i} {j = 8 * j} (apart i j q f) in less k (2 ^ (8 * i)) (2 ^ (8 * j)) r v)
            where
              less : (a b d : ℕ) → a < b → b < d → a < d
              less a b d h g = omega arith

              apart : (i j : ℕ) → i ≤ j → (i ≡ j → ⊥) → 8 * i < 8 * j
              apart i j q f = ways (ltb i j) (λ t. let r = ltb-true i j t in omega (arith, r)) (λ t. absurd (f (let r = ltb-false i j t in omega (arith, r, q))))

          higher : (k m : ℕ) → o.size ≤ w → m ≡ o.size → k < 2 ^ (8 * m) → k < 2 ^ (8 * w)
          higher k m q e n = less_or m w (omega (arith, q, e)) k n
      widely w (Var v) d z t n l = copied_effect ms answers floor u st ZeroExtend (lowest o w) (Var v) y h g extend_copies p t (λ id i. put_widened h.bytes o x y w id i fit small refl d)

      pub copies_effect : Effect ms answers floor Act.Computes u st (copied_of w o e ∷ []) h g
      copies_effect = go w wide
        where
          go : (w : Option ℕ) → ((n : ℕ) → w ≡ Some n → Wide (put_by h.bytes (Out.Some o) x) o n) → Effect ms answers floor Act.Computes u st (copied_of w o e ∷ []) h g
          go Nothing q = narrow
          go (Some n) q = widely n e (q n refl) value there canon size

    -- kept
    module _ (act : Act) (is : act_of op ≡ act) (writer : Writer act) (w : Option ℕ) (wide : (n : ℕ) → w ≡ Some n → Wide (put_by h.bytes (Out.Some o) (X act)) o n) where
      kept_makes : IsFine (kept_of w (stmt_of op (Out.Some o) c d) o least) → Makes act u st (made_in (kept_of w (stmt_of op (Out.Some o) c d) o least)) h g
      kept_makes f = go w wide f
        where
          go : (w : Option ℕ) → ((n : ℕ) → w ≡ Some n → Wide (put_by h.bytes (Out.Some o) (X act)) o n) → IsFine (kept_of w (stmt_of op (Out.Some o) c d) o least)
              → Makes act u st (made_in (kept_of w (stmt_of op (Out.Some o) c d) o least)) h g
          go Nothing e f =
              record {
                effect = kept_effect ms answers floor real u calm op act is a b c d h g p sa.value sb.value sa.size (known_real c sa.known) (known_real d sb.known) sa.in_row sb.in_row (Out.Some o);
                walks = refl;
              }
          go (Some k) e f = by (same_id (below_id least) least) refl f
            where
              by : (q : Bool) → same_id (below_id least) least ≡ q
                  → IsFine (pick q (Err Whys.NoTemporary) (Ok (two_m (stmt_of op (Out.Some (added_of least o)) c d) (stmt_of (OneOf ZeroExtend) (lowest o k) (Var (added_of least o)) None))))
                  → Makes act u st (made_in (pick q (Err Whys.NoTemporary) (Ok (two_m (stmt_of op (Out.Some (added_of least o)) c d) (stmt_of (OneOf ZeroExtend) (lowest o k) (Var (added_of least o)) None))))) h g
              by true n f = absurd f
              by false n f =
                  record {
                    effect =
                        added_effect ms answers floor real u calm op act is a b c d h g p sa.value sb.value sa.size (known_real c sa.known) (known_real d sb.known) sa.in_row sb.in_row
                        writer o fit least (under n) k (e k refl);
                    walks = refl;
                  }

    module _ (vars : Vars) (store : List ℕ) where
      abbrev w : Option ℕ
      w = widened_of store (place_of vars o)

      -- by what the statement comes to
      pub output_makes : (act : Act) → act_of op ≡ act → Writer act → (m : Result Simple EvalError) → Loaded act m → ((n : ℕ) → w ≡ Some n → Wide (put_by h.bytes (Out.Some o) (X act)) o n)
          → Worth ids h.bytes o (X act) (stmt_of op (Out.Some o) c d) m → IsFine (made_of store vars m least) → Makes act u st (made_in (made_of store vars m least)) h g
      output_makes Act.Computes is wr (Ok Simples.Dropped) l wide q f =
          record { effect = dropped_effect ms answers floor u st h g p (λ id k. put_still h.bytes o (X Act.Computes) id k p.bytewise fit q); walks = refl }
      output_makes Act.Computes is wr (Ok (Simples.Skips i)) l wide q f = absurd q
      output_makes Act.Computes is wr (Ok (Simples.Copies z e)) l wide q f =
          subst (λ (n : VarNode). Makes Act.Computes u st (made_in (made_of store vars (Ok (Simples.Copies n e)) least)) h g) (sym q.0)
          (record { effect = copies_effect w wide e q.1 q.2 q.3 q.4 q.5; walks = refl })
      output_makes Act.Computes is wr (Ok (Simples.Stays r)) l wide q f =
          subst (λ (n : Stmt). IsFine (made_of store vars (Ok (Simples.Stays n)) least) → Makes Act.Computes u st (made_in (made_of store vars (Ok (Simples.Stays n)) least)) h g) (sym q) (kept_makes Act.Computes is wr w wide) f
      output_makes Act.Computes is wr (Err z) l wide q f = absurd f
      output_makes (Act.Loads i) is wr (Ok (Simples.Stays r)) l wide q f =
          subst (λ (n : Stmt). IsFine (made_of store vars (Ok (Simples.Stays n)) least) → Makes (Act.Loads i) u st (made_in (made_of store vars (Ok (Simples.Stays n)) least)) h g) (sym q) (kept_makes (Act.Loads i) is wr w wide) f
      output_makes (Act.Loads i) is wr (Ok Simples.Dropped) l wide q f = absurd l
      output_makes (Act.Loads i) is wr (Ok (Simples.Skips j)) l wide q f = absurd l
      output_makes (Act.Loads i) is wr (Ok (Simples.Copies z e)) l wide q f = absurd l
      output_makes (Act.Loads i) is wr (Err z) l wide q f = absurd l
      output_makes Act.Nothing is wr m l wide q f = absurd wr
      output_makes Act.Marks is wr m l wide q f = absurd wr
      output_makes (Act.Jumps j) is wr m l wide q f = absurd wr
      output_makes (Act.Exits j) is wr m l wide q f = absurd wr
      output_makes (Act.Stores j) is wr m l wide q f = absurd wr
