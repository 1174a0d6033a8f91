-- What the pass makes of one statement has the statement's effect: kept, dropped, a copy, or by way of an added temporary.
use Rattle.std.proofs.Common.{ℕ, ◌+◌, ◌*◌, ◌%◌, ◌^◌, ◌≤◌, arith, mod-lt, ◌≡◌, refl, sym, ap, ap₂, ◌∙◌, subst, true, true≢false, List, [], ◌∷◌, ◌++◌, pow_pos, None as Next}
use Rattle.pcode.specs.Var.{cut, less_id, size_of, size_out}
use Rattle.pcode.specs.Block.{lasting, stmt_of}
use Rattle.pcode.specs.declared.var.VarId.{VarId}
use Rattle.pcode.specs.declared.var.VarNode.{VarNode}
use Rattle.pcode.specs.declared.var.Operand.{Operand}
use Rattle.pcode.specs.declared.var.Operand.TheVariants.{None, Var}
use Rattle.pcode.specs.Var.{Output}
use Rattle.std.specs.declared.option.Option.TheVariants as Out
use Rattle.pcode.specs.declared.op.OneOp.{OneOp}
use Rattle.pcode.specs.declared.op.OneOp.TheVariants.{Copy, ZeroExtend}
use Rattle.pcode.specs.declared.op.Op.{Op}
use Rattle.pcode.specs.declared.op.Op.TheVariants.{One as OneOf}
use Rattle.pcode.specs.declared.block.Stmt.{Stmt}
use Rattle.pcode.specs.declared.block.Marks.{Marks}
use Rattle.meaning.specs.Meaning.{meaning}
use Rattle.step.specs.Steps.{act_of, answer_at, loads_after, flow_of}
use Rattle.step.specs.declared.Act.{Act}
use Rattle.step.specs.Steps.{Flow}
use Rattle.widen.specs.Widen.{lowest, added_of}
use Rattle.alike.proofs.Fits.{InRow}
use Rattle.alike.proofs.Havoc.{State, Set, value_by, put_by, result_by, view, Sight, sights_of, bytes_after, Holding, holding, reached, rough, run_by}
use Rattle.alike.proofs.Parts.{Bytewise, put_agree, put_bytes}
use Rattle.first_alike.proofs.Puts.{put_off}
use Rattle.first_alike.proofs.Widths.{Wide, num_put, put_widened}
use Rattle.first_alike.proofs.Pairs.{Real, RealIn, Alike, Pair, moved, stood, added, after_alike, after_bytes, onward, run_step, kept_right}

-- the copies that the pass writes
abbrev pub Copying : OneOp → Type 0
Copying k = (w o y z : ℕ) → meaning (OneOf k) w o y z ≡ y

pub copy_copies : Copying Copy
unfolding meaning
copy_copies w o y z = refl

pub extend_copies : Copying ZeroExtend
unfolding meaning
extend_copies w o y z = refl

-- an act that writes an output
abbrev pub Writer : Act → Type 0
Writer Act.Nothing = ⊥
Writer Act.Marks = ⊥
Writer (Act.Jumps l) = ⊥
Writer (Act.Exits n) = ⊥
Writer (Act.Loads n) = Unit {0}
Writer (Act.Stores n) = ⊥
Writer Act.Computes = Unit {0}

module _ (ms : Marks) (answers : List ℕ) (floor : VarId) where
  -- the machine after a statement that does act
  abbrev pub step_by : Act → (ℕ → State) → Stmt → Holding → Holding
  step_by act u st h =
      reached (bytes_after ms act h.changed h.bytes (u 0) st.output (result_by answers h.loads st act (value_by h.bytes st.first) (value_by h.bytes st.second))) act h

  abbrev pub seen_by : Act → Stmt → Holding → List Sight
  seen_by act st h = sights_of (view ms h.bytes) act (value_by h.bytes st.first) (value_by h.bytes st.second)

  abbrev pub run : (ℕ → State) → List Stmt → Flow → Holding → List Sight
  run u ss f h = run_by ms answers (rough u) ss f h

  -- some statements do to g what st does to h
  pub record Effect (act : Act) (u : ℕ → State) (st : Stmt) (made : List Stmt) (h g : Holding) : Type 0 where
    pub other : Holding
    pub right : (tail : List Stmt) → run u (made ++ tail) Next g ≡ seen_by act st h ++ run (onward ms answers floor act u) tail (flow_of act (value_by h.bytes st.first)) other
    pub pair : Pair ms answers floor (step_by act u st h) other

  -- the statement's own step
  pub left : (act : Act) (u : ℕ → State) (st : Stmt) (rest : List Stmt) (h : Holding) → act_of st.op ≡ act
      → run u (st ∷ rest) Next h ≡ seen_by act st h ++ run (onward ms answers floor act u) rest (flow_of act (value_by h.bytes st.first)) (step_by act u st h)
  left act u st rest h e =
      subst (λ (x : Act). run u (st ∷ rest) Next h ≡ seen_by x st h ++ run (onward ms answers floor x u) rest (flow_of x (value_by h.bytes st.first)) (step_by x u st h)) e
      (run_step ms answers floor u st rest h (value_by h.bytes st.first) (value_by h.bytes st.second) refl refl)

  -- dropped: nothing changes
  pub dropped_effect : (u : ℕ → State) (st : Stmt) (h g : Holding) → Pair ms answers floor h g
      → ((id : VarId) (k : ℕ) → (step_by Act.Computes u st h).bytes id k ≡ h.bytes id k) → Effect Act.Computes u st [] h g
  dropped_effect u st h g p e =
      record {
        other = g;
        right = λ tail. refl;
        pair = stood ms answers floor h g (step_by Act.Computes u st h).bytes Act.Computes p (λ id r k. e id k) (put_bytes h.bytes st.output _ p.bytewise) refl;
      }

  -- a copy of y to an output
  pub copied_effect : (u : ℕ → State) (st : Stmt) (k : OneOp) (o : Output) (c : Operand) (y : ℕ) (h g : Holding) → Copying k → Pair ms answers floor h g → value_by g.bytes c ≡ y
      → ((id : VarId) (i : ℕ) → (step_by Act.Computes u st h).bytes id i ≡ put_by h.bytes o y id i) → Effect Act.Computes u st (stmt_of (OneOf k) o c None ∷ []) h g
  copied_effect u st k o c y h g m p v e =
      record {
        other = reached (put_by g.bytes o y) Act.Computes g;
        right = λ tail.
            run_step ms answers floor u (stmt_of (OneOf k) o c None) tail g y 0 v refl
            ∙ ap (λ (x : ℕ). run u tail Next (reached (put_by g.bytes o x) Act.Computes g)) (m (8 * size_of c) (8 * size_out o) y 0);
        pair =
            moved ms answers floor h g (step_by Act.Computes u st h).bytes (put_by g.bytes o y) Act.Computes Act.Computes p
            (λ id r i. e id i ∙ put_agree h.bytes g.bytes o y id i (λ n. p.bytes id r i)) (put_bytes h.bytes st.output _ p.bytewise) p.loads;
      }

  writer_bytes : (act : Act) → Writer act → (w : Set) (s u : State) (o : Output) (x : ℕ) → bytes_after ms act w s u o x ≡ put_by s o x
  writer_bytes Act.Nothing h w s u o x = absurd h
  writer_bytes Act.Marks h w s u o x = absurd h
  writer_bytes (Act.Jumps l) h w s u o x = absurd h
  writer_bytes (Act.Exits n) h w s u o x = absurd h
  writer_bytes (Act.Loads n) h w s u o x = refl
  writer_bytes (Act.Stores n) h w s u o x = absurd h
  writer_bytes Act.Computes h w s u o x = refl

  writer_onward : (act : Act) → Writer act → (u : ℕ → State) → onward ms answers floor act u ≡ u
  writer_onward Act.Nothing h u = absurd h
  writer_onward Act.Marks h u = absurd h
  writer_onward (Act.Jumps l) h u = absurd h
  writer_onward (Act.Exits n) h u = absurd h
  writer_onward (Act.Loads n) h u = refl
  writer_onward (Act.Stores n) h u = absurd h
  writer_onward Act.Computes h u = refl

  writer_flow : (act : Act) → Writer act → (a : ℕ) → flow_of act a ≡ Next
  writer_flow Act.Nothing h a = absurd h
  writer_flow Act.Marks h a = absurd h
  writer_flow (Act.Jumps l) h a = absurd h
  writer_flow (Act.Exits n) h a = absurd h
  writer_flow (Act.Loads n) h a = refl
  writer_flow (Act.Stores n) h a = absurd h
  writer_flow Act.Computes h a = refl

  -- an output of the same size takes the same number
  result_sized : (n : ℕ) (act : Act) (op : Op) (o q : Output) (a b : Operand) (x y : ℕ) → size_out q ≡ size_out o
      → result_by answers n (stmt_of op q a b) act x y ≡ result_by answers n (stmt_of op o a b) act x y
  result_sized n Act.Nothing op o q a b x y e = refl
  result_sized n Act.Marks op o q a b x y e = refl
  result_sized n (Act.Jumps l) op o q a b x y e = refl
  result_sized n (Act.Exits i) op o q a b x y e = refl
  result_sized n (Act.Loads i) op o q a b x y e = ap (λ (j : ℕ). cut (answer_at answers n) j) e
  result_sized n (Act.Stores i) op o q a b x y e = refl
  result_sized n Act.Computes op o q a b x y e = ap (λ (j : ℕ). meaning op (8 * size_of a) (8 * j) x y) e

  module _ (real : (id : VarId) → lasting ms id ≡ true → Real ms answers floor id) (u : ℕ → State) (calm : Bytewise (u 0)) (op : Op) (act : Act) (is : act_of op ≡ act) (a b c d : Operand) (h g : Holding)
      (p : Pair ms answers floor h g) (ea : value_by h.bytes c ≡ value_by h.bytes a) (eb : value_by h.bytes d ≡ value_by h.bytes b) (size : size_of c ≡ size_of a)
      (rc : RealIn ms answers floor c) (rd : RealIn ms answers floor d) (fc : InRow c) (fd : InRow d) where
    abbrev x : Output → ℕ
    x o = result_by answers h.loads (stmt_of op o a b) act (value_by h.bytes a) (value_by h.bytes b)

    first_right : (o : Output) (tail : List Stmt) → run u (stmt_of op o c d ∷ tail) Next g
        ≡ seen_by act (stmt_of op o a b) h ++ run (onward ms answers floor act u) tail (flow_of act (value_by h.bytes a)) (reached (bytes_after ms act g.changed g.bytes (u 0) o (x o)) act g)
    first_right o tail =
        subst (λ (z : Act). run u (stmt_of op o c d ∷ tail) Next g
        ≡ seen_by z (stmt_of op o a b) h ++ run (onward ms answers floor z u) tail (flow_of z (value_by h.bytes a)) (reached (bytes_after ms z g.changed g.bytes (u 0) o (result_by answers h.loads (stmt_of op o a b) z (value_by h.bytes a) (value_by h.bytes b))) z g)) is
        (kept_right ms answers floor real u op o a b c d tail h g p ea eb size rc rd fc fd)

    -- kept, with other operands of the same values
    pub kept_effect : (o : Output) → Effect act u (stmt_of op o a b) (stmt_of op o c d ∷ []) h g
    kept_effect o =
        record {
          other = reached (bytes_after ms act g.changed g.bytes (u 0) o (x o)) act g;
          right = first_right o;
          pair =
              moved ms answers floor h g _ _ act act p (after_alike ms answers floor act h g (u 0) o (x o) p)
              (after_bytes ms answers floor act h.changed h.bytes (u 0) o (x o) p.bytewise calm) (ap (λ (n : ℕ). loads_after n act) p.loads);
        }

    -- to an added temporary and a `ZeroExtend`
    module _ (writer : Writer act) (o : VarNode) (fit : o.offset + o.size ≤ 16) (least : VarId) (under : less_id (added_of least o).id floor ≡ true) (w : ℕ)
        (wide : Wide (put_by h.bytes (Out.Some o) (x (Out.Some o))) o w) where
      abbrev add : VarNode
      add = added_of least o

      abbrev y : ℕ
      y = x (Out.Some o) % 2 ^ (8 * o.size)

      abbrev mid : State
      mid = put_by g.bytes (Out.Some add) (x (Out.Some o))

      abbrev between : Holding
      between = reached mid act g

      add_fit : add.offset + add.size ≤ 16
      add_fit = omega (arith, fit)

      mid_alike : Alike ms answers floor mid g.bytes
      mid_alike id r k = put_off g.bytes add (x (Out.Some o)) id k add_fit (λ e m n. true≢false (sym under ∙ ap (λ (i : VarId). less_id i floor) e ∙ r))

      read_back : value_by between.bytes (Var add) ≡ y
      read_back = num_put g.bytes add (x (Out.Some o)) add_fit

      to_mid : reached (bytes_after ms act g.changed g.bytes (u 0) (Out.Some add) (x (Out.Some add))) act g ≡ between
      to_mid =
          ap (λ (s : State). reached s act g)
          (writer_bytes act writer g.changed g.bytes (u 0) (Out.Some add) (x (Out.Some add))
          ∙ ap (put_by g.bytes (Out.Some add)) (result_sized h.loads act op (Out.Some o) (Out.Some add) a b (value_by h.bytes a) (value_by h.bytes b) refl))

      abbrev extend : Stmt
      extend = stmt_of (OneOf ZeroExtend) (lowest o w) (Var add) None

      abbrev end : Holding
      end = reached (put_by mid (lowest o w) y) Act.Computes between

      second_right : (tail : List Stmt) → run u (extend ∷ tail) Next between ≡ run u tail Next end
      second_right tail =
          run_step ms answers floor u extend tail between y 0 read_back refl
          ∙ ap (λ (z : ℕ). run u tail Next (reached (put_by mid (lowest o w) z) Act.Computes between)) (extend_copies (8 * o.size) (8 * w) y 0)

      own : (step_by act u (stmt_of op (Out.Some o) a b) h).bytes ≡ put_by h.bytes (Out.Some o) (x (Out.Some o))
      own = writer_bytes act writer h.changed h.bytes (u 0) (Out.Some o) (x (Out.Some o))

      pub added_effect : Effect act u (stmt_of op (Out.Some o) a b) (stmt_of op (Out.Some add) c d ∷ extend ∷ []) h g
      added_effect =
          record {
            other = end;
            right = λ tail.
                first_right (Out.Some add) (extend ∷ tail)
                ∙ ap (λ (k : Holding). seen_by act (stmt_of op (Out.Some o) a b) h ++ run (onward ms answers floor act u) (extend ∷ tail) (flow_of act (value_by h.bytes a)) k) to_mid
                ∙ ap (λ (z : List Sight). seen_by act (stmt_of op (Out.Some o) a b) h ++ z)
                (ap₂ (λ (v : ℕ → State) (f : Flow). run v (extend ∷ tail) f between) (writer_onward act writer u) (writer_flow act writer (value_by h.bytes a))
                ∙ second_right tail
                ∙ sym (ap₂ (λ (v : ℕ → State) (f : Flow). run v tail f end) (writer_onward act writer u) (writer_flow act writer (value_by h.bytes a))));
            pair =
                moved ms answers floor (holding h.bytes h.changed (loads_after h.loads act)) between (step_by act u (stmt_of op (Out.Some o) a b) h).bytes (put_by mid (lowest o w) y) Act.Computes Act.Computes
                (added ms answers floor h g mid act p mid_alike (loads_after h.loads act) (ap (λ (n : ℕ). loads_after n act) p.loads))
                (λ id r k.
                ap (λ (s : State). s id k) own
                ∙ put_widened h.bytes o (x (Out.Some o)) y w id k fit (mod-lt (x (Out.Some o)) (pow_pos (8 * o.size))) refl wide
                ∙ put_agree h.bytes mid (lowest o w) y id k (λ n. p.bytes id r k ∙ sym (mid_alike id r k)))
                (after_bytes ms answers floor act h.changed h.bytes (u 0) (Out.Some o) (x (Out.Some o)) p.bytewise calm)
                (ap (λ (n : ℕ). loads_after n act) p.loads);
          }
