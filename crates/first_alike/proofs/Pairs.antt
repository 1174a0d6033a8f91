-- Two machines by id that differ in added temporaries only, and how their steps keep them so.
use Rattle.std.proofs.Common.{ℕ, suc, ◌*◌, arith, ◌≡◌, refl, sym, ap, ap₂, ◌∙◌, subst, Bool, true, false, not, ◌&&◌, ◌||◌, List, ◌∷◌, ◌++◌, eq-eqb, eqb, ltb, None as Next}
use mathlib.Core.Path.{fun_ext}
use Rattle.pcode.specs.Var.{pick, same_id, less_id, size_of, size_out}
use Rattle.pcode.specs.Block.{lasting, stmt_of}
use Rattle.pcode.specs.declared.var.VarId.{VarId}
use Rattle.pcode.specs.declared.var.Operand.{Operand}
use Rattle.pcode.specs.declared.var.Operand.TheVariants.{None, Const, Var}
use Rattle.pcode.specs.Var.{Output}
use Rattle.pcode.specs.declared.op.Op.{Op}
use Rattle.pcode.specs.declared.block.Stmt.{Stmt}
use Rattle.pcode.specs.declared.block.Marks.{Marks}
use Rattle.pcode.proofs.Ids.{same_id_true}
use Rattle.vars.proofs.Rows.{ways}
use Rattle.live_bytes.specs.Bytes.{inside}
use Rattle.meaning.specs.Meaning.{meaning}
use Rattle.step.specs.Steps.{act_of, loads_after, flow_of}
use Rattle.step.specs.declared.Act.{Act}
use Rattle.alike.proofs.Fits.{InRow}
use Rattle.alike.proofs.Havoc.{State, Set, value_by, result_by, mixed, view, Sight, sights_of, Temps, temps_after, bytes_after, Holding, holding, also, reached, rough, run_by}
use Rattle.alike.proofs.Parts.{Bytewise, value_cong, pick-cong, put_agree, put_bytes}

module _ (ms : Marks) (answers : List ℕ) (floor : VarId) where
  -- not an added temporary
  abbrev pub Real : VarId → Type 0
  Real id = less_id id floor ≡ false

  abbrev pub RealIn : Operand → Type 0
  RealIn None = Unit {0}
  RealIn (Const v n) = Unit {0}
  RealIn (Var v) = Real v.id

  -- two states agree on all but added temporaries
  abbrev pub Alike : State → State → Type 0
  Alike s t = (id : VarId) → Real id → (k : ℕ) → s id k ≡ t id k

  pub record Pair (h g : Holding) : Type 0 where
    pub bytes : Alike h.bytes g.bytes
    pub changed : (id : VarId) → Real id → (k : ℕ) → h.changed id k ≡ g.changed id k
    pub loads : h.loads ≡ g.loads
    pub bytewise : Bytewise h.bytes

  both_true : (a b : Bool) → (a && b) ≡ true → (a ≡ true) × (b ≡ true)
  both_true true b h = (refl, h)
  both_true false b h = absurd (let z : ◌≡◌ {A = ℕ} 0 1 = cc in omega arith)

  -- an operand that names no added temporary has one value
  pub value_alike : (s t : State) (a : Operand) → Alike s t → RealIn a → InRow a → value_by s a ≡ value_by t a
  value_alike s t None e r f = refl
  value_alike s t (Const v n) e r f = refl
  value_alike s t (Var v) e r f =
      value_cong s t (Var v) f
      (λ id k n. e id (subst (λ (i : VarId). Real i) (same_id_true v.id id (both_true (same_id v.id id) (inside v k) n).0) r) k)

  -- what is changed in a step between states that agree
  also_alike : (s s₁ t t₁ : State) (w w₁ : Set) (id : VarId) (k : ℕ) → s id k ≡ t id k → s₁ id k ≡ t₁ id k → w id k ≡ w₁ id k → also s s₁ w id k ≡ also t t₁ w₁ id k
  also_alike s s₁ t t₁ w w₁ id k e f g = ap₂ (λ (x : Bool) (y : Bool). not x || y) (ap₂ eqb e f) g

  -- nothing is changed between states that agree
  also_still : (s t : State) (w : Set) (id : VarId) (k : ℕ) → t id k ≡ s id k → also s t w id k ≡ w id k
  also_still s t w id k e = ap (λ (x : Bool). not x || w id k) (eq-eqb (s id k) (t id k) (sym e))

  -- a step of each
  pub moved : (h g : Holding) (t u : State) (act act₁ : Act) → Pair h g → Alike t u → Bytewise t → loads_after h.loads act ≡ loads_after g.loads act₁
      → Pair (reached t act h) (reached u act₁ g)
  moved h g t u act act₁ p e b l =
      record {
        bytes = e;
        changed = λ id r k. also_alike h.bytes t g.bytes u h.changed g.changed id k (p.bytes id r k) (e id r k) (p.changed id r k);
        loads = l;
        bytewise = b;
      }

  -- a step of the first that changes nothing
  pub stood : (h g : Holding) (t : State) (act : Act) → Pair h g → Alike t h.bytes → Bytewise t → loads_after h.loads act ≡ h.loads → Pair (reached t act h) g
  stood h g t act p e b l =
      record {
        bytes = λ id r k. e id r k ∙ p.bytes id r k;
        changed = λ id r k. also_still h.bytes t h.changed id k (e id r k) ∙ p.changed id r k;
        loads = l ∙ p.loads;
        bytewise = b;
      }

  -- a step of the second that touches an added temporary only
  pub added : (h g : Holding) (u : State) (act : Act) → Pair h g → Alike u g.bytes → (n : ℕ) → n ≡ loads_after g.loads act → Pair (holding h.bytes h.changed n) (reached u act g)
  added h g u act p e n l =
      record {
        bytes = λ id r k. p.bytes id r k ∙ sym (e id r k);
        changed = λ id r k. p.changed id r k ∙ sym (also_still g.bytes u g.changed id k (e id r k));
        loads = l;
        bytewise = p.bytewise;
      }

  pub mixed_bytes : (w : Set) (s u : State) → Bytewise s → Bytewise u → Bytewise (mixed ms w s u)
  unfolding mixed
  mixed_bytes w s u b d id k =
      ways (lasting ms id) (λ e. rw e (b id k)) (λ e. ways (w id k) (λ f. rw (e, f) (d id k)) (λ f. rw (e, f) (b id k)))

  mixed_alike : (w w₁ : Set) (s t u : State) (id : VarId) (k : ℕ) → s id k ≡ t id k → w id k ≡ w₁ id k → mixed ms w s u id k ≡ mixed ms w₁ t u id k
  unfolding mixed
  mixed_alike w w₁ s t u id k e f = ap₂ (λ (x : Bool) (y : ℕ). pick (lasting ms id) y (pick x (u id k) y)) f e

  -- one effect on two machines
  pub after_alike : (act : Act) (h g : Holding) (u : State) (o : Output) (x : ℕ) → Pair h g
      → Alike (bytes_after ms act h.changed h.bytes u o x) (bytes_after ms act g.changed g.bytes u o x)
  after_alike Act.Nothing h g u o x p id r k = put_agree h.bytes g.bytes o x id k (λ n. p.bytes id r k)
  after_alike Act.Marks h g u o x p id r k = mixed_alike h.changed g.changed h.bytes g.bytes u id k (p.bytes id r k) (p.changed id r k)
  after_alike (Act.Jumps l) h g u o x p id r k = put_agree h.bytes g.bytes o x id k (λ n. p.bytes id r k)
  after_alike (Act.Exits i) h g u o x p id r k = put_agree h.bytes g.bytes o x id k (λ n. p.bytes id r k)
  after_alike (Act.Loads i) h g u o x p id r k = put_agree h.bytes g.bytes o x id k (λ n. p.bytes id r k)
  after_alike (Act.Stores i) h g u o x p id r k = put_agree h.bytes g.bytes o x id k (λ n. p.bytes id r k)
  after_alike Act.Computes h g u o x p id r k = put_agree h.bytes g.bytes o x id k (λ n. p.bytes id r k)

  pub after_bytes : (act : Act) (w : Set) (s u : State) (o : Output) (x : ℕ) → Bytewise s → Bytewise u → Bytewise (bytes_after ms act w s u o x)
  after_bytes Act.Nothing w s u o x b d = put_bytes s o x b
  after_bytes Act.Marks w s u o x b d = mixed_bytes w s u b d
  after_bytes (Act.Jumps l) w s u o x b d = put_bytes s o x b
  after_bytes (Act.Exits i) w s u o x b d = put_bytes s o x b
  after_bytes (Act.Loads i) w s u o x b d = put_bytes s o x b
  after_bytes (Act.Stores i) w s u o x b d = put_bytes s o x b
  after_bytes Act.Computes w s u o x b d = put_bytes s o x b

  -- the markers to come
  abbrev pub onward : Act → (ℕ → State) → (ℕ → State)
  onward Act.Nothing u = u
  onward Act.Marks u = λ n. u (suc n)
  onward (Act.Jumps l) u = u
  onward (Act.Exits n) u = u
  onward (Act.Loads n) u = u
  onward (Act.Stores n) u = u
  onward Act.Computes u = u

  pub onward_temps : (act : Act) (u : ℕ → State) → temps_after act (rough u) ≡ rough (onward act u)
  onward_temps Act.Nothing u = refl
  onward_temps Act.Marks u = refl
  onward_temps (Act.Jumps l) u = refl
  onward_temps (Act.Exits n) u = refl
  onward_temps (Act.Loads n) u = refl
  onward_temps (Act.Stores n) u = refl
  onward_temps Act.Computes u = refl

  pub onward_bytes : (act : Act) (u : ℕ → State) → ((n : ℕ) → Bytewise (u n)) → (n : ℕ) → Bytewise (onward act u n)
  onward_bytes Act.Nothing u b n = b n
  onward_bytes Act.Marks u b n = b (suc n)
  onward_bytes (Act.Jumps l) u b n = b n
  onward_bytes (Act.Exits i) u b n = b n
  onward_bytes (Act.Loads i) u b n = b n
  onward_bytes (Act.Stores i) u b n = b n
  onward_bytes Act.Computes u b n = b n

  -- the step of a statement whose operands' values are a and b
  abbrev pub step_to : (ℕ → State) → Stmt → ℕ → ℕ → Holding → Holding
  step_to u st a b h = reached (bytes_after ms (act_of st.op) h.changed h.bytes (u 0) st.output (result_by answers h.loads st (act_of st.op) a b)) (act_of st.op) h

  abbrev pub seen_at : Stmt → ℕ → ℕ → Holding → List Sight
  seen_at st a b h = sights_of (view ms h.bytes) (act_of st.op) a b

  -- one statement of a run
  pub run_step : (u : ℕ → State) (st : Stmt) (rest : List Stmt) (h : Holding) (a b : ℕ) → value_by h.bytes st.first ≡ a → value_by h.bytes st.second ≡ b
      → run_by ms answers (rough u) (st ∷ rest) Next h
      ≡ seen_at st a b h ++ run_by ms answers (rough (onward (act_of st.op) u)) rest (flow_of (act_of st.op) a) (step_to u st a b h)
  unfolding run_by
  run_step u st rest h a b e f =
      ap₂ (λ (x y : ℕ). seen_at st x y h ++ run_by ms answers (temps_after (act_of st.op) (rough u)) rest (flow_of (act_of st.op) x) (step_to u st x y h)) e f
      ∙ ap (λ (t : Temps). seen_at st a b h ++ run_by ms answers t rest (flow_of (act_of st.op) a) (step_to u st a b h)) (onward_temps (act_of st.op) u)

  -- the number that a statement writes, where its operation, its output and its first operand's size are another's
  pub result_alike : (n : ℕ) (act : Act) (op : Op) (o : Output) (a b c d : Operand) (x y : ℕ) → size_of c ≡ size_of a
      → result_by answers n (stmt_of op o c d) act x y ≡ result_by answers n (stmt_of op o a b) act x y
  result_alike n Act.Nothing op o a b c d x y e = refl
  result_alike n Act.Marks op o a b c d x y e = refl
  result_alike n (Act.Jumps l) op o a b c d x y e = refl
  result_alike n (Act.Exits i) op o a b c d x y e = refl
  result_alike n (Act.Loads i) op o a b c d x y e = refl
  result_alike n (Act.Stores i) op o a b c d x y e = refl
  result_alike n Act.Computes op o a b c d x y e = ap (λ (i : ℕ). meaning op (i8 i) (i8 (size_out o)) x y) e
    where
      i8 : ℕ → ℕ
      i8 i = 8 * i

  module _ (real : (id : VarId) → lasting ms id ≡ true → Real id) where
    pub view_alike : (s t : State) → Alike s t → view ms s ≡ view ms t
    unfolding view
    view_alike s t e = fun_ext λ id. fun_ext λ k. pick-cong (lasting ms id && ltb k 16) (λ q. e id (real id (both_true (lasting ms id) (ltb k 16) q).0) k) (λ q. refl)

    -- a statement that is kept, with operands of the same values
    pub kept_right : (u : ℕ → State) (op : Op) (o : Output) (a b c d : Operand) (tail : List Stmt) (h g : Holding) → Pair h g
        → value_by h.bytes c ≡ value_by h.bytes a → value_by h.bytes d ≡ value_by h.bytes b → size_of c ≡ size_of a → RealIn c → RealIn d → InRow c → InRow d
        → run_by ms answers (rough u) (stmt_of op o c d ∷ tail) Next g
        ≡ seen_at (stmt_of op o a b) (value_by h.bytes a) (value_by h.bytes b) h
        ++ run_by ms answers (rough (onward (act_of op) u)) tail (flow_of (act_of op) (value_by h.bytes a)) (reached (bytes_after ms (act_of op) g.changed g.bytes (u 0) o (result_by answers h.loads (stmt_of op o a b) (act_of op) (value_by h.bytes a) (value_by h.bytes b))) (act_of op) g)
    kept_right u op o a b c d tail h g p ea eb z rc rd fc fd =
        let x = value_by h.bytes a in
        let y = value_by h.bytes b in
        run_step u (stmt_of op o c d) tail g x y (sym (value_alike h.bytes g.bytes c p.bytes rc fc) ∙ ea) (sym (value_alike h.bytes g.bytes d p.bytes rd fd) ∙ eb)
        ∙ ap₂ (λ (v : State) (r : ℕ). sights_of v (act_of op) x y ++ run_by ms answers (rough (onward (act_of op) u)) tail (flow_of (act_of op) x) (reached (bytes_after ms (act_of op) g.changed g.bytes (u 0) o r) (act_of op) g))
        (sym (view_alike h.bytes g.bytes p.bytes))
        (ap (λ (n : ℕ). result_by answers n (stmt_of op o c d) (act_of op) x y) (sym p.loads) ∙ result_alike h.loads (act_of op) op o a b c d x y z)
