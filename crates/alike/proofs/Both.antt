-- Treated blocks run alike: the second pass after any first one whose result's runs are the block's for some content of the temporaries.
use Rattle.std.proofs.Common.{ℕ, ◌≤◌, ◌≡◌, refl, ◌∙◌, true, false, List, ltb, length, Ok}
use Rattle.pcode.specs.Block.{held, second_limits}
use Rattle.pcode.specs.declared.block.Stmt.{Stmt}
use Rattle.pcode.specs.declared.block.Block.{Block}
use Rattle.pcode.specs.declared.block.Marks.{Marks}
use Rattle.vars.specs.Vars.{vars_of}
use Rattle.checks.specs.Checks.{check_of}
use Rattle.checks.proofs.Passing.{passing}
use Rattle.machine.specs.Class.{first_outside}
use Rattle.machine.specs.declared.class.Class.{Class}
use Rattle.dead_store.specs.Stays.{eliminated}
use Rattle.std.specs.Prelude.{None as Next}
use Rattle.run.specs.Run.{run_of, Shape}
use Rattle.alike.specs.ById.{Start, StartsAs}
use Rattle.alike.specs.Alike.{Alike}
use Rattle.alike.specs.Premises.{in_one_instruction, fresh_run}
use Rattle.alike.proofs.Fits.{AllFit}
use Rattle.alike.proofs.Havoc.{State, rough, run_by}
use Rattle.alike.proofs.Parts.{Bytewise}
use Rattle.alike.proofs.Seen.{alike}
use Rattle.alike.proofs.Second.{start_holding, clean_havoc, second_alike}
use Rattle.alike.proofs.Starts.{bytes_at, bytes_at_lem, same_byte, starts_bytes, alike_same}
use Rattle.alike.proofs.Checked.{all_fit}

-- for what the markers leave in the result's run there is something that they leave in the given block's
abbrev pub FirstAlike : Marks → List ℕ → List Stmt → List Stmt → Type 0
FirstAlike ms answers b b₁ =
    (start : Start) → Bytewise start → (u : ℕ → State) → ((n : ℕ) → Bytewise (u n))
    → (v : ℕ → State) × (run_by ms answers (rough v) b Next (start_holding start) ≡ run_by ms answers (rough u) b₁ Next (start_holding start))

module _ (ms : Marks) (answers : List ℕ) (b b₁ : List Stmt) (fit : AllFit b) (fit₁ : AllFit b₁) (room : length (vars_of b) ≤ 112) (room₁ : length (vars_of b₁) ≤ 112)
    (one : in_one_instruction b₁ ≡ true) (first : FirstAlike ms answers b b₁)
    (start : Start) (rows rows' : List (List ℕ)) (shape : Shape rows) (shape' : Shape rows')
    (same : StartsAs (vars_of b) rows start) (same' : StartsAs (vars_of (eliminated ms b₁)) rows' start) (fresh : fresh_run ms answers b rows ≡ true) where
  abbrev cut : Start
  cut = bytes_at start

  cut_alike : Alike ms cut (vars_of b) (vars_of (eliminated ms b₁)) (run_of answers b rows) (run_of answers (eliminated ms b₁) rows')
  cut_alike =
      let p = second_alike ms answers b₁ fit₁ one room₁ cut (bytes_at_lem start) rows' shape' (starts_bytes (vars_of (eliminated ms b₁)) start rows' shape' same') in
      let q = first cut (bytes_at_lem start) p.0 p.1 in
      alike ms cut (vars_of b) (vars_of (eliminated ms b₁)) (run_of answers b rows) (run_of answers (eliminated ms b₁) rows')
      (clean_havoc ms answers b cut rows fit room shape (starts_bytes (vars_of b) start rows shape same) fresh q.0 ∙ q.1 ∙ p.2)

  -- both passes
  pub both_alike : Alike ms start (vars_of b) (vars_of (eliminated ms b₁)) (run_of answers b rows) (run_of answers (eliminated ms b₁) rows')
  both_alike =
      alike_same ms cut start (vars_of b) (vars_of (eliminated ms b₁)) (same_byte (vars_of b) start rows shape same)
      (same_byte (vars_of (eliminated ms b₁)) start rows' shape' same') cut_alike

-- no first pass at all
nothing_first : (ms : Marks) (answers : List ℕ) (ss : List Stmt) → FirstAlike ms answers ss ss
nothing_first ms answers ss start h u g = (u, refl)

-- the second pass alone: a block and what it leaves of it run alike
pub second_pass_alike : (ms : Marks) (answers : List ℕ) (ss : List Stmt) → AllFit ss → length (vars_of ss) ≤ 112 → in_one_instruction ss ≡ true
    → (start : Start) (rows rows' : List (List ℕ)) → Shape rows → Shape rows' → StartsAs (vars_of ss) rows start → StartsAs (vars_of (eliminated ms ss)) rows' start
    → fresh_run ms answers ss rows ≡ true
    → Alike ms start (vars_of ss) (vars_of (eliminated ms ss)) (run_of answers ss rows) (run_of answers (eliminated ms ss) rows')
second_pass_alike ms answers ss fit room one start rows rows' shape shape' same same' fresh =
    both_alike ms answers ss ss fit fit room room one (nothing_first ms answers ss) start rows rows' shape shape' same same' fresh

-- both passes, of blocks that pass the checks and that refusal 16 does not meet
pub both_checked : (c : Class) (ms : Marks) (answers : List ℕ) (b b₁ : Block)
    → check_of second_limits b ≡ Ok tt → ltb (first_outside c (held b) 0 (held b)) (length (held b)) ≡ false
    → check_of second_limits b₁ ≡ Ok tt → ltb (first_outside c (held b₁) 0 (held b₁)) (length (held b₁)) ≡ false
    → in_one_instruction (held b₁) ≡ true → FirstAlike ms answers (held b) (held b₁)
    → (start : Start) (rows rows' : List (List ℕ)) → Shape rows → Shape rows'
    → StartsAs (vars_of (held b)) rows start → StartsAs (vars_of (eliminated ms (held b₁))) rows' start → fresh_run ms answers (held b) rows ≡ true
    → Alike ms start (vars_of (held b)) (vars_of (eliminated ms (held b₁))) (run_of answers (held b) rows) (run_of answers (eliminated ms (held b₁)) rows')
both_checked c ms answers b b₁ ok class ok₁ class₁ one first =
    both_alike ms answers (held b) (held b₁) (all_fit c b ok class) (all_fit c b₁ ok₁ class₁) (passing second_limits b ok).vars (passing second_limits b₁ ok₁).vars one first

-- the second pass alone, of such a block
pub checked_alike : (c : Class) (ms : Marks) (answers : List ℕ) (b : Block)
    → check_of second_limits b ≡ Ok tt → ltb (first_outside c (held b) 0 (held b)) (length (held b)) ≡ false
    → in_one_instruction (held b) ≡ true → (start : Start) (rows rows' : List (List ℕ)) → Shape rows → Shape rows'
    → StartsAs (vars_of (held b)) rows start → StartsAs (vars_of (eliminated ms (held b))) rows' start → fresh_run ms answers (held b) rows ≡ true
    → Alike ms start (vars_of (held b)) (vars_of (eliminated ms (held b))) (run_of answers (held b) rows) (run_of answers (eliminated ms (held b)) rows')
checked_alike c ms answers b ok class one = both_checked c ms answers b b ok class ok class one (nothing_first ms answers (held b))
