-- The second pass by id: the run of what it leaves is the block's for some content of the temporaries, and that does not matter where no stale
-- temporary byte is read.
use Rattle.std.proofs.Common.{ℕ, ◌≤◌, arith, ◌≡◌, refl, sym, ap, ◌∙◌, true, false, List, ltb, lit<, length}
use Rattle.pcode.specs.Block.{lasting}
use Rattle.pcode.specs.declared.block.Stmt.{Stmt}
use Rattle.pcode.specs.declared.block.Marks.{Marks}
use Rattle.vars.specs.Vars.{vars_of}
use Rattle.dead_store.specs.Stays.{read_first, persists, judge, dead_of, eliminated}
use Rattle.std.specs.Prelude.{None as Next}
use Rattle.run.specs.Run.{start_of, run_of, Shape}
use Rattle.alike.specs.ById.{Start, StartsAs}
use Rattle.alike.specs.Premises.{in_one_instruction, none_yet, fresh_run}
use Rattle.alike.proofs.Fits.{AllFit}
use Rattle.alike.proofs.Havoc.{State, Holding, holding, calm, rough, run_by}
use Rattle.vars.proofs.Rows.{ways}
use Rattle.alike.proofs.Parts.{Bytewise}
use Rattle.alike.proofs.Tables.{start_state, all_known, state_start}
use Rattle.alike.proofs.Seen.{seen, seen_run}
use Rattle.alike.proofs.Bools.{or_left}
use Rattle.alike.proofs.Elim.{Some, sound}
use Rattle.alike.proofs.Judging.{elim_of}
use Rattle.alike.proofs.Fresh.{free}
use Rattle.alike.proofs.Fewer.{fit_without, vars_without}

-- a machine by id at a start
abbrev pub start_holding : Start → Holding
start_holding start = holding (start_state start) (λ id k. false) 0

pub start_bytes : (start : Start) → Bytewise start → Bytewise (start_state start)
unfolding start_state
start_bytes start h id k = ways (ltb k 16) (λ t. rw t (h id k)) (λ t. rw t (lit< tt))

-- what is seen of a block's run, by id
pub run_seen : (ms : Marks) (answers : List ℕ) (ss : List Stmt) (start : Start) (rows : List (List ℕ)) → AllFit ss → length (vars_of ss) ≤ 112
    → Shape rows → StartsAs (vars_of ss) rows start → seen ms (vars_of ss) start (run_of answers ss rows) ≡ run_by ms answers calm ss Next (start_holding start)
unfolding run_of
run_seen ms answers ss start rows fit room shape same =
    seen_run ms (vars_of ss) start room answers ss Next (start_of rows) (λ id k. false) fit (all_known ss) shape
    ∙ ap (λ (s : State). run_by ms answers calm ss Next (holding s (λ id k. false) 0)) (state_start (vars_of ss) start room rows same)

-- a run that reads no temporary byte last written by an earlier instruction is the same whatever markers leave in the temporaries
pub clean_havoc : (ms : Marks) (answers : List ℕ) (ss : List Stmt) (start : Start) (rows : List (List ℕ)) → AllFit ss → length (vars_of ss) ≤ 112
    → Shape rows → StartsAs (vars_of ss) rows start → fresh_run ms answers ss rows ≡ true
    → (u : ℕ → State) → seen ms (vars_of ss) start (run_of answers ss rows) ≡ run_by ms answers (rough u) ss Next (start_holding start)
unfolding run_of fresh_run
clean_havoc ms answers ss start rows fit room shape same fresh u =
    free ms (vars_of ss) start room answers ss Next (start_of rows) none_yet (start_state start) (λ id k. false) u fit (all_known ss) shape fresh
    (λ id k e. e) (λ id k e. ap (λ (s : State). s id k) (state_start (vars_of ss) start room rows same))

module _ (ms : Marks) (answers : List ℕ) (ss : List Stmt) (fit : AllFit ss) (one : in_one_instruction ss ≡ true) where
  -- the run of what the pass leaves is the block's for some content of the temporaries at the markers
  pub second_by_lem : (h : Holding) → Bytewise h.bytes → Some ms answers ss (eliminated ms ss) Next h h
  second_by_lem h b =
      sound ms answers (elim_of ms (persists ms ss) (λ id l. or_left (lasting ms id) (read_first false ss id) l) ss fit) Next h.bytes h.bytes
      h.changed h.changed h.loads fit one tt b (λ id k e. refl) (λ id k e. refl)

  module _ (room : length (vars_of ss) ≤ 112) (start : Start) (bytes : Bytewise start) where
    pub second_alike : (rows' : List (List ℕ)) → Shape rows' → StartsAs (vars_of (eliminated ms ss)) rows' start
        → (u : ℕ → State) × ((n : ℕ) → Bytewise (u n)) × (run_by ms answers (rough u) ss Next (start_holding start) ≡ seen ms (vars_of (eliminated ms ss)) start (run_of answers (eliminated ms ss) rows'))
    second_alike rows' shape same =
        let p = second_by_lem (start_holding start) (start_bytes start bytes) in
        let few = vars_without (dead_of (judge (persists ms ss) ss)) ss in
        (p.0, p.1, p.2 ∙ sym (run_seen ms answers (eliminated ms ss) start rows' (fit_without (dead_of (judge (persists ms ss) ss)) ss fit) (omega arith) shape same))
