-- A block that meets every premise, and of which the second pass drops a statement: it runs alike, over a table with one row less.
use Rattle.std.proofs.Common.{ℕ, ◌≤◌, ◌<◌, arith, ◌≡◌, refl, ap, ◌∙◌, true, List, [], ltb, lit<, lit≤, length, get_or, replicate, ltb-true, ltb-false}
use lib.ListN.{length-replicate, get_or-replicate, get_or-eq_default}
use Rattle.pcode.specs.Block.{has_id, no_marks}
use Rattle.pcode.specs.declared.var.VarId.{VarId}
use Rattle.vars.specs.Vars.{join_id, join_ids, vars_from, vars_of, row_of}
use Rattle.vars.proofs.Rows.{ways, row_below}
use Rattle.live_bytes.specs.Bytes.{inside, any_below}
use Rattle.dead_store.specs.Stays.{eliminated, dead_of, judge, persists}
use Rattle.machine.specs.Values.{result_in, plain_step}
use Rattle.meaning.specs.Meaning.{meaning}
use Rattle.state.specs.Bytes.{num_of, bytes_of, read_of, write_of}
use Rattle.step.specs.Steps.{step_of}
use Rattle.run.specs.Run.{run_of, Shape}
use Rattle.alike.specs.ById.{StartsAs}
use Rattle.alike.specs.Alike.{Alike}
use Rattle.alike.specs.Premises.{reaches, in_one_instruction, reads_fresh, fresh_run}
use Rattle.alike.proofs.Fits.{AllFit}
use Rattle.alike.specs.Examples.{rows, dead_block}
use Rattle.alike.proofs.Fewer.{vars_without}
use Rattle.alike.proofs.Both.{second_pass_alike}

-- every byte is 7
seven : (ids : List VarId) → length ids ≤ 112 → StartsAs ids (rows 7) (λ id k. 7)
seven ids m id h k l =
    ap (λ (x : List ℕ). get_or x k 0) (get_or-replicate 112 (row_of ids id) (replicate {A = ℕ} 16 7) [] (let b = row_below ids id h in omega arith))
    ∙ get_or-replicate {A = ℕ} 16 k 7 0 l

sevens : Shape (rows 7)
sevens =
    record {
      count = length-replicate 112 (replicate {A = ℕ} 16 7);
      sized = λ r h. ap length (get_or-replicate 112 r (replicate {A = ℕ} 16 7) [] h);
      bytes = λ r k. ways (ltb r 112)
          (λ t. rw (get_or-replicate 112 r (replicate {A = ℕ} 16 7) [] (ltb-true r 112 t)) (small k))
          (λ t. rw (get_or-eq_default (rows 7) [] {n = r} (let h = ltb-false r 112 t in omega (arith, length-replicate 112 (replicate {A = ℕ} 16 7)))) (lit< tt));
    }
  where
    small : (k : ℕ) → get_or (replicate {A = ℕ} 16 7) k 0 < 256
    small k =
        ways (ltb k 16) (λ t. rw (get_or-replicate {A = ℕ} 16 k 7 0 (ltb-true k 16 t)) (lit< tt))
        (λ t. rw (get_or-eq_default {A = ℕ} (replicate {A = ℕ} 16 7) 0 {n = k} (let h = ltb-false k 16 t in omega (arith, length-replicate {A = ℕ} 16 7))) (lit< tt))

fits : AllFit dead_block
fits = (
  record { first = tt; second = tt; output = lit≤ tt; quiet = tt },
  (record { first = tt; second = tt; output = lit≤ tt; quiet = tt }, (record { first = tt; second = tt; output = tt; quiet = refl }, tt)),
)

two : length (vars_of dead_block) ≡ 2
unfolding vars_of vars_from join_ids join_id has_id
two = refl

one : in_one_instruction dead_block ≡ true
unfolding in_one_instruction reaches
one = refl

fresh : fresh_run no_marks [] dead_block (rows 7) ≡ true
unfolding fresh_run reads_fresh step_of plain_step result_in meaning read_of write_of num_of bytes_of vars_of vars_from join_ids join_id has_id row_of inside any_below
fresh = refl

pub dead_alike : Alike no_marks (λ id k. 7) (vars_of dead_block) (vars_of (eliminated no_marks dead_block)) (run_of [] dead_block (rows 7)) (run_of [] (eliminated no_marks dead_block) (rows 7))
dead_alike =
    let few = vars_without (dead_of (judge (persists no_marks dead_block) dead_block)) dead_block in
    let w = two in
    second_pass_alike no_marks [] dead_block fits (omega arith) one (λ id k. 7) (rows 7) (rows 7) sevens sevens
    (seven (vars_of dead_block) (omega arith)) (seven (vars_of (eliminated no_marks dead_block)) (omega arith)) fresh
