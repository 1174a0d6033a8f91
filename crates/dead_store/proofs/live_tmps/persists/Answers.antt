use Rattle.std.proofs.Common.{arith, ◌≡◌, ◌∙◌, ◌||◌, false, length-set, get_or}
use Rattle.std.proofs.lemmas.List.Edits.{fill_by_more}
use Rattle.pcode.specs.Block.{lasting}
use Rattle.vars.specs.Vars.{held_ids}
use Rattle.live_tables.specs.Rows.{no_id}
use Rattle.dead_store.proofs.Scanning.{persists_at}
use Rattle.dead_store.proofs.live_tmps.persists.Goals as goal
use Rattle.dead_store.proofs.live_tmps.persists.Goals.{then-lasting, else-lasting}

pub loop-i-preserved : goal.loop-i-preserved
loop-i-preserved c = let a = c.args in
    let v = c.loop-i in
    let out : c.if-lasting.out ≡ (lasting a.marks (get_or a.vars.now.ids v.i no_id) || get_or c.live_tmps-live.result v.i false) = rw (← c.lasting.ensures) (elim c.if-lasting.branch [
      | then-lasting w ↦ rw (w.out-is, w.if-lasting.true)
      | else-lasting w ↦ rw (w.out-is, w.if-lasting.false)
    ]) in
    record {
      long = length-set v.out v.i c.if-lasting.out ∙ v.invariant.long;
      done = rw out (fill_by_more (λ j. lasting a.marks (get_or a.vars.now.ids j no_id) || get_or c.live_tmps-live.result j false) v.out v.i false (omega (arith, v.invariant.long)) v.invariant.done);
    }

pub returns : goal.returns
returns c = λ h r id m. (let a = c.args in
    persists_at a.marks a.vars.now a.stmts.now c.loop-i.out c.live_tmps-live.result h.small (λ k l. c.loop-i.invariant.done k (omega arith)) id m
    (c.live_tmps-live.ensures (held_ids a.vars.now) h r id m))
