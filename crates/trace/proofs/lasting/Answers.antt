use Rattle.std.proofs.Common.{arith, ◌*◌, pos, Bool, List, [], ◌++◌, ap, ◌∙◌, length, length-take, take, get_or}
use Rattle.std.proofs.lemmas.List.{take_all}
use Rattle.pcode.specs.Var.{pick}
use Rattle.pcode.specs.Block.{lasting}
use Rattle.pcode.specs.declared.var.VarId.{VarId}
use Rattle.vars.specs.Vars.{held_ids}
use Rattle.state.specs.Bytes.{num_of}
use Rattle.print.proofs.Writes.{then, none, retold}
use Rattle.trace.specs.Words.{halves, lasting_words}
use Rattle.trace.proofs.Words.{lasting_none, lasting_more}
use Rattle.trace.proofs.lasting.Goals as goal

pub loop-i-init : goal.loop-i-init
loop-i-init c = let a = c.args in
    record {
      small = omega (arith, length-take a.vars.now.count a.vars.now.ids);
      room = c.requires.1;
      words = retold (lasting_none a.marks a.state (held_ids a.vars.now)) (omega arith) (none a.trace.now a.at);
    }

pub loop-i-preserved : goal.loop-i-preserved
loop-i-preserved c = let a = c.args in
    let l = c.loop-i in
    let ids = held_ids a.vars.now in
    let e = c.held-id-items.ensures in
    let known = c.lasting.ensures ∙ ap (λ (xs : List VarId). lasting a.marks (get_or xs l.i (record { 0 = pos 0 }))) e in
    record {
      small = l.invariant.small;
      room = l.invariant.room;
      words = retold
          (ap (λ (t : Bool). lasting_words a.marks a.state 0 (take l.i ids) ++ pick t (halves (num_of (take 16 (get_or a.state l.i [])))) []) known
          ∙ lasting_more a.marks a.state ids l.i (record { 0 = pos 0 }) (omega (arith, ap length e)))
          (omega arith) (then {k = 2 * l.i} {l = 2} (omega (arith, ap length e)) l.invariant.words c.row-p.ensures);
    }

pub returns : goal.returns
returns c = let a = c.args in
    let l = c.loop-i in
    let e = c.held-id-items.ensures in
    retold (ap (lasting_words a.marks a.state 0) (take_all l.i (held_ids a.vars.now) (omega (arith, ap length e)))) (omega (arith, ap length e)) l.invariant.words
