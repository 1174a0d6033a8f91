use Rattle.std.proofs.Common.{arith, rules, ◌∙◌, length-set, get_or}
use Rattle.std.proofs.lemmas.List.Edits.{fill_by_more}
use Rattle.live_tables.specs.Tables.{empty, joined_set}
use Rattle.live_tables.proofs.Rowwise.{cleared, ended_joined}
use Rattle.live_tables.proofs.tables.Tables.end_stretch.Goals as goal

pub loop-i-preserved : goal.loop-i-preserved
loop-i-preserved c = let a = c.args in
    let v = c.loop-i in
    record {
      long = length-set v.all v.i c.joined.result ∙ v.invariant.long;
      done = rw c.joined.ensures (fill_by_more (λ j. joined_set a.marker (get_or a.self.now.reads j empty) (get_or a.self.now.across j empty)) v.all v.i empty (omega (arith, v.invariant.long)) v.invariant.done);
    }

pub returns : goal.returns
returns c = let a = c.args in
    let t = ended_joined a.marker a.self.now.reads a.self.now.across c.loop-i.all c.loop-i.invariant.long (λ i h. c.loop-i.invariant.done i (omega arith)) in
    record { last = cleared c.no_sets.result c.no_sets.ensures (search rules); reads = t; across = t }
