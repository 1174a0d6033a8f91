use Rattle.std.proofs.Common.{arith, ◌∙◌, length-set, get_or}
use Rattle.std.proofs.lemmas.List.Edits.{fill_by_more}
use Rattle.pcode.specs.Block.{blank_stmt}
use Rattle.vars.specs.Vars.{held_ids}
use Rattle.live_tables.specs.Rows.{no_row, rows_of}
use Rattle.live_tables.proofs.rows.block_rows.Goals as goal

pub loop-i-preserved : goal.loop-i-preserved
loop-i-preserved c = let a = c.args in
    let v = c.loop-i in
    record {
      long = length-set v.out v.i c.stmt_rows.result ∙ v.invariant.long;
      done = rw c.stmt_rows.ensures (fill_by_more (λ j. rows_of (held_ids a.vars.now) (get_or a.stmts.now j blank_stmt)) v.out v.i no_row (omega (arith, v.invariant.long)) v.invariant.done);
    }
