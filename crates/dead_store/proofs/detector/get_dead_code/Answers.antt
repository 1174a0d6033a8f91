use Rattle.pcode.specs.Block.{blank_stmt}
use Rattle.vars.specs.Vars.{held_ids}
use Rattle.vars.proofs.Rows.{named_has}
use Rattle.live_tables.specs.Rows.{Named}
use Rattle.dead_store.specs.Stays.{persists}
use Rattle.dead_store.proofs.detector.get_dead_code.Goals as goal

pub returns : goal.returns
returns c = let a = c.args in
    let p = c.requires in
    let h : Named (held_ids a.vars.now) a.stmts.now = record {
      small = rw p.1 p.2;
      names = λ i id l e. rw p.1 (named_has a.stmts.now i blank_stmt id l e);
    } in
    c.walk.ensures (held_ids a.vars.now) (persists a.marks a.stmts.now) h c.block_rows-rows.ensures (c.persists-keep.ensures h c.block_rows-rows.ensures)
