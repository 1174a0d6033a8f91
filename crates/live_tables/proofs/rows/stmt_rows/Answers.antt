use Rattle.live_tables.specs.Rows.{rows_of}
use Rattle.live_tables.proofs.rows.stmt_rows.Goals as goal

pub returns : goal.returns
unfolding rows_of
returns c = rw (c.row_in.ensures, c.row_in-2.ensures, c.row_in-3.ensures, c.from.ensures)
