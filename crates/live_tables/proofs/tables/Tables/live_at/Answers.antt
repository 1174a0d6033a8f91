use Rattle.std.proofs.Common.{rules}
use Rattle.live_tables.proofs.Rowwise.{live_past}
use Rattle.live_tables.proofs.tables.Tables.live_at.Goals as goal

pub returns-then-row-ge112 : goal.returns-then-row-ge112
returns-then-row-ge112 c = live_past c.args.persists.now c.args.self.now.last c.args.self.now.reads c.args.row c.args.var (search rules) (search rules) c.if-row-ge112.true
