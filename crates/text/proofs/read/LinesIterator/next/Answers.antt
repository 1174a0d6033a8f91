use Rattle.std.proofs.Common.{◌<◌, ap, length, rules, arith}
use Rattle.text.proofs.Lines.{no_lines, first_line, past_line}
use Rattle.text.proofs.read.LinesIterator.next.Goals as goal

pub returns-then-is_empty-clause-steps : goal.returns-then-is_empty-clause-steps
returns-then-is_empty-clause-steps c =
    let e = no_lines c.args.self.now.0.now (search rules) in (e, e)

pub returns-clause-steps : goal.returns-clause-steps
returns-clause-steps c =
    let s = c.args.self.now.0.now in
    let some : 0 < length s = search rules in
    rw (first_line s some, c.head-text.ensures, past_line s _ _ c.head-text.ensures c.min.ensures)

pub returns-clause-goes : goal.returns-clause-goes
returns-clause-goes c =
    let s = c.args.self.now.0.now in
    let some : 0 < length s = search rules in
    let e = ap length (first_line s some) in
    record { on = λ f. (tt, tt, rw (past_line s _ _ c.head-text.ensures c.min.ensures) (omega (arith, e))); keeps = tt; rests = λ f. tt }
