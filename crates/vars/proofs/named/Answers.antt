use Rattle.std.proofs.Common.{◌≤◌, ◌∙◌, sym, ap, ℕ, Bool}
use Rattle.vars.specs.Vars.{named_of, told}
use Rattle.vars.proofs.Joining.{going_none, going_last, going_over, going_more, cap_small}
use Rattle.vars.proofs.named.Goals as goal

pub loop-i-init : goal.loop-i-init
loop-i-init c = rw c.none-vars.ensures (λ k. going_none c.min-cap.result k c.args.stmts.now)

pub join_stmt-requires : goal.join_stmt-requires
join_stmt-requires c = (c.loop-i.invariant (rw c.min-cap.ensures (cap_small c.args.most))).sits

pub returns-then-not-join_stmt : goal.returns-then-not-join_stmt
returns-then-not-join_stmt c =
    let k : c.min-cap.result ≤ 112 = rw c.min-cap.ensures (cap_small c.args.most) in
    going_over c.min-cap.result k c.args.stmts.now c.loop-i.i c.loop-i.vars (c.loop-i.invariant k) _ c.loop-i-test.true
    (ap (λ (r : Bool). told r c.join_stmt.new.self) (sym c.if-not-join_stmt.true) ∙ c.join_stmt.ensures)
    ∙ ap (λ (n : ℕ). named_of n c.args.stmts.now) c.min-cap.ensures

pub loop-i-preserved : goal.loop-i-preserved
loop-i-preserved c k =
    going_more c.min-cap.result k c.args.stmts.now c.loop-i.i c.loop-i.vars (c.loop-i.invariant k) _ c.loop-i-test.true c.join_stmt.new.self
    (ap (λ (r : Bool). told r c.join_stmt.new.self) (sym c.if-not-join_stmt.false) ∙ c.join_stmt.ensures)

pub returns : goal.returns
returns c =
    let k : c.min-cap.result ≤ 112 = rw c.min-cap.ensures (cap_small c.args.most) in
    let e = c.loop-i.auto.i-end in
    going_last c.min-cap.result k c.args.stmts.now c.loop-i.i c.loop-i.vars (c.loop-i.invariant k) c.loop-i-test.false e
    ∙ ap (λ (n : ℕ). named_of n c.args.stmts.now) c.min-cap.ensures
