use Rattle.std.proofs.Common.{◌≡◌, ℕ, ◌-◌, ◌^◌, true, false, ltb, sym, ap, ◌∙◌, arith, ltb-true, ltb-false, le-leb}
use Rattle.std.proofs.lemmas.Bool.{lt-leb}
use Rattle.meaning.specs.Meaning.{leading_zeros}
use Rattle.wide.specs.Value.{value_of}
use Rattle.concrete.proofs.Counts.{zeros_end, zeros_more, no_zeros}
use Rattle.concrete.proofs.number.count_leading_zeros.Goals as goal

pub returns-then-not-less : goal.returns-then-not-less
returns-then-not-less c =
    let i = c.loop-i.i in
    let v = value_of c.args.a in
    let t : ltb v (2 ^ (i - 1)) ≡ false = sym (c.less.ensures ∙ ap (λ (n : ℕ). ltb v n) c.power.ensures) ∙ c.if-not-less.true in
    let e = zeros_end i v (omega arith) (le-leb _ _ (ltb-false _ _ t)) in
    let inv = c.loop-i.invariant in
    omega arith

pub loop-i-preserved : goal.loop-i-preserved
loop-i-preserved c =
    let i = c.loop-i.i in
    let v = value_of c.args.a in
    let t : ltb v (2 ^ (i - 1)) ≡ true = sym (c.less.ensures ∙ ap (λ (n : ℕ). ltb v n) c.power.ensures) ∙ c.if-not-less.false in
    let e = zeros_more i v (omega arith) (lt-leb _ _ (ltb-true _ _ t)) in
    let inv = c.loop-i.invariant in
    omega arith

pub returns : goal.returns
returns c =
    let v = value_of c.args.a in
    let z : c.loop-i.i ≡ 0 = omega arith in
    let e = ap (λ (n : ℕ). leading_zeros n v) z ∙ no_zeros v in
    let inv = c.loop-i.invariant in
    omega arith
