use Rattle.std.proofs.Common.{arith, ℕ, ◌+◌, ◌-◌, ◌%◌, ◌^◌, ◌≤◌, sym, ap, ◌∙◌, subst, pow_mono}
use borrow.Author.Tests.{not-false}
use Rattle.wide.specs.Value.{value_of}
use Rattle.concrete.proofs.Widths.{extended}
use Rattle.concrete.proofs.apply.sign_extend.Goals as goal

pub minus-high-requires : goal.minus-high-requires
minus-high-requires c = let m = pow_mono {i = c.args.w} {j = c.args.o} c.requires.1 in
    subst (λ (n : ℕ). n ≤ value_of c.ones.result) (sym c.ones-2.ensures) (subst (λ (n : ℕ). 2 ^ c.args.w - 1 ≤ n) (sym c.ones.ensures) (omega arith))

pub returns : goal.returns
returns c = let x = c.args in
    let m = pow_mono {i = x.w} {j = x.o} c.requires.1 in
    c.add.ensures ∙ ap (λ (n : ℕ). (value_of x.a + n) % 2 ^ 128) c.minus-high.ensures
    ∙ ap (λ (n : ℕ). (value_of x.a + (n - value_of c.ones-2.result)) % 2 ^ 128) c.ones.ensures
    ∙ ap (λ (n : ℕ). (value_of x.a + (2 ^ x.o - 1 - n)) % 2 ^ 128) c.ones-2.ensures
    ∙ extended (value_of x.a) (2 ^ x.o) (2 ^ x.w) (2 ^ 128) c.requires.0.first m (pow_mono {i = x.o} {j = 128} c.requires.2)
    ∙ sym (simp (sym c.sign_at.ensures ∙ not-false _ c.if-not-sign_at.false-raw))
