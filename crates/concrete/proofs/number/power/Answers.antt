use Rattle.std.proofs.Common.{arith, ℕ, ◌+◌, ◌-◌, ◌%◌, ◌^◌, ◌≡◌, ap, ◌∙◌, mod-eq_of_lt, pow_pos, rules}
use Rattle.wide.specs.Value.{value_of}
use lib.Pow.{pow-lt}
use Rattle.concrete.proofs.number.power.Goals as goal

pub returns : goal.returns
returns c = let k = c.args.k in
    let p = pow_pos k in
    let s : 2 ^ k - 1 + 1 ≡ 2 ^ k = omega arith in
    c.add.ensures ∙ ap (λ (n : ℕ). (n + value_of c.small.result) % 2 ^ 128) c.ones.ensures ∙ ap (λ (n : ℕ). (2 ^ k - 1 + n) % 2 ^ 128) c.small.ensures
    ∙ ap (λ (n : ℕ). n % 2 ^ 128) s ∙ mod-eq_of_lt (pow-lt {i = k} {j = 128} (search rules))
