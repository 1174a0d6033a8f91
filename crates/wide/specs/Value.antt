-- The number that two halves stand for.
use Rattle.std.specs.Prelude.{ℕ, ◌+◌, ◌*◌, ◌^◌}
use Rattle.wide.specs.declared.Wide.{Wide}

-- the number of two 64-bit halves
unfoldable pub value_of : Wide → ℕ
value_of w = w.lo + 2 ^ 64 * w.hi
