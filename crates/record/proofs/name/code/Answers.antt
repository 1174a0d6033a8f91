use Rattle.std.proofs.Common.{◌≡◌, ◌≤◌, ℕ, List, Bool, eqb, arith, sym, ◌∙◌, lt-ltb, le-ltb}
use Rattle.std.specs.Cmp.Lexicographic.{pointwise}
use Rattle.pcode.specs.Names.{eq_bytes}
use Rattle.record.specs.Names.{code_named, code_read}
use Rattle.record.proofs.Names.{bytes_are, code_start, code_end, code_here, code_more}
use Rattle.record.proofs.name.code.Goals as goal

test : {n m : List ℕ} (s : List ℕ) {r t : Bool} → n ≡ m → r ≡ pointwise eqb n s → r ≡ t → eq_bytes m s ≡ t
test {n} s p q e = rw (← p) (sym (bytes_are n s) ∙ sym q ∙ e)

pub loop-k-init : goal.loop-k-init
loop-k-init c = code_start _

pub returns-then-eq : goal.returns-then-eq
unfolding code_read
returns-then-eq c =
    let e : code_named c.args.s.now ≡ c.loop-k.k = omega (arith, code_here c.loop-k.k c.args.s.now (omega arith) (test c.args.s.now (c.name.ensures) c.eq.ensures c.if-eq.true)) in
    rw (e, lt-ltb c.loop-k.k 72 (omega arith))

pub loop-k-preserved : goal.loop-k-preserved
loop-k-preserved c = omega (arith, code_more c.loop-k.k c.args.s.now (omega arith) (test c.args.s.now (c.name.ensures) c.eq.ensures c.if-eq.false))

pub returns : goal.returns
unfolding code_read
returns c =
    let h : 72 ≤ code_named c.args.s.now = omega (arith, code_end c.loop-k.k c.args.s.now (omega arith)) in
    rw (le-ltb (code_named c.args.s.now) 72 h)
