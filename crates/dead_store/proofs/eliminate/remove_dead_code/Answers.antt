use Rattle.std.proofs.Common.{arith, ◌≤◌, ap, ◌∙◌, length, length-take, drop}
use Rattle.pcode.specs.Block.{held}
use Rattle.vars.specs.declared.Naming.{Naming}
use Rattle.vars.specs.Vars.{held_ids}
use Rattle.vars.proofs.Joining.{named_held}
use Rattle.dead_store.specs.Stays.{judge, dead_of, persists, block_of}
use Rattle.dead_store.specs.Walks.{none_dead}
use Rattle.dead_store.proofs.Sifting.{dead_length, without_append}
use Rattle.dead_store.proofs.eliminate.remove_dead_code.Goals as goal

pub get_dead_code-dead-requires : goal.get_dead_code-dead-requires
get_dead_code-dead-requires c = let a = c.args in
    let e = c.held-stmts.ensures in
    let small : length (held a.b.now) ≤ 129 = omega (arith, c.requires.stmts, length-take a.b.now.count a.b.now.stmts) in
    rw e (small, ap (λ (x : Naming). held_ids x.vars) c.named-named.ensures ∙ rw e (named_held 112 (held a.b.now) c.requires.vars), c.requires.vars)

pub returns : goal.returns
returns c = let a = c.args in
    let ss = held a.b.now in
    let p = persists a.marks ss in
    c.squeeze.ensures ∙ rw (c.get_dead_code-dead.ensures, c.held-stmts.ensures) (ap block_of (without_append (dead_of (judge p ss)) (drop (length ss) none_dead) ss (dead_length p ss)))
