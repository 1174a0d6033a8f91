use Rattle.std.proofs.Common.{◌∙◌, sym, ap, Bool}
use Rattle.pcode.specs.Var.{as_operand}
use Rattle.pcode.specs.declared.var.Operand.{Operand}
use Rattle.vars.specs.Vars.{held_ids, ids_in, join_ids, if_fits, told}
use Rattle.vars.proofs.Joining.{first_full, second_sits, second_full, third_sits, third_ids}
use Rattle.vars.proofs.Vars.join_stmt.Goals as goal

pub returns-then-not-join_operand : goal.returns-then-not-join_operand
returns-then-not-join_operand c =
    let a = c.args in
    first_full a.most (held_ids a.self.now) (ids_in (as_operand a.s.output)) (ids_in a.s.first) (ids_in a.s.second)
    (ap (λ (r : Bool). told r c.join_operand.new.self) (sym c.if-not-join_operand.true) ∙ c.join_operand.ensures
    ∙ ap (λ (o : Operand). if_fits a.most (join_ids (held_ids a.self.now) (ids_in o))) c.from.ensures)

pub join_operand-requires-2 : goal.join_operand-requires-2
join_operand-requires-2 c =
    let a = c.args in
    second_sits a.most (held_ids a.self.now) (ids_in (as_operand a.s.output)) (ids_in a.s.first) (ids_in a.s.second) c.join_operand.new.self c.requires.room
    (ap (λ (r : Bool). told r c.join_operand.new.self) (sym c.if-not-join_operand.false) ∙ c.join_operand.ensures
    ∙ ap (λ (o : Operand). if_fits a.most (join_ids (held_ids a.self.now) (ids_in o))) c.from.ensures)

pub returns-then-not-join_operand-2 : goal.returns-then-not-join_operand-2
returns-then-not-join_operand-2 c =
    let a = c.args in
    second_full a.most (held_ids a.self.now) (ids_in (as_operand a.s.output)) (ids_in a.s.first) (ids_in a.s.second) c.join_operand.new.self c.requires.room
    (ap (λ (r : Bool). told r c.join_operand.new.self) (sym c.if-not-join_operand.false) ∙ c.join_operand.ensures
    ∙ ap (λ (o : Operand). if_fits a.most (join_ids (held_ids a.self.now) (ids_in o))) c.from.ensures)
    (ap (λ (r : Bool). told r c.join_operand-2.new.self) (sym c.if-not-join_operand-2.true) ∙ c.join_operand-2.ensures)

pub join_operand-requires-3 : goal.join_operand-requires-3
join_operand-requires-3 c =
    let a = c.args in
    third_sits a.most (held_ids a.self.now) (ids_in (as_operand a.s.output)) (ids_in a.s.first) (ids_in a.s.second) c.join_operand.new.self c.requires.room
    (ap (λ (r : Bool). told r c.join_operand.new.self) (sym c.if-not-join_operand.false) ∙ c.join_operand.ensures
    ∙ ap (λ (o : Operand). if_fits a.most (join_ids (held_ids a.self.now) (ids_in o))) c.from.ensures)
    c.join_operand-2.new.self (ap (λ (r : Bool). told r c.join_operand-2.new.self) (sym c.if-not-join_operand-2.false) ∙ c.join_operand-2.ensures)

pub returns : goal.returns
returns c =
    let a = c.args in
    c.join_operand-3.ensures
    ∙ ap (if_fits a.most)
    (third_ids a.most (held_ids a.self.now) (ids_in (as_operand a.s.output)) (ids_in a.s.first) (ids_in a.s.second) c.join_operand.new.self c.requires.room
    (ap (λ (r : Bool). told r c.join_operand.new.self) (sym c.if-not-join_operand.false) ∙ c.join_operand.ensures
    ∙ ap (λ (o : Operand). if_fits a.most (join_ids (held_ids a.self.now) (ids_in o))) c.from.ensures)
    c.join_operand-2.new.self (ap (λ (r : Bool). told r c.join_operand-2.new.self) (sym c.if-not-join_operand-2.false) ∙ c.join_operand-2.ensures))
