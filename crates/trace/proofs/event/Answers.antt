use Rattle.std.proofs.Common.{arith, refl}
use Rattle.wide.specs.Value.{value_of}
use Rattle.vars.specs.Vars.{held_ids}
use Rattle.print.proofs.Writes.{none}
use Rattle.trace.proofs.Words.{no_words, load_words, store_words, marker_words, event_words}
use Rattle.trace.proofs.event.Goals as goal

pub returns-in-Nothing : goal.returns-in-Nothing
returns-in-Nothing c = let x = c.args in
    event_words x.marks (held_ids x.vars.now) x.state (value_of x.a) (value_of x.b) c.in-Nothing.is (no_words x.marks (held_ids x.vars.now)) (omega arith) (none x.trace.now x.at)

pub returns-in-Marks : goal.returns-in-Marks
returns-in-Marks c = let x = c.args in
    event_words x.marks (held_ids x.vars.now) x.state (value_of x.a) (value_of x.b) c.in-Marks.is (marker_words x.marks (held_ids x.vars.now) x.state) (omega arith) c.shown.ensures

pub returns-in-Jumps : goal.returns-in-Jumps
returns-in-Jumps c = let x = c.args in
    event_words x.marks (held_ids x.vars.now) x.state (value_of x.a) (value_of x.b) c.in-Jumps.is (no_words x.marks (held_ids x.vars.now)) (omega arith) (none x.trace.now x.at)

pub returns-in-Exits : goal.returns-in-Exits
returns-in-Exits c = let x = c.args in
    event_words x.marks (held_ids x.vars.now) x.state (value_of x.a) (value_of x.b) c.in-Exits.is refl (omega arith) c.exit.ensures

pub returns-in-Loads : goal.returns-in-Loads
returns-in-Loads c = let x = c.args in
    event_words x.marks (held_ids x.vars.now) x.state (value_of x.a) (value_of x.b) c.in-Loads.is (load_words x.marks (held_ids x.vars.now) _ (value_of x.a) (value_of x.b)) (omega arith) c.access.ensures

pub returns-in-Stores : goal.returns-in-Stores
returns-in-Stores c = let x = c.args in
    event_words x.marks (held_ids x.vars.now) x.state (value_of x.a) (value_of x.b) c.in-Stores.is (store_words x.marks (held_ids x.vars.now) _ (value_of x.a) (value_of x.b)) (omega arith) c.access-in-Stores.ensures

pub returns-in-Computes : goal.returns-in-Computes
returns-in-Computes c = let x = c.args in
    event_words x.marks (held_ids x.vars.now) x.state (value_of x.a) (value_of x.b) c.in-Computes.is (no_words x.marks (held_ids x.vars.now)) (omega arith) (none x.trace.now x.at)
