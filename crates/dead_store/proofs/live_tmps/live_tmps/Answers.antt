use Rattle.std.proofs.Common.{arith, ◌+◌, add-one, ◌≡◌, sym, ap, ◌∙◌, true, false, ◌∷◌, get_or, drop, drop-cons}
use Rattle.pcode.specs.Block.{blank_stmt}
use Rattle.vars.specs.Vars.{row_of}
use Rattle.live_tables.specs.Rows.{is_label, is_var, edge_of}
use Rattle.dead_store.proofs.Scanning.{scan_none, scan_all, scan_label, scan_more, no_flag, reads_flag, writes_flag}
use Rattle.dead_store.proofs.live_tmps.live_tmps.Goals as goal

pub loop-i-init : goal.loop-i-init
loop-i-init c = λ l h r id m. scan_none c.args.stmts.now id _ _ (no_flag _ (row_of l id) c.no_flags-live.ensures) (no_flag _ (row_of l id) c.no_flags-written.ensures)

pub loop-i-preserved-then-is_label : goal.loop-i-preserved-then-is_label
loop-i-preserved-then-is_label c = let ss = c.args.stmts.now in
    let v = c.loop-i in
    let d : drop v.i ss ≡ get_or ss v.i blank_stmt ∷ drop (v.i + 1) ss = drop-cons ss v.i blank_stmt (omega arith) ∙ rw add-one in
    let t : is_label (edge_of (get_or ss v.i blank_stmt).op) ≡ true = ap is_label (sym c.edge_of.ensures) ∙ sym c.is_label.ensures ∙ c.if-is_label.true in
    λ l h r id k. scan_label ss id v.i (get_or ss v.i blank_stmt) (get_or v.live (row_of l id) false) (get_or v.written (row_of l id) false) d (v.invariant l h r id k) t _ (no_flag _ (row_of l id) c.no_flags-written-then-is_label.ensures)

pub loop-i-preserved : goal.loop-i-preserved
loop-i-preserved c = let ss = c.args.stmts.now in
    let v = c.loop-i in
    let s = get_or ss v.i blank_stmt in
    let d : drop v.i ss ≡ get_or ss v.i blank_stmt ∷ drop (v.i + 1) ss = drop-cons ss v.i blank_stmt (omega arith) ∙ rw add-one in
    let t : is_label (edge_of (get_or ss v.i blank_stmt).op) ≡ false = ap is_label (sym c.edge_of.ensures) ∙ sym c.is_label.ensures ∙ c.if-is_label.false in
    λ l h r id k. (let w = r v.i (omega arith) in
    scan_more ss id v.i s _ _ d (v.invariant l h r id k) t _ _
    (reads_flag l s _ (λ x. h.names v.i x (omega arith)) w id k h.small v.written v.live c.note_reads.new.live c.note_reads.ensures)
    (writes_flag l s _ (λ x. h.names v.i x (omega arith)) w id k h.small v.written c.note.new.table c.is_var.result (c.is_var.ensures ∙ ap is_var c.from.ensures) c.note.ensures))

pub returns : goal.returns
returns c = λ l h r id k. scan_all c.args.stmts.now id c.loop-i.i _ _ (omega arith) (c.loop-i.invariant l h r id k)
