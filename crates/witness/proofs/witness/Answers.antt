use Rattle.std.specs.Prelude.{Some, None}
use native.Mathlib.Omega.{arith}
use Rattle.order.proofs.Judgements.{long_from, given_next}
use Rattle.record.proofs.Formings.{formed}
use Rattle.record.proofs.Lengths.{small}
use Rattle.structure.proofs.Judging.{given_from}
use Rattle.witness.proofs.Witnesses.{view_ready, view_found, view_after, views_next, views_found, kept_20, processor_here, processors_past}
use Rattle.witness.proofs.witness.Goals as goal

pub misplaced-requires : goal.misplaced-requires
misplaced-requires c =
    let r = c.requires.0 in
    view_ready _ r.right _ (processor_here _ _ r.laid _ c.loop-p-test.true) _ c.view_of-view.ensures

pub returns-in-Some : goal.returns-in-Some
returns-in-Some c =
    let i = c.loop-p.invariant in
    let p = c.requires in
    let r = p.0 in
    let b = long_from _ _ i.1 p.2 in
    let h = view_found _ r.right _ (processor_here _ _ r.laid _ c.loop-p-test.true) _ c.view_of-view.ensures _ p.1 _ r.classed _ _ c.row.ensures c.bitor-due.ensures (Some _) c.in-Some.ensures in
    given_from _ _ _ _ _ _ i.1 (views_found _ (formed _ r.right) _ _ h i.2 _ c.loop-p.ev (omega arith))

pub overflow_add-at : goal.overflow_add-at
overflow_add-at c =
    let r = c.requires.0 in
    small _ (view_ready _ r.right _ (processor_here _ _ r.laid _ c.loop-p-test.true) _ c.view_of-view.ensures).short

pub loop-p-preserved : goal.loop-p-preserved
loop-p-preserved c =
    let i = c.loop-p.invariant in
    let p = c.requires in
    let r = p.0 in
    let l = processor_here _ _ r.laid _ c.loop-p-test.true in
    let h = view_found _ r.right _ l _ c.view_of-view.ensures _ p.1 _ r.classed _ _ c.row.ensures c.bitor-due.ensures None c.in_default.ensures in
    (view_after _ r.right _ l _ c.view_of-view.ensures, i.1, views_next _ (formed _ r.right) _ h i.2)

pub returns : goal.returns
returns c =
    let i = c.loop-p.invariant in
    let r = c.requires.0 in
    let l = processors_past _ _ r.laid _ c.loop-p-test.false in
    given_next _ _ _ _ _ _ (kept_20 _ (formed _ r.right) _ l i.2) (given_from _ c.args.ev.now _ _ _ _ i.1 c.from_twentyone.ensures)
