use mathlib.Core.Path.{ap, ◌∙◌}
use lib.ListN.{length}
use native.Mathlib.Omega.{arith}
use Rattle.record.specs.Says.{execution_of}
use Rattle.judge.proofs.Closings.{quieted_begin, quieted_long, quieted_shown, quieted_more, quieted_done}
use Rattle.judge.proofs.Lookings.{processor_is, processors_end, processor_low, view_fits, sees_is}
use Rattle.judge.proofs.closer.seek.Goals as goal

pub loop-p-init : goal.loop-p-init
loop-p-init c = quieted_begin c.args.s.now _ _ _ c.requires.0.ready.laid.views

pub view_of-view-requires : goal.view_of-view-requires
view_of-view-requires c = let o = c.requires.0 in
    let x = c.loop-p.invariant in
    let p = processor_is _ _ _ _ _ _ o c.loop-p.p (omega arith) in
    (o.ready.right, p, x.place)

pub row-requires : goal.row-requires
row-requires c = let o = c.requires.0 in
    let p = processor_is _ _ _ _ _ _ o c.loop-p.p (omega arith) in
    let f = c.requires.1.rows in
    let b = processor_low _ _ _ _ _ _ o _ p in
    omega arith

pub show-requires : goal.show-requires
show-requires c = let o = c.requires.0 in
    let x = c.loop-p.invariant in
    let p = processor_is _ _ _ _ _ _ o c.loop-p.p (omega arith) in
    record { ordered = (o, quieted_long _ _ _ _ _ _ x c.requires.2); p_bound = (p, c.view_of-view.ensures, sees_is (execution_of c.args.s.now) _ _ c.requires.1 o.ready.classed _ (processor_low _ _ _ _ _ _ o _ p) _ _ c.row.ensures c.bitor-seen.ensures, c.requires.3 _ p) }

pub shape_of-ev-in-Some : goal.shape_of-ev-in-Some
shape_of-ev-in-Some c = c.show.auto.ev ∙ ap length c.loop-p.invariant.same

pub returns-in-Some : goal.returns-in-Some
returns-in-Some c = let x = c.loop-p.invariant in
    quieted_shown c.args.s.now _ _ _ _ _ x c.show.new.ev _ c.in-Some.ensures

pub overflow_add-at : goal.overflow_add-at
overflow_add-at c = let o = c.requires.0 in
    let p = processor_is _ _ _ _ _ _ o c.loop-p.p (omega arith) in
    let b = (view_fits _ _ _ _ _ _ o _ p _ c.view_of-view.ensures).short in
    record { fits = omega arith }

pub loop-p-preserved : goal.loop-p-preserved
loop-p-preserved c = let o = c.requires.0 in
    let x = c.loop-p.invariant in
    let p = processor_is _ _ _ _ _ _ o c.loop-p.p (omega arith) in
    quieted_more c.args.s.now _ _ _ _ _ x c.show.new.ev c.in_default.ensures p _ c.view_of-view.ensures

pub shape_of-ev : goal.shape_of-ev
shape_of-ev c = ap length c.loop-p.invariant.same

pub returns : goal.returns
returns c = quieted_done c.args.s.now _ _ _ _ _ c.loop-p.invariant (processors_end _ _ _ _ _ _ c.requires.0 _ (omega arith))
