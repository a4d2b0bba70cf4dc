use mathlib.Core.Path.{ap, ◌∙◌}
use lib.ListN.{length}
use native.Mathlib.Omega.{arith}
use Rattle.record.specs.Says.{execution_of}
use Rattle.judge.proofs.Lookings.{processor_is, processors_end, processor_low, view_fits, sees_is}
use Rattle.judge.proofs.Watchings.{watched_begin, watched_long, watched_shown, watched_more, no_cycle, watched_closer, watched_calm}
use Rattle.judge.proofs.views.from_twentyfour.Goals as goal

pub loop-p-init : goal.loop-p-init
loop-p-init c = watched_begin c.args.s.now _ _ c.requires.0.ready.laid.views

pub view_of-view-requires : goal.view_of-view-requires
view_of-view-requires c = let o = c.requires.0 in
    let x = c.loop-p.invariant in
    let p = processor_is _ _ _ _ _ _ o c.loop-p.p (omega arith) in
    (o.ready.right, p, x.place)

pub row-requires : goal.row-requires
row-requires c = let o = c.requires.0 in
    let x = c.loop-p.invariant in
    let p = processor_is _ _ _ _ _ _ o c.loop-p.p (omega arith) in
    let f = c.requires.1.rows in
    let b = processor_low _ _ _ _ _ _ o _ p in
    omega arith

pub look-requires : goal.look-requires
look-requires c = let o = c.requires.0 in
    let x = c.loop-p.invariant in
    let p = processor_is _ _ _ _ _ _ o c.loop-p.p (omega arith) in
    record { ordered = (o, watched_long _ _ _ _ _ _ x c.requires.2); p_bound = (p, c.view_of-view.ensures, sees_is (execution_of c.args.s.now) _ _ c.requires.1 o.ready.classed _ (processor_low _ _ _ _ _ _ o _ p) _ _ c.row.ensures c.bitor-seen.ensures) }

pub shape_of-ev-in-Cycle : goal.shape_of-ev-in-Cycle
shape_of-ev-in-Cycle c = c.look.auto.ev ∙ ap length c.loop-p.invariant.same

pub returns-in-Cycle : goal.returns-in-Cycle
returns-in-Cycle c = let o = c.requires.0 in
    let x = c.loop-p.invariant in
    let p = processor_is _ _ _ _ _ _ o c.loop-p.p (omega arith) in
    watched_shown c.args.s.now _ _ _ _ _ x c.look.new.ev _ c.in-Cycle.ensures

pub overflow_add-at : goal.overflow_add-at
overflow_add-at c = let o = c.requires.0 in
    let x = c.loop-p.invariant in
    let p = processor_is _ _ _ _ _ _ o c.loop-p.p (omega arith) in
    let b = (view_fits _ _ _ _ _ _ o _ p _ c.view_of-view.ensures).short in
    record { fits = omega arith }

pub loop-p-preserved : goal.loop-p-preserved
loop-p-preserved c = let o = c.requires.0 in
    let x = c.loop-p.invariant in
    let p = processor_is _ _ _ _ _ _ o c.loop-p.p (omega arith) in
    watched_more c.args.s.now _ _ _ _ _ x c.look.new.ev _ c.in-Acyclic.ensures p _ c.view_of-view.ensures

pub shape_of-ev-then-all : goal.shape_of-ev-then-all
shape_of-ev-then-all c = ap length c.loop-p.invariant.same

pub returns-then-all : goal.returns-then-all
returns-then-all c = watched_calm c.args.s.now _ _ _ _ _ c.loop-p.invariant (processors_end _ _ _ _ _ _ c.requires.0 _ (omega arith)) c.if-all.true

pub closer-requires : goal.closer-requires
closer-requires c = let x = c.loop-p.invariant in
    (c.requires.0, c.requires.1, watched_long _ _ _ _ _ _ x c.requires.2, no_cycle _ _ _ _ _ _ x (processors_end _ _ _ _ _ _ c.requires.0 _ (omega arith)))

pub shape_of-ev : goal.shape_of-ev
shape_of-ev c = c.closer.auto.ev ∙ ap length c.loop-p.invariant.same

pub returns : goal.returns
returns c = watched_closer c.args.s.now _ _ _ _ _ c.loop-p.invariant (processors_end _ _ _ _ _ _ c.requires.0 _ (omega arith)) c.closer.new.ev _ _ c.closer.ensures
