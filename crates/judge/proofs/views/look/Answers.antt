use native.Mathlib.Omega.{arith}
use Rattle.record.proofs.Lengths.{small}
use Rattle.judge.proofs.Behind.{cycle_none, cycle_some_shown, cycle_few}
use Rattle.judge.proofs.Lookings.{form, events_are, arrange_ready, looked_arranged, looked_scene, show_ready}
use Rattle.judge.proofs.views.look.Goals as goal

pub arrange-requires : goal.arrange-requires
arrange-requires c = let p = c.requires in
    arrange_ready _ _ _ _ _ _ p.ordered.0 _ p.p_bound.0 _ p.p_bound.1

pub show-requires : goal.show-requires
show-requires c = let p = c.requires in
    show_ready _ _ _ _ _ _ p.ordered.0 _ p.p_bound.0 _ p.p_bound.1 _ c.arrange.ensures c.args.ev.now p.ordered.1

pub overflow_add-result : goal.overflow_add-result
overflow_add-result c = let p = c.requires in
    let f = form _ _ _ _ _ _ p.ordered.0 in
    let e = events_are _ _ _ _ _ _ p.ordered.0 in
    let g = looked_arranged _ _ _ _ _ _ p.ordered.0 _ p.p_bound.0 _ p.p_bound.1 _ c.arrange.ensures in
    let l = p.ordered.1 in
    let n = (arrange_ready _ _ _ _ _ _ p.ordered.0 _ p.p_bound.0 _ p.p_bound.1).1 in
    let k = cycle_few _ f _ p.p_bound.0 _ g _ e c.args.ev.now _ (omega arith) _ c.in-Some.ensures n in
    small _ (omega arith)

pub returns-in-Some : goal.returns-in-Some
returns-in-Some c = let p = c.requires in
    let f = form _ _ _ _ _ _ p.ordered.0 in
    let e = events_are _ _ _ _ _ _ p.ordered.0 in
    let g = looked_arranged _ _ _ _ _ _ p.ordered.0 _ p.p_bound.0 _ p.p_bound.1 _ c.arrange.ensures in
    let l = p.ordered.1 in
    cycle_some_shown _ f _ p.p_bound.0 _ g _ e c.args.ev.now _ (omega arith) _ c.in-Some.ensures

pub calm-requires : goal.calm-requires
calm-requires c = let p = c.requires in
    let f = form _ _ _ _ _ _ p.ordered.0 in
    let e = events_are _ _ _ _ _ _ p.ordered.0 in
    let g = looked_arranged _ _ _ _ _ _ p.ordered.0 _ p.p_bound.0 _ p.p_bound.1 _ c.arrange.ensures in
    let l = p.ordered.1 in
    let n = cycle_none _ f _ p.p_bound.0 _ g _ e c.args.ev.now _ (omega arith) c.in_default.ensures in
    let o = p.ordered.0 in
    record { right = (o.ready.right, o.ready.laid, o.sourced); sources = (o.sources, o.mated, (_, looked_scene _ _ _ _ _ _ o _ p.p_bound.0 _ p.p_bound.1 _ c.arrange.ensures _ p.p_bound.2 n.0)) }

pub returns : goal.returns
returns c = let p = c.requires in
    let f = form _ _ _ _ _ _ p.ordered.0 in
    let e = events_are _ _ _ _ _ _ p.ordered.0 in
    let g = looked_arranged _ _ _ _ _ _ p.ordered.0 _ p.p_bound.0 _ p.p_bound.1 _ c.arrange.ensures in
    let l = p.ordered.1 in
    let n = cycle_none _ f _ p.p_bound.0 _ g _ e c.args.ev.now _ (omega arith) c.in_default.ensures in
    let o = p.ordered.0 in
    let x = looked_scene _ _ _ _ _ _ o _ p.p_bound.0 _ p.p_bound.1 _ c.arrange.ensures _ p.p_bound.2 n.0 in
    (n.1, n.0, λ e. c.calm.ensures _ x e)
