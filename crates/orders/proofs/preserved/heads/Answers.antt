use mathlib.Core.Path.{ap}
use native.Mathlib.Omega.{arith}
use Rattle.rows.proofs.Members.{in_low}
use Rattle.record.specs.declared.Event.{Event}
use Rattle.orders.proofs.Earliest.{index_small}
use Rattle.orders.proofs.Headings.{heads_more, heads_same, heads_done}
use Rattle.orders.proofs.preserved.heads.Goals as goal

pub overflow_add-next : goal.overflow_add-next
overflow_add-next c = let h = index_small c.args.s.now (λ i. omega (arith, c.type_inv.s i)) c.in-Some.e in
    let e = ap (λ (y : Event). y.index) c.event_of-i.ensures in
    omega arith

pub one-requires : goal.one-requires
one-requires c = in_low _ _ c.in-Some.ensures.steps.0.0

pub overflow_add-i : goal.overflow_add-i
overflow_add-i c = let h = index_small c.args.s.now (λ i. omega (arith, c.type_inv.s i)) c.in-Some.e in
    let e = ap (λ (y : Event). y.index) c.event_of-i.ensures in
    omega arith

pub loop-e-preserved-then-next-i : goal.loop-e-preserved-then-next-i
loop-e-preserved-then-next-i c = let s = c.in-Some.ensures.steps in
    heads_more _ _ _ _ _ c.loop-e.invariant _ s.0 _ c.event_of-i.ensures _ s.1 c.if-next-i.true _ _ c.one.ensures c.bitor-r.ensures

pub loop-e-preserved : goal.loop-e-preserved
loop-e-preserved c = let s = c.in-Some.ensures.steps in
    heads_same _ _ _ _ _ c.loop-e.invariant _ s.0 _ c.event_of-i.ensures _ s.1 c.if-next-i.false c.if-i-next.false

pub returns : goal.returns
returns c = heads_done _ _ _ _ _ c.loop-e.invariant c.in-None.ensures.steps
