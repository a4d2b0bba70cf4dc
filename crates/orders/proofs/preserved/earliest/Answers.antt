use native.Mathlib.Omega.{arith}
use Rattle.rows.proofs.Members.{in_low}
use Rattle.orders.proofs.Earliest.{seek_skip, seek_done, index_small}
use Rattle.orders.proofs.preserved.earliest.Goals as goal

pub one-r-requires : goal.one-r-requires
one-r-requires c = in_low _ _ c.in-Some.ensures.steps.0.0

pub one-requires : goal.one-requires
one-requires c = in_low _ _ c.in-Some.ensures.steps.0.0

pub loop-e-preserved : goal.loop-e-preserved
loop-e-preserved c = let s = c.in-Some.ensures.steps in
    seek_skip _ _ _ _ _ c.loop-e.invariant _ s.0.0 _ c.event_of-x.ensures _ s.1 c.if-x-least.false c.if-x-least-2.false

pub returns : goal.returns
returns c = seek_done _ _ (index_small c.args.s.now (λ i. omega (arith, c.type_inv.s i))) _ _ _ c.loop-e.invariant c.in-None.ensures.steps
