use native.Mathlib.Omega.{arith}
use Rattle.order.proofs.Searches.{none_yet, none_next}
use Rattle.replay.proofs.Reversing.{reversed_none}
use Rattle.replay.proofs.steps.reversed.Goals as goal

pub loop-a-init : goal.loop-a-init
loop-a-init c z l b f s p q = none_yet _

pub against-requires : goal.against-requires
against-requires c = (omega arith, omega arith)

pub returns-then-any : goal.returns-then-any
returns-then-any c z l b f s p q e =
    let (k, m) = c.any.ensures.holds c.if-any.true in
    (omega arith, ((k, (c.against.ensures z l b f s p q).says k m), c.loop-a.invariant z l b f s p q))

pub loop-a-preserved : goal.loop-a-preserved
loop-a-preserved c z l b f s p q =
    none_next _ _ (c.loop-a.invariant z l b f s p q) (λ (k, o). c.any.ensures.fails c.if-any.false (k, (c.against.ensures z l b f s p q).has k o))

pub returns : goal.returns
returns c z l b f s p q e = reversed_none z l b _ _ f s p q _ e (λ a h. c.loop-a.invariant z l b f s p q a (omega arith))
