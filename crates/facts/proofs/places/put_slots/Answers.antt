use native.Mathlib.Omega.{arith}
use Rattle.facts.proofs.Counting.{upto_none}
use Rattle.facts.proofs.Sorting.{event_low}
use Rattle.facts.proofs.Slotting.{slot_more, slot_done}
use Rattle.facts.proofs.places.put_slots.Goals as goal

pub loop-e-init : goal.loop-e-init
loop-e-init c = upto_none _ _

pub link-requires : goal.link-requires
link-requires c = let p = c.requires in
    let q = p.1 in
    let t = p.2 in
    let z = c.loop-e.invariant.same in
    let b = event_low _ p.0 c.loop-e.e (omega arith) in
    (omega arith, omega arith)

pub loop-e-preserved : goal.loop-e-preserved
loop-e-preserved c = slot_more _ _ _ _ c.event_of.ensures _ _ c.loop-e.invariant c.link.ensures

pub returns : goal.returns
returns c = let p = c.requires in
    let q = p.1 in
    let t = p.2 in
    let z = c.loop-e.invariant.same in
    slot_done _ _ _ (omega arith) _ (omega arith) p.3 c.loop-e.invariant
