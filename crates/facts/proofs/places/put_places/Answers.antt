use native.Mathlib.Omega.{arith}
use Rattle.rows.proofs.Members.{in_low}
use Rattle.record.proofs.Formings.{formed}
use Rattle.facts.proofs.Placing.{place_more, place_less, place_done}
use Rattle.facts.proofs.places.put_places.Goals as goal

pub full-left-requires : goal.full-left-requires
full-left-requires c = let p = c.requires in
    let q = p.1 in
    let h = (formed _ p.0).events.within in
    omega arith

pub loop-e-smaller : goal.loop-e-smaller
loop-e-smaller c = place_less _ _ _ _ c.loop-e.invariant _ c.in-Some.ensures.1.0 _ _ c.alike-like.ensures c.sub-left.ensures

pub loop-e-preserved : goal.loop-e-preserved
loop-e-preserved c = place_more _ _ _ _ c.loop-e.invariant _ c.in-Some.ensures.1.0 _ _ c.alike-like.ensures c.sub-left.ensures _ c.spread.ensures

pub returns : goal.returns
returns c = let p = c.requires in
    place_done _ _ _ _ c.loop-e.invariant (λ (k, m). c.in_default.ensures k (in_low _ k m) m) p.4 p.5
