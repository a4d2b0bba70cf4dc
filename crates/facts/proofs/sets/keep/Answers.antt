use Rattle.rows.proofs.Members.{in_low}
use Rattle.facts.proofs.Keeping.{keep_skip}
use Rattle.facts.proofs.sets.keep.Goals as goal

pub one-requires : goal.one-requires
one-requires g c = in_low _ _ c.in-Some.ensures.steps.0.0

pub loop-e-preserved : goal.loop-e-preserved
loop-e-preserved g c = let s = c.in-Some.ensures.steps in keep_skip _ _ _ _ c.loop-e.invariant _ s.0.0 _ s.1 c.if-test.ensures
