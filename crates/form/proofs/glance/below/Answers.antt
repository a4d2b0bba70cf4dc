use native.Mathlib.Omega.{arith}
use Rattle.std.proofs.lemmas.Grind.{common_steps}
use Rattle.form.proofs.Seeing.{topped_more}
use Rattle.form.proofs.glance.below.Goals as goal

pub loop-b-preserved : goal.loop-b-preserved
loop-b-preserved c = topped_more _ _ _ _ _ _ c.loop-b.invariant (grind (arith, common_steps)) (omega arith) (grind (arith, common_steps)) (grind (arith, common_steps))
