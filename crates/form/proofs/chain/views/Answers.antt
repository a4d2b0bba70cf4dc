use mathlib.Core.Path.{sym, ◌∙◌}
use native.Mathlib.Omega.{arith}
use Rattle.form.proofs.Runs.{upto_next}
use Rattle.form.proofs.chain.views.Goals as goal

pub loop-i-preserved : goal.loop-i-preserved
loop-i-preserved c = upto_next _ _ _ _ _ c.loop-i.invariant _ (omega arith) (sym c.block.ensures ∙ c.in_ok-a.was)
