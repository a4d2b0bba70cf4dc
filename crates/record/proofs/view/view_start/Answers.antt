use Prim.Native.Nat.{◌+◌}
use mathlib.Core.Path.{ap}
use Rattle.form.specs.Place.{view_start}
use Rattle.form.proofs.Starts.{view_start_next}
use Rattle.record.proofs.view.view_start.Goals as goal

pub loop-q-init : goal.loop-q-init
unfolding view_start
loop-q-init c = ap (λ x. x + 2) c.requires.2

pub loop-q-preserved : goal.loop-q-preserved
loop-q-preserved c = cc (view_start_next _ c.loop-q._q)
