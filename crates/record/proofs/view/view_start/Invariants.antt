use mathlib.Core.Path.{◌≡◌}
use Rattle.form.specs.Place.{view_start}
use Rattle.record.proofs.view.view_start.Given as goal

abbrev pub invariant-loop-q : goal.invariant-loop-q
invariant-loop-q l = l.a ≡ view_start l.s l._q
