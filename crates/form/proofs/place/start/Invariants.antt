use Prim.Native.Nat.{◌*◌, ◌≤◌}
use mathlib.Core.Path.{◌≡◌}
use Rattle.form.specs.Place.{start}
use Rattle.form.proofs.place.start.Given as goal

abbrev pub invariant-loop-j : goal.invariant-loop-j
invariant-loop-j l = (l.a ≡ start l.s l.j) × (l.a ≤ l.j * 786422)
