use mathlib.Core.Path.{◌≡◌}
use Rattle.form.specs.Form.{entry, entries}
use Rattle.form.specs.Steps.{upto}
use Rattle.form.proofs.chain.entries.Given as goal

abbrev pub invariant-loop-i : goal.invariant-loop-i
invariant-loop-i l = upto (λ j b. entry l.c l.s l.k b) l._i l.m l.a ≡ entries l.c l.s l.k l.m l.at
