use mathlib.Core.Path.{◌≡◌}
use Rattle.form.specs.Form.{block, views}
use Rattle.form.specs.Steps.{upto}
use Rattle.form.proofs.chain.views.Given as goal

abbrev pub invariant-loop-i : goal.invariant-loop-i
invariant-loop-i l = upto (λ j b. block l.c l.s 9 b) l._i l.m l.a ≡ views l.c l.s l.m l.at
