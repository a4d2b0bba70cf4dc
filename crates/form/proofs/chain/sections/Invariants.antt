use mathlib.Core.Path.{◌≡◌}
use Rattle.form.specs.Form.{block, sections}
use Rattle.form.specs.Steps.{upto}
use Rattle.form.proofs.chain.sections.Given as goal

abbrev pub invariant-loop-k : goal.invariant-loop-k
invariant-loop-k l = upto (block l.c l.s) l.k 9 l.a ≡ sections l.c l.s l.at
