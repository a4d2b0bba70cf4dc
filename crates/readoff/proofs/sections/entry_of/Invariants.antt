use Rattle.order.specs.Least.{None}
use Rattle.rows.specs.Table.{rel}
use Rattle.readoff.proofs.sections.entry_of.Given as goal

abbrev pub invariant-loop-i : goal.invariant-loop-i
invariant-loop-i l = None l.i (λ j. rel l.k j l.e)
