use Rattle.readoff.proofs.Pairings.{Remembered, Pairing}
use Rattle.readoff.proofs.sections.put_sources.Given as goal

abbrev pub invariant-loop-e : goal.invariant-loop-e
invariant-loop-e l = Pairing l.list l.q l.c l.initial.out l.at l.out l.to l.e-index × Remembered l.list l.q l.c l.e-index l.state
