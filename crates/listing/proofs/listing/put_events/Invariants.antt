use Rattle.listing.proofs.Lines.{Eventing}
use Rattle.listing.proofs.listing.put_events.Given as goal

abbrev pub invariant-loop-e : goal.invariant-loop-e
invariant-loop-e l = Eventing l.t l.initial.out l.at l.out l.to l.e
