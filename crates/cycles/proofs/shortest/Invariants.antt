use Rattle.rows.specs.Table.{on}
use Rattle.rows.proofs.Members.{value}
use Rattle.cycles.proofs.Searches.{Searching}
use Rattle.cycles.proofs.shortest.Given as goal

abbrev pub invariant-loop-at : goal.invariant-loop-at
invariant-loop-at l = Searching (on l.n l.t) l.n l.rest l.found.len l.found.at

abbrev pub decreases-loop-at : goal.decreases-loop-at
decreases-loop-at l = value l.rest
