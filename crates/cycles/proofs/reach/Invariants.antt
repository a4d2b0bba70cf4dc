use Rattle.rows.proofs.Members.{value}
use Rattle.cycles.proofs.Reaches.{Reaching}
use Rattle.cycles.proofs.reach.Given as goal

abbrev pub invariant-loop-found : goal.invariant-loop-found
invariant-loop-found l = Reaching l.t l.n l.s l.rest l.found

abbrev pub decreases-loop-found : goal.decreases-loop-found
decreases-loop-found l = value l.rest
