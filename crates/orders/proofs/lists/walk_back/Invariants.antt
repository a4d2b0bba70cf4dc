use Rattle.facts.specs.Lists.{list_of}
use Rattle.orders.specs.Walks.{Itself}
use Rattle.orders.proofs.Walking.{Walking}
use Rattle.orders.proofs.lists.walk_back.Given as goal

abbrev pub invariant-loop-i : goal.invariant-loop-i
invariant-loop-i g l = Walking Itself (goal.T-post g l.to) (list_of l.s l.list) l.i l.later l.initial.t l.t
