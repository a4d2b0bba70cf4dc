use Rattle.facts.proofs.Sorting.{classed}
use Rattle.facts.proofs.kinds.classify.Goals as goal

pub returns : goal.returns
returns c = λ x p q. classed x _ _ p q _ c.row.ensures c.row-2.ensures c.row-3.ensures c.row-4.ensures c.row-5.ensures
