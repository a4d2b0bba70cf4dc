use Rattle.order.proofs.Tests.{by_as}
use Rattle.order.proofs.Cycles.{cyclic_walk}
use Rattle.cycles.proofs.cyclic.Goals as goal

pub returns : goal.returns
returns c = let l = c.left.ensures in
    by_as _ (λ m. l.cyclic m.0 m.1) (λ r. let (k, a, w) = cyclic_walk _ r in (a, l.covers k a w)) c.any.ensures
