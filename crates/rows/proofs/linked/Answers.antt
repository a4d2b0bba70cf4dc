use Rattle.order.proofs.Tests.{by_as}
use Rattle.rows.proofs.linked.Goals as goal

pub returns : goal.returns
returns c = let i = c.row.ensures in
    by_as _ (λ m. i.says _ m) (λ m. i.has _ m) c.has.ensures
