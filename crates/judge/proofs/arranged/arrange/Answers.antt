use Rattle.rows.proofs.Table.{adds_then}
use Rattle.judge.proofs.arranged.arrange.Goals as goal

pub returns : goal.returns
returns c = adds_then _ _ _ _ _ c.join.ensures c.put_order.ensures
