use Rattle.cycles.proofs.Digs.{left_on}
use Rattle.cycles.proofs.left.Goals as goal

pub returns : goal.returns
returns c = left_on _ _ _ _ c.full.ensures c.dig.ensures.0
