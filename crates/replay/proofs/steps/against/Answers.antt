use Rattle.replay.proofs.Reversing.{reversed_is}
use Rattle.replay.proofs.steps.against.Goals as goal

pub returns : goal.returns
returns c z l b f s p q =
    reversed_is z l b _ _ f s p q _ c.row.result c.row-2.result _ c.row.ensures c.row-2.ensures c.sub.ensures
