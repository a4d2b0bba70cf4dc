use Rattle.axioms.proofs.Initials.{preceding_is}
use Rattle.axioms.proofs.initial.preceding.Goals as goal

pub returns : goal.returns
returns c z p scene m k = preceding_is _ _ _ _ _ _ scene _ m k _ _ _ _ _ _ c.bitor.ensures c.row.ensures c.bitand-writes.ensures c.bitand.ensures c.row-2.ensures c.sub.ensures
