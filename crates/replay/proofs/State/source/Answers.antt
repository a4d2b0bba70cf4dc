use Rattle.replay.proofs.Stating.{source_is}
use Rattle.replay.proofs.State.source.Goals as goal

pub returns-clause-source : goal.returns-clause-source
returns-clause-source c z l i p h s = source_is z l i _ s _ p _ h c.row.result c.bitand.result c.row.ensures c.bitand.ensures _ c.first.ensures
