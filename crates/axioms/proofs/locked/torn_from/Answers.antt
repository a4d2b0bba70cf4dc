use Rattle.axioms.proofs.Tears.{torn_from_is}
use Rattle.axioms.proofs.locked.torn_from.Goals as goal

pub returns : goal.returns
returns c z line v n lock ia ix =
    torn_from_is z line _ _ v _ n _ lock ia _ c.row-2.ensures _ ix _ _ _ c.row.ensures c.bitand.ensures c.bitand-2.ensures
