use Rattle.axioms.proofs.Overwrites.{overwriting_is}
use Rattle.axioms.proofs.overwritten.overwriting.Goals as goal

pub returns : goal.returns
returns c z p s o iw ir =
    overwriting_is z p _ _ _ _ s _ c.bitor.ensures _ _ o iw ir _ _ _ _ _ _ _ c.row.ensures c.bitand-writes.ensures c.row-2.ensures c.bitand-later.ensures c.bitand.ensures c.row-3.ensures c.sub.ensures
