use Rattle.rows.proofs.Members.{by_bit}
use Rattle.rows.proofs.Set.has.Goals as goal

pub returns : goal.returns
returns c = by_bit _ _ c.requires
