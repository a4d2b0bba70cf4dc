use Rattle.rows.proofs.Members.{is_common}
use Rattle.rows.proofs.SetBitAnd.bitand.Goals as goal

pub returns : goal.returns
returns c = is_common _ _
