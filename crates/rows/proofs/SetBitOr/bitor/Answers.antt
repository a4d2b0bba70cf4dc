use Rattle.rows.proofs.Members.{is_union}
use Rattle.rows.proofs.SetBitOr.bitor.Goals as goal

pub returns : goal.returns
returns c = is_union _ _
