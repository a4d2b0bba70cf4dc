use Rattle.rows.proofs.Members.{is_minus}
use Rattle.rows.proofs.SetSub.sub.Goals as goal

pub returns : goal.returns
returns c = is_minus _ _
