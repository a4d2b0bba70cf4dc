use Rattle.rows.proofs.Members.{is_none}
use Rattle.rows.proofs.Set.none.Goals as goal

pub returns : goal.returns
returns c = is_none
