use Rattle.rows.proofs.Members.{is_one}
use Rattle.rows.proofs.Bits.{shl_one}
use Rattle.rows.proofs.Set.one.Goals as goal

pub returns : goal.returns
returns c = rw (shl_one _ c.requires) (is_one _ c.requires)
