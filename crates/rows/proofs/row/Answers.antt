use Rattle.rows.proofs.Table.{is_row}
use Rattle.rows.proofs.row.Goals as goal

pub returns : goal.returns
returns c = is_row c.args.t.now c.args.a
