use Rattle.rows.proofs.Table.{adds_row}
use borrow.Author.Rules.{rules}
use Rattle.rows.proofs.add.Goals as goal

pub returns : goal.returns
returns c = adds_row _ _ c.args.s c.requires (search rules)
