use borrow.Author.Rules.{rules}
use Rattle.rows.proofs.Members.{by_some}
use Rattle.rows.proofs.Set.any.Goals as goal

pub returns : goal.returns
returns c = by_some c.args.self.word (search rules)
