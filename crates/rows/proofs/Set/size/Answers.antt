use borrow.Author.Rules.{rules}
use Rattle.rows.proofs.Members.{size_counted}
use Rattle.rows.proofs.Set.size.Goals as goal

pub returns : goal.returns
returns c = size_counted _ (search rules)
