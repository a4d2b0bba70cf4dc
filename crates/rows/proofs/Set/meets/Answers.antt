use borrow.Author.Rules.{rules}
use Rattle.rows.proofs.Members.{by_both}
use Rattle.rows.proofs.Set.meets.Goals as goal

pub returns : goal.returns
returns c = by_both _ _ (search rules)
