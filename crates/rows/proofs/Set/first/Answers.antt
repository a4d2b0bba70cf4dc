use borrow.Author.Rules.{rules}
use Rattle.rows.proofs.Members.{in_low, none_in_zero, first_found}
use Rattle.rows.proofs.Set.first.Goals as goal

pub returns-then-self-eq0 : goal.returns-then-self-eq0
returns-then-self-eq0 c = λ k l p. none_in_zero _ c.if-self-eq0.true (k, p)

pub returns-else-self-eq0 : goal.returns-else-self-eq0
returns-else-self-eq0 c = let f = first_found c.args.self.word (search rules) c.if-self-eq0.false in (in_low _ _ f.0, f)
