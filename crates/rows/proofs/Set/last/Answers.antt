use borrow.Author.Rules.{rules}
use Rattle.rows.proofs.Members.{in_low, none_in_zero, first_found, last_greatest}
use native.Mathlib.Omega.{arith}
use Rattle.rows.proofs.Set.last.Goals as goal

pub overflow_cast-result : goal.overflow_cast-result
overflow_cast-result c = let f = first_found c.args.self.word (search rules) c.if-self-eq0.false in
    let l = in_low _ _ (last_greatest _ (search rules) (_, f.0)).0 in omega arith

pub returns-then-self-eq0 : goal.returns-then-self-eq0
returns-then-self-eq0 c = none_in_zero _ c.if-self-eq0.true

pub returns-else-self-eq0 : goal.returns-else-self-eq0
returns-else-self-eq0 c = let f = first_found c.args.self.word (search rules) c.if-self-eq0.false in
    last_greatest _ (search rules) (_, f.0)
