use native.Mathlib.Omega.{arith}
use Rattle.rows.proofs.Members.{member_pos, is_without_first}
use Rattle.rows.proofs.Set.without_first.Goals as goal

pub overflow_sub-result : goal.overflow_sub-result
overflow_sub-result c = omega (arith, member_pos c.args.self.word c.requires)

pub returns : goal.returns
returns c = is_without_first c.args.self.word
