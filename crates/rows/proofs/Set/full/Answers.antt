use Rattle.rows.proofs.Members.{is_full}
use Rattle.rows.proofs.Bits.{shl_one}
use lib.Pow.{pow_pos}
use native.Mathlib.Omega.{arith}
use borrow.Author.Rules.{rules}
use Rattle.rows.proofs.Set.full.Goals as goal

pub overflow_sub-result : goal.overflow_sub-result
overflow_sub-result c = omega (arith, shl_one c.args.n (search rules), pow_pos c.args.n)

pub returns-then-n-eq64 : goal.returns-then-n-eq64
returns-then-n-eq64 c = rw c.if-n-eq64.true (is_full 64 (omega arith))

pub returns-else-n-eq64 : goal.returns-else-n-eq64
returns-else-n-eq64 c = rw (shl_one c.args.n (search rules)) (is_full c.args.n c.requires)
