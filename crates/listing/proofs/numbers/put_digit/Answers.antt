use native.Mathlib.Omega.{arith}
use Rattle.listing.proofs.Texts.{digit_none, digit_put}
use Rattle.listing.proofs.numbers.put_digit.Goals as goal

pub returns-then-x-p : goal.returns-then-x-p
returns-then-x-p c = let a = c.args in let h = c.requires.1 in digit_none _ _ a.p a.x (omega arith) (omega arith)

pub returns : goal.returns
returns c = let a = c.args in let h = c.requires.1 in digit_put _ _ a.p a.x (omega arith) (omega arith)
