use mathlib.Core.Path.{◌∙◌}
use native.Mathlib.Omega.{arith}
use Rattle.structure.proofs.Pairs.{pair_fits, pair_low, pair_from, pair_to, from_low, to_low}
use Rattle.structure.proofs.causes.pair.Goals as goal

pub overflow_mul-at : goal.overflow_mul-at
overflow_mul-at c = let p = c.requires in let h = pair_low _ p.0 _ p.1 _ p.2 in omega arith

pub overflow_add-at : goal.overflow_add-at
overflow_add-at c = let p = c.requires in let h = pair_low _ p.0 _ p.1 _ p.2 in omega arith

pub num1-requires : goal.num1-requires
num1-requires c = let p = c.requires in let h = pair_fits _ p.0 _ p.1 _ p.2 in omega arith

pub overflow_add-at-2 : goal.overflow_add-at-2
overflow_add-at-2 c = let p = c.requires in let h = pair_low _ p.0 _ p.1 _ p.2 in omega arith

pub num1-requires-2 : goal.num1-requires-2
num1-requires-2 c = let p = c.requires in let h = pair_fits _ p.0 _ p.1 _ p.2 in omega arith

pub returns : goal.returns
returns c =
    let p = c.requires in
    let a = c.num1.ensures.0 in
    let b = c.num1-2.ensures.0 in
    record {
      from = a ∙ pair_from _ p.0 _ p.1 _ p.2;
      to = b ∙ pair_to _ p.0 _ p.1 _ p.2;
      low = (rw a (from_low _ p.0 _ p.1 _ p.2), rw b (to_low _ p.0 _ p.1 _ p.2));
    }
