use mathlib.Core.Path.{refl}
use native.Mathlib.Omega.{arith}
use Rattle.record.proofs.Lays.{next_fits, after_stands}
use Rattle.record.proofs.sections.after.Goals as goal

pub overflow_mul-at : goal.overflow_mul-at
overflow_mul-at c = let p = c.requires in
    let h = next_fits _ p.0 _ _ _ p.1 p.2 c.width.ensures p.3 in
    omega arith

pub overflow_add-at : goal.overflow_add-at
overflow_add-at c = let p = c.requires in
    let h = next_fits _ p.0 _ _ _ p.1 p.2 c.width.ensures p.3 in
    omega arith

pub overflow_add-result : goal.overflow_add-result
overflow_add-result c = let p = c.requires in
    let h = next_fits _ p.0 _ _ _ p.1 p.2 c.width.ensures p.3 in
    omega arith

pub num2-requires : goal.num2-requires
num2-requires c = let p = c.requires in
    next_fits _ p.0 _ _ _ p.1 p.2 c.width.ensures p.3

pub returns : goal.returns
returns c = let p = c.requires in
    after_stands _ p.0 _ _ _ p.1 p.2 c.width.ensures p.3 _ refl c.num2.ensures.0
