use mathlib.Core.Path.{◌∙◌}
use native.Mathlib.Omega.{arith}
use Rattle.record.proofs.Formings.{formed}
use Rattle.record.proofs.Lockings.{lock_fits, lock_low, lock_within, lock_processor, lock_index, lock_four}
use Rattle.facts.proofs.Counting.{upto_none}
use Rattle.facts.proofs.Entering.{entry_is, enter_more, enter_done}
use Rattle.facts.proofs.locks.enter.Goals as goal

pub loop-i-init : goal.loop-i-init
loop-i-init c = upto_none _ _

pub overflow_mul-at : goal.overflow_mul-at
overflow_mul-at c = let p = c.requires in
    let h = lock_low _ p.0 _ p.1 c.loop-i.i c.loop-i-test.true in
    omega arith

pub overflow_add-at : goal.overflow_add-at
overflow_add-at c = let p = c.requires in
    let h = lock_low _ p.0 _ p.1 c.loop-i.i c.loop-i-test.true in
    omega arith

pub num1-requires : goal.num1-requires
num1-requires c = let p = c.requires in
    let h = lock_fits _ p.0 _ p.1 c.loop-i.i c.loop-i-test.true in
    omega arith

pub row-requires : goal.row-requires
row-requires c = let p = c.requires in
    let t = c.loop-i-test.true in
    let e = c.num1.ensures.0 ∙ lock_processor _ p.0 _ p.1 c.loop-i.i t in
    let h = lock_four _ p.0 _ p.1 c.loop-i.i t in
    let r = p.2.rows in
    omega arith

pub overflow_add-at-in-loop-i : goal.overflow_add-at-in-loop-i
overflow_add-at-in-loop-i c = let p = c.requires in
    let h = lock_low _ p.0 _ p.1 c.loop-i.i c.loop-i-test.true in
    omega arith

pub num2-requires : goal.num2-requires
num2-requires c = let p = c.requires in
    let h = lock_fits _ p.0 _ p.1 c.loop-i.i c.loop-i-test.true in
    omega arith

pub indexed-here-requires : goal.indexed-here-requires
indexed-here-requires c = let p = c.requires in
    let t = c.loop-i-test.true in
    let e = c.num1.ensures.0 ∙ lock_processor _ p.0 _ p.1 c.loop-i.i t in
    let h = lock_four _ p.0 _ p.1 c.loop-i.i t in
    (p.0, λ y m. ((p.2.own c.num1.result y (omega arith)).0 (c.row.ensures.says y m)).0)

pub add-requires : goal.add-requires
add-requires c = let p = c.requires in
    let h = lock_within _ p.0 _ p.1 c.loop-i.i c.loop-i-test.true in
    let b = (formed _ p.0).locks.within in
    let r = p.3 in
    let z = c.loop-i.invariant.same in
    omega arith

pub loop-i-preserved : goal.loop-i-preserved
loop-i-preserved c = let p = c.requires in
    let t = c.loop-i-test.true in
    let e = c.num1.ensures.0 ∙ lock_processor _ p.0 _ p.1 c.loop-i.i t in
    let h = lock_four _ p.0 _ p.1 c.loop-i.i t in
    let f = c.num2.ensures.0 ∙ lock_index _ p.0 _ p.1 c.loop-i.i t in
    let g = entry_is _ _ p.2 _ _ _ (omega arith) e f _ _ c.row.ensures c.indexed-here.ensures in
    enter_more _ _ _ _ g _ _ _ c.loop-i.invariant c.add.ensures c.add-in-loop-i.ensures

pub returns : goal.returns
returns c = let p = c.requires in
    let q = p.1.number in
    enter_done _ _ _ (omega arith) (formed _ p.0).locks.within _ p.3 p.4 c.loop-i.invariant
