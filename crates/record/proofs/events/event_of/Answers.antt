use native.Mathlib.Omega.{arith}
use Rattle.record.proofs.Places.{event_fits, event_is}
use Rattle.record.proofs.events.event_of.Goals as goal

pub overflow_mul-at : goal.overflow_mul-at
overflow_mul-at c = let p = c.requires in
    let h = event_fits _ p.0 _ p.1 in
    omega arith

pub overflow_add-at : goal.overflow_add-at
overflow_add-at c = let p = c.requires in
    let h = event_fits _ p.0 _ p.1 in
    omega arith

pub num1-requires : goal.num1-requires
num1-requires c = let p = c.requires in
    let h = event_fits _ p.0 _ p.1 in
    omega arith

pub overflow_add-at-2 : goal.overflow_add-at-2
overflow_add-at-2 c = let p = c.requires in
    let h = event_fits _ p.0 _ p.1 in
    omega arith

pub num1-requires-2 : goal.num1-requires-2
num1-requires-2 c = let p = c.requires in
    let h = event_fits _ p.0 _ p.1 in
    omega arith

pub overflow_add-at-3 : goal.overflow_add-at-3
overflow_add-at-3 c = let p = c.requires in
    let h = event_fits _ p.0 _ p.1 in
    omega arith

pub num2-requires : goal.num2-requires
num2-requires c = let p = c.requires in
    let h = event_fits _ p.0 _ p.1 in
    omega arith

pub overflow_add-at-4 : goal.overflow_add-at-4
overflow_add-at-4 c = let p = c.requires in
    let h = event_fits _ p.0 _ p.1 in
    omega arith

pub num4-requires : goal.num4-requires
num4-requires c = let p = c.requires in
    let h = event_fits _ p.0 _ p.1 in
    omega arith

pub overflow_add-at-5 : goal.overflow_add-at-5
overflow_add-at-5 c = let p = c.requires in
    let h = event_fits _ p.0 _ p.1 in
    omega arith

pub num4-requires-2 : goal.num4-requires-2
num4-requires-2 c = let p = c.requires in
    let h = event_fits _ p.0 _ p.1 in
    omega arith

pub returns : goal.returns
returns c = event_is _ c.requires.0 _ _ (cc)
