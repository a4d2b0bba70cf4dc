use native.Mathlib.Omega.{arith}
use Rattle.replay.proofs.Breaking.{broken_none, second_some, second_least, third_some, broken_shown}
use Rattle.replay.proofs.sequence.from_thirtyone.Goals as goal

pub tearing-requires : goal.tearing-requires
tearing-requires c = let (z, l, line, mated, classed) = c.requires.by_index in
    let h = (c.in-Some.ensures z _ line mated classed.locked).0 in
    let t = line.rows in
    let m = mated.rows in
    (t, omega arith, omega arith)

pub unwrap-x-requires : goal.unwrap-x-requires
unwrap-x-requires c = let (z, l, line, mated, classed) = c.requires.by_index in
    second_some z l _ _ line _ (c.in-Some.ensures z _ line mated classed.locked) _ (c.tearing.ensures z _ line mated)

pub torn_from-requires : goal.torn_from-requires
torn_from-requires c = let (z, l, line, mated, classed) = c.requires.by_index in
    let h = c.in-Some.ensures z _ line mated classed.locked in
    let x = (second_least z l _ _ line _ h _ (c.tearing.ensures z _ line mated) _ c.unwrap-x.ensures).0 in
    let t = line.rows in
    let m = mated.rows in
    let g = h.0 in
    (omega arith, omega arith)

pub unwrap-b-requires : goal.unwrap-b-requires
unwrap-b-requires c = let (z, l, line, mated, classed) = c.requires.by_index in
    third_some z l _ _ line _ (c.in-Some.ensures z _ line mated classed.locked) _ (c.tearing.ensures z _ line mated) _ c.unwrap-x.ensures _
    (c.torn_from.ensures z _ line mated) _ c.first.ensures

pub overflow_cast-ev : goal.overflow_cast-ev
overflow_cast-ev c = let (z, l, line, mated, classed) = c.requires.by_index in
    let h = (c.in-Some.ensures z _ line mated classed.locked).0 in
    record { fits = omega arith }

pub overflow_cast-ev-in-Some : goal.overflow_cast-ev-in-Some
overflow_cast-ev-in-Some c = let (z, l, line, mated, classed) = c.requires.by_index in
    let h = c.in-Some.ensures z _ line mated classed.locked in
    let x = (second_least z l _ _ line _ h _ (c.tearing.ensures z _ line mated) _ c.unwrap-x.ensures).0 in
    record { fits = omega arith }

pub returns-in-Some : goal.returns-in-Some
returns-in-Some c z l line mated classed = let e = c.requires.has_rows.2 in
    broken_shown z l _ _ line _ (c.in-Some.ensures z _ line mated classed.locked) _ (c.tearing.ensures z _ line mated) _ c.unwrap-x.ensures _
    (c.torn_from.ensures z _ line mated) _ c.first.ensures _ c.unwrap-b.ensures _ (omega arith)

pub returns : goal.returns
returns c z l line mated classed = broken_none z l _ _ line (c.in_default.ensures z _ line mated classed.locked) _
