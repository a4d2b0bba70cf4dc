use mathlib.Core.Path.{refl, ◌∙◌}
use lib.ListN.{length-set}
use native.Mathlib.Omega.{arith}
use Rattle.readoff.proofs.Entries.{Locks, listing_begin, listing_skip, listing_found, listing_more, listing_done}
use Rattle.readoff.proofs.sections.put_locks.Goals.{then-has+in-Some, then-has+in_default, else-has}
use Rattle.readoff.proofs.sections.put_locks.Goals as goal

pub loop-e-init : goal.loop-e-init
loop-e-init c = let p = c.requires in
    (omega arith, omega arith, refl, λ z q. listing_begin _ _ _ _ _ q _ _ (omega arith))

pub loop-e-preserved : goal.loop-e-preserved
loop-e-preserved c = let v = c.loop-e.invariant in
    let p = c.requires in
    let t = c.loop-e-test.true in
    elim c.if-has.branch [
      | then-has+in-Some w ↦ rw (w.to-is, w.out-is, w.left-is) (
        omega arith,
        omega arith,
        length-set c.loop-e.out c.loop-e.to _ ∙ v.2,
        λ z q. listing_more _ _ _ _ _ q _ _ _ _ _ _ (v.3 z q) t (c.has.ensures.holds w.if-has.true) _ w.in-Some.ensures _ _ w.row.ensures
            w.sub-left.ensures (omega arith),
      )
      | then-has+in_default w ↦ rw (w.to-is, w.out-is, w.left-is) (
        omega arith,
        omega arith,
        v.2,
        λ z q. absurd (listing_found _ _ _ _ _ q _ _ _ _ _ _ (v.3 z q) t (c.has.ensures.holds w.if-has.true) w.in_default.ensures),
      )
      | else-has w ↦ rw (w.to-is, w.out-is, w.left-is) (
        omega arith,
        omega arith,
        v.2,
        λ z q. listing_skip _ _ _ _ _ q _ _ _ _ _ _ (v.3 z q) t (c.has.ensures.fails w.if-has.false),
      )
    ]

pub returns : goal.returns
returns c z entered size all repeats low =
    let q : Locks z _ _ _ _ = record { entered = entered; size = size; all = all; repeats = repeats; low = low } in
    listing_done _ _ _ _ _ q _ _ _ _ _ _ _ (c.loop-e.invariant.3 z q) c.loop-e-test.false c.put_count.ensures
