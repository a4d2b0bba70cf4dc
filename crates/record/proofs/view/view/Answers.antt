use mathlib.Core.Path.{refl}
use native.Mathlib.Omega.{arith}
use native.Mathlib.Nat.{add-sub_cancel_left}
use Rattle.record.specs.View.{view_part}
use Rattle.record.proofs.Viewing.{part_fits}
use Rattle.record.proofs.view.view.Goals as goal

pub overflow_add-result : goal.overflow_add-result
overflow_add-result c = let a = c.args in
    let h = part_fits a.s.now a.p in
    let e = c.in_ok-part.ensures in
    omega arith

pub slice_bounds-result-end : goal.slice_bounds-result-end
slice_bounds-result-end c = let a = c.args in
    let h = part_fits a.s.now a.p in
    let e = c.in_ok-part.ensures in
    omega arith

pub returns : goal.returns
unfolding view_part
returns c = let e = c.in_ok-part.ensures in
    (e.0, rw add-sub_cancel_left (cc), (refl, omega arith))
