use Prim.Native.Nat.{◌+◌}
use mathlib.Core.Path.{◌∙◌, ap, sym}
use native.Mathlib.Omega.{arith}
use Rattle.std.proofs.lemmas.Result.{err_from_is_err_and}
use Rattle.form.specs.Bytes.{num}
use Rattle.record.proofs.Reading.{view_count_small, view_count_fits}
use Rattle.record.proofs.Viewing.{view_unread, view_read, view_refused, view_unknown, view_known, reached_right, reached_place, two_fit}
use Rattle.record.proofs.view.find.Goals as goal

pub returns-in_err-nine : goal.returns-in_err-nine
returns-in_err-nine c =
    let (x, (y, z)) = view_refused c.args.s.now c.args.p c.in_err-nine.field-0.0 (sym c.in_err-nine.ensures) in
    let p = err_from_is_err_and c.from_residual.result c.from_residual.ensures.1 in
    rw (p.1, p.2) (view_unread c.args.s.now c.args.p _ (sym c.in_err-nine.ensures), x, sym y, sym z)

pub num1-requires : goal.num1-requires
num1-requires c = two_fit _ (reached_right c.args.s.now c.in_ok-nine.nine (sym c.in_ok-nine.ensures))

pub returns-then-num1-from : goal.returns-then-num1-from
returns-then-num1-from c = let (x, (y, z)) = view_unknown c.args.s.now c.args.p c.in_ok-nine.nine (sym c.in_ok-nine.ensures) (omega arith) in
    (view_read c.args.s.now c.args.p _ (sym c.in_ok-nine.ensures), omega arith, x, sym y, sym z)

pub view_start-at-requires : goal.view_start-at-requires
view_start-at-requires c = let s = c.args.s.now in
    let n = c.in_ok-nine.nine in
    (reached_right s n (sym c.in_ok-nine.ensures), omega arith, reached_place s n (sym c.in_ok-nine.ensures))

pub overflow_add-result : goal.overflow_add-result
overflow_add-result c = let a = c.args in
    let h = view_count_small a.s.now (reached_right _ c.in_ok-nine.nine (sym c.in_ok-nine.ensures)) a.p (omega arith) in
    omega arith

pub num2-requires : goal.num2-requires
num2-requires c = let a = c.args in
    let h = view_count_fits a.s.now (reached_right _ c.in_ok-nine.nine (sym c.in_ok-nine.ensures)) a.p (omega arith) in
    omega arith

pub returns : goal.returns
returns c = let a = c.args in
    let (x, (y, z)) = view_known a.s.now a.p c.in_ok-nine.nine (sym c.in_ok-nine.ensures) (omega arith) in
    (sym x, ap (λ q. q + 2) c.view_start-at.ensures ∙ y, c.num2.ensures.0 ∙ ap (λ q. num 2 a.s.now q) c.view_start-at.ensures ∙ z)
