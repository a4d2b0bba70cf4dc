-- The loop stands at a view, and the views that are left give the answer.
use Prim.Native.Nat.{ℕ, ◌+◌}
use mathlib.Core.Path.{◌≡◌}
use native.Mathlib.Omega.{arith}
use Rattle.form.specs.Place.{view_start}
use Rattle.form.proofs.Starts.{view_start_next}
use Rattle.reader.specs.Entries.{view_from}
use Rattle.reader.proofs.Firsts.{looking, look_none, look_found, look_next, view_is}
use Rattle.reader.proofs.view_from.Goals as goal

pub loop-init : goal.loop-init
unfolding view_start view_from
loop-init c = looking _ _ _ _ _ _ _ (cc) (omega arith) c.byte-end.ensures.0

pub returns-then-at-view : goal.returns-then-at-view
returns-then-at-view c =
    let l = c.loop in
    look_found l.invariant _ _ (view_is _ l.counter _ _ l.invariant.here c.count_at-len.ensures.0) (omega arith) (omega arith)

pub loop-preserved : goal.loop-preserved
loop-preserved c =
    let l = c.loop in
    let n = c.count_at-len in
    let e : ◌≡◌ {A = ℕ} (l.view + (2 + n.result)) (l.view + 2 + n.result) = omega arith in
    look_next l.invariant _ _ (view_is _ l.counter _ _ l.invariant.here n.ensures.0) (omega arith) _ (omega arith) (cc (e, view_start_next _ l.counter)) (omega arith)

pub returns : goal.returns
returns c = look_none c.loop.invariant (omega arith)
