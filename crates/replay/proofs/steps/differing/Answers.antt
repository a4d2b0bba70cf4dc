use mathlib.Core.Logic.{◌⊎◌, inl, inr}
use Prim.Native.Nat.{◌<◌}
use lib.ListN.{length}
use native.Mathlib.Omega.{arith}
use Rattle.order.proofs.Searches.{none_next}
use Rattle.record.specs.Says.{execution_of}
use Rattle.model.specs.Model.{Reads}
use Rattle.sequences.specs.ReadOff.{event}
use Rattle.sequences.specs.Sequence.{Holds}
use Rattle.replay.proofs.Stating.{read_known}
use Rattle.replay.proofs.Values.{step_is, step_low, differs_is, differs_not}
use Rattle.replay.proofs.steps.differing.Goals.{else-has-via-then-has+else-not-agrees, else-has-via-else-has}
use Rattle.replay.proofs.steps.differing.Goals as goal

pub has-requires : goal.has-requires
has-requires c =
    let p = c.requires in
    let h = c.loop-i-test.true in
    (step_low _ p.right.0 _ _ p.by_index _ (omega arith) _ c.num1-e.ensures.0).1

pub agrees-requires : goal.agrees-requires
agrees-requires c =
    let p = c.requires in
    let h = c.loop-i-test.true in
    let (l, a, e) = p.by_index in record { right = (p.right.0, p.right.1, p.right.2, (step_low _ p.right.0 _ _ p.by_index _ (omega arith) _ c.num1-e.ensures.0).0); by_index = (l, (c.loop-i.i, (c.loop-i.invariant l a e).0)) }

pub returns-then-not-agrees : goal.returns-then-not-agrees
returns-then-not-agrees c l a e =
    let z = execution_of c.args.s.now in
    let r = c.num1-e.ensures.0 in
    let h = c.loop-i-test.true in
    let g = (step_low _ c.requires.right.0 _ _ c.requires.by_index _ (omega arith) _ r).0 in
    let (s, f) = c.loop-i.invariant l a e in
    let d = differs_is z l _ a _ (omega arith) _ r
    ((read_known z _ c.requires.right.3 _ _ g _ c.bitor-reads.ensures c.has.ensures).holds c.if-has.true)
    ((c.agrees.ensures l _ s).fails c.if-not-agrees.true) in
    (h, (d, f))

pub step-state-requires : goal.step-state-requires
step-state-requires c =
    let p = c.requires in
    let t = c.loop-i-test.true in
    let h = (step_low _ p.right.0 _ _ p.by_index _ (omega arith) _ c.num1-e.ensures.0).1 in
    let q = p.right.2.rows in
    (omega arith, h)

pub loop-i-preserved : goal.loop-i-preserved
loop-i-preserved c l a e =
    let z = execution_of c.args.s.now in
    let r = c.num1-e.ensures.0 in
    let g = (step_low _ c.requires.right.0 _ _ c.requires.by_index _ c.loop-i-test.true _ r).0 in
    let x = event z c.num1-e.result in
    let h : c.loop-i.i < length l = let t = c.loop-i-test.true in omega arith in
    let (s, f) = c.loop-i.invariant l a e in
    let known : Holds z l c.loop-i.i c.num1-e.result x.value ⊎ (Reads x → ⊥) = elim c.else-has.branch [
      | else-has-via-then-has+else-not-agrees w ↦ inl ((w.agrees.ensures l _ s).holds w.if-not-agrees.false)
      | else-has-via-else-has w ↦ inr ((read_known z _ c.requires.right.3 _ _ g _ c.bitor-reads.ensures c.has.ensures).fails w.if-has.false)
    ] in (
      c.step-state.ensures z l _ c.requires.right.2 c.requires.right.3 g (step_is z l _ a _ h _ r) s,
      none_next _ _ f (differs_not z l _ a _ h _ r known (λ v. v) (λ v. v)),
    )
