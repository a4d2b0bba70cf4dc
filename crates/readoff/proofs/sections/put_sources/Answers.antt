use mathlib.Core.Path.{refl}
use native.Mathlib.Omega.{arith}
use Rattle.readoff.proofs.Pairings.{gives_unread, gives_pair, gives_none, pairing_none, pairing_more, pairing_skip, pairing_done}
use Rattle.readoff.proofs.sections.put_sources.Goals.{then-has+in-Some, then-has+in_default, else-has}
use Rattle.readoff.proofs.sections.put_sources.Goals as goal

pub loop-e-init : goal.loop-e-init
loop-e-init c =
    let h = c.requires.3 in
    (pairing_none _ _ _ _ _ (omega arith), λ z t. c.new-state.ensures z _)

pub loop-e-preserved : goal.loop-e-preserved
loop-e-preserved c =
    let l = c.loop-e in
    let u = c.bitor-reads.ensures in
    let less = c.loop-e-test.true in
    let d = c.has.ensures in
    let h = c.requires.3 in
    let v = l.invariant.0 in
    let m = l.invariant.1 in (
      elim c.if-has.branch [
        | then-has+in-Some w ↦ rw (w.out-is, w.to-is)
            (pairing_more _ _ _ _ _ _ _ _ v less _ (gives_pair _ _ _ _ less _ u _ d w.if-has.true _ m _ w.in-Some.ensures.source) (omega arith))
        | then-has+in_default w ↦ rw (w.out-is, w.to-is)
            (pairing_skip _ _ _ _ _ _ _ _ v less (gives_none _ _ _ _ less _ u _ d w.if-has.true _ m w.in_default.ensures.source))
        | else-has w ↦ rw (w.out-is, w.to-is) (pairing_skip _ _ _ _ _ _ _ _ v less (gives_unread _ _ _ _ less _ u _ d w.if-has.false))
      ],
      λ z t. c.step-state.ensures z _ l.e-index t.placed t.classed (t.low l.e-index less) refl (m z t),
    )

pub returns : goal.returns
returns c z p k low =
    let f = c.loop-e in
    pairing_done _ _ _ _ _ _ _ _ f.invariant.0 c.loop-e-test.false _ c.put_count.ensures z (record { placed = p; classed = k; low = low })
