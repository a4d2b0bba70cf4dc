use native.Mathlib.Omega.{arith}
use Rattle.rows.proofs.Members.{in_low}
use Rattle.rows.proofs.Seeks.{seek_begin, seek_next, seek_found, seek_none}
use Rattle.axioms.proofs.Tears.{torn_in, torn_found, torn_not}
use Rattle.axioms.proofs.locked.torn.Goals as goal

pub loop-a-init : goal.loop-a-init
loop-a-init c z line v n i = rw c.into_iter-a-iterator.ensures.into_iter_gives (seek_begin _ _ (torn_in z line _ _ v _ _ i c.bitand-a-items.ensures))

pub torn_at-requires : goal.torn_at-requires
torn_at-requires c =
    let (ht, hm) = c.requires in
    let h = in_low _ _ c.in-Some.ensures.steps.0.0 in
    (ht, omega arith, omega arith)

pub returns-then-torn_at : goal.returns-then-torn_at
returns-then-torn_at c z line v n i =
    let h = c.loop-a.invariant z line v n i in
    let l = c.in-Some.ensures.steps.0 in
    let m = rw c.into_iter-a-iterator.ensures.into_iter_gives at h.part _ l.0 in
    seek_found _ _ _ h _ l (torn_found z line _ _ v _ _ i c.bitand-a-items.ensures _ _ (c.torn_at.ensures z line v n) m c.if-torn_at.true)

pub loop-a-preserved : goal.loop-a-preserved
loop-a-preserved c z line v n i =
    seek_next _ _ _ (c.loop-a.invariant z line v n i) _ (torn_not z line _ _ v _ _ (c.torn_at.ensures z line v n) c.if-torn_at.false) _ c.in-Some.ensures.steps.1

pub returns : goal.returns
returns c z line v n i = seek_none _ _ _ (c.loop-a.invariant z line v n i) 64 c.in-None.ensures.steps
