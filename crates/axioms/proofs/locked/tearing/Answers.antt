use native.Mathlib.Omega.{arith}
use Rattle.rows.proofs.Members.{in_low}
use Rattle.rows.proofs.Seeks.{seek_begin, seek_next, seek_found, seek_none}
use Rattle.axioms.proofs.Tears.{tearing_in, tearing_tested}
use Rattle.axioms.proofs.locked.tearing.Goals as goal

pub loop-x-init : goal.loop-x-init
loop-x-init c z line v n lock ia =
    rw c.into_iter-x-iterator.ensures.into_iter_gives (seek_begin _ _ (tearing_in z line _ _ v _ n _ lock ia _ c.row-2.ensures _ _ _ c.row.ensures c.bitand-after.ensures c.sub-x-items.ensures))

pub torn_from-requires : goal.torn_from-requires
torn_from-requires c =
    let (ht, ha, hm) = c.requires in
    let h = in_low _ _ c.in-Some.ensures.steps.0.0 in
    (omega arith, hm)

pub returns-then-any : goal.returns-then-any
returns-then-any c z line v n lock ia =
    let h = c.loop-x.invariant z line v n lock ia in
    let l = c.in-Some.ensures.steps.0 in
    let m = rw c.into_iter-x-iterator.ensures.into_iter_gives at h.part _ l.0 in
    let r = tearing_tested z line _ _ v _ n _ lock ia _ c.row-2.ensures _ _ _ c.row.ensures c.bitand-after.ensures c.sub-x-items.ensures _ m _ (c.torn_from.ensures z line v n lock ia) _ c.any.ensures in
    seek_found _ _ _ h _ l (r.holds c.if-any.true)

pub loop-x-preserved : goal.loop-x-preserved
loop-x-preserved c z line v n lock ia =
    let h = c.loop-x.invariant z line v n lock ia in
    let s = c.in-Some.ensures.steps in
    let m = rw c.into_iter-x-iterator.ensures.into_iter_gives at h.part _ s.0.0 in
    let r = tearing_tested z line _ _ v _ n _ lock ia _ c.row-2.ensures _ _ _ c.row.ensures c.bitand-after.ensures c.sub-x-items.ensures _ m _ (c.torn_from.ensures z line v n lock ia) _ c.any.ensures in
    seek_next _ _ _ h _ (r.fails c.if-any.false) _ s.1

pub returns : goal.returns
returns c z line v n lock ia = seek_none _ _ _ (c.loop-x.invariant z line v n lock ia) 64 c.in-None.ensures.steps
