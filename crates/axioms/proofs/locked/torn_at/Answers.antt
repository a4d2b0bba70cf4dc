use native.Mathlib.Omega.{arith}
use Rattle.order.proofs.Tests.{by_yes, by_no}
use Rattle.rows.proofs.Members.{in_low}
use Rattle.rows.proofs.Seeks.{seek_begin, seek_next}
use Rattle.axioms.proofs.Tears.{split_tested, split_torn, torn_split}
use Rattle.axioms.proofs.locked.torn_at.Goals as goal

pub loop-b-init : goal.loop-b-init
loop-b-init c = seek_begin _ _ (λ b q. q.0)

pub row-requires-in-loop-b : goal.row-requires-in-loop-b
row-requires-in-loop-b c = let h = in_low _ _ c.in-Some.ensures.steps.0.0 in omega (arith, c.requires.0)

pub returns-then-any : goal.returns-then-any
returns-then-any c z line v n lock ia =
    let m = c.loop-b.invariant.part _ c.in-Some.ensures.steps.0.0 in
    let r = split_tested _ _ _ _ _ _ c.row-in-loop-b.ensures c.sub.ensures m _ c.any.ensures in
    by_yes (split_torn z line _ _ v _ n _ lock ia _ c.row-mates.ensures _ _ _ c.row.ensures c.bitand-after.ensures c.sub-others.ensures _ (rw c.into_iter-b-iterator.ensures.into_iter_gives c.bitand-b-items.ensures) _ (r.holds c.if-any.true))

pub loop-b-preserved : goal.loop-b-preserved
loop-b-preserved c =
    let s = c.in-Some.ensures.steps in
    let r = split_tested _ _ _ _ _ _ c.row-in-loop-b.ensures c.sub.ensures (c.loop-b.invariant.part _ s.0.0) _ c.any.ensures in
    seek_next _ _ _ c.loop-b.invariant _ (r.fails c.if-any.false) _ s.1

pub returns : goal.returns
returns c z line v n lock ia =
    by_no (λ q. let (b, s) = torn_split z line _ _ v _ n _ lock ia _ c.row-mates.ensures _ _ _ c.row.ensures c.bitand-after.ensures c.sub-others.ensures _ (rw c.into_iter-b-iterator.ensures.into_iter_gives c.bitand-b-items.ensures) q in c.in-None.ensures.steps (b, c.loop-b.invariant.each b s))
