use native.Mathlib.Omega.{arith}
use mathlib.Core.Path.{sym, ◌∙◌}
use Rattle.rows.proofs.Members.{in_low}
use Rattle.rows.proofs.Seeks.{seek_begin, seek_next, seek_found, seek_none}
use Rattle.axioms.proofs.Overwrites.{source_in, source_found, source_not}
use Rattle.axioms.proofs.overwritten.overwritten.Goals as goal

pub loop-w-init : goal.loop-w-init
loop-w-init c z p s u = rw c.into_iter-w-iterator.ensures.into_iter_gives (seek_begin _ _ (source_in z p _ _ _ _ s _ c.bitor-writes.ensures _ c.bitand-w-items.ensures))

pub overwritten_from-requires : goal.overwritten_from-requires
overwritten_from-requires c =
    let (ht, hq, hu) = c.requires in
    let h = in_low _ _ c.in-Some.ensures.steps.0.0 in
    (ht, hq, omega arith, omega arith)

pub returns-then-is_some : goal.returns-then-is_some
returns-then-is_some c z p s u =
    let h = c.loop-w.invariant z p s u in
    let l = c.in-Some.ensures.steps.0 in
    let m = rw c.into_iter-w-iterator.ensures.into_iter_gives at h.part _ l.0 in
    seek_found _ _ _ h _ l (source_found z p _ _ _ _ s _ c.bitor-writes.ensures _ c.bitand-w-items.ensures _ m _ (c.overwritten_from.ensures z p s u) (sym c.is_some.ensures ∙ c.if-is_some.true))

pub loop-w-preserved : goal.loop-w-preserved
loop-w-preserved c z p s u =
    let h = c.loop-w.invariant z p s u in
    let n = c.in-Some.ensures.steps in
    let m = rw c.into_iter-w-iterator.ensures.into_iter_gives at h.part _ n.0.0 in
    seek_next _ _ _ h _ (source_not z p _ _ _ _ s _ c.bitor-writes.ensures _ c.bitand-w-items.ensures _ m _ (c.overwritten_from.ensures z p s u) (sym c.is_some.ensures ∙ c.if-is_some.false)) _ n.1

pub returns : goal.returns
returns c z p s u = seek_none _ _ _ (c.loop-w.invariant z p s u) 64 c.in-None.ensures.steps
