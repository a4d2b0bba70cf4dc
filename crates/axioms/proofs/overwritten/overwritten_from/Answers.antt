use native.Mathlib.Omega.{arith}
use Rattle.rows.proofs.Members.{in_low}
use Rattle.rows.proofs.Seeks.{seek_begin, seek_next, seek_found, seek_none}
use Rattle.axioms.proofs.Overwrites.{read_in, read_tested}
use Rattle.axioms.proofs.overwritten.overwritten_from.Goals as goal

pub loop-r-init : goal.loop-r-init
loop-r-init c z p s v i = rw c.into_iter-r-iterator.ensures.into_iter_gives (seek_begin _ _ (read_in z p _ _ _ _ s _ v _ _ _ c.row.ensures c.bitand-r-items.ensures))

pub overwriting-requires : goal.overwriting-requires
overwriting-requires c =
    let (ht, hq, hw, hu) = c.requires in
    let h = in_low _ _ c.in-Some.ensures.steps.0.0 in
    (hw, omega arith, omega arith)

pub returns-then-any : goal.returns-then-any
returns-then-any c z p s v i =
    let h = c.loop-r.invariant z p s v i in
    let l = c.in-Some.ensures.steps.0 in
    let m = rw c.into_iter-r-iterator.ensures.into_iter_gives at h.part _ l.0 in
    let r = read_tested z p _ _ _ _ s _ v _ _ _ c.row.ensures c.bitand-r-items.ensures _ m i _ (c.overwriting.ensures z p s) _ c.any.ensures in
    seek_found _ _ _ h _ l (r.holds c.if-any.true)

pub loop-r-preserved : goal.loop-r-preserved
loop-r-preserved c z p s v i =
    let h = c.loop-r.invariant z p s v i in
    let n = c.in-Some.ensures.steps in
    let m = rw c.into_iter-r-iterator.ensures.into_iter_gives at h.part _ n.0.0 in
    let r = read_tested z p _ _ _ _ s _ v _ _ _ c.row.ensures c.bitand-r-items.ensures _ m i _ (c.overwriting.ensures z p s) _ c.any.ensures in
    seek_next _ _ _ h _ (r.fails c.if-any.false) _ n.1

pub returns : goal.returns
returns c z p s v i = seek_none _ _ _ (c.loop-r.invariant z p s v i) 64 c.in-None.ensures.steps
