use native.Mathlib.Omega.{arith}
use Rattle.lent.proofs.Puts.{put_length}
use Rattle.readoff.proofs.Viewings.{viewing_none, viewing_next, viewing_done}
use Rattle.readoff.proofs.sections.put_views.Goals as goal

pub loop-p-init : goal.loop-p-init
loop-p-init c =
    let h = c.requires.4 in
    let e = put_length _ _ _ _ c.put_count.ensures in
    viewing_none _ _ _ _ _ (omega arith)

pub loop-p-preserved : goal.loop-p-preserved
loop-p-preserved c =
    let p = c.requires in
    let m = p.3 in
    let t = c.loop-p-test.true in
    viewing_next _ _ _ _ _ p.1 c.loop-p.p (omega arith) _ _ c.row.ensures c.bitor.ensures _ _ c.loop-p.invariant _ _ c.put_some-to.ensures

pub returns : goal.returns
returns c z f s low =
    let t = c.loop-p-test.false in
    viewing_done _ _ _ _ _ _ _ _ _ _ c.put_count.ensures c.loop-p.invariant (omega arith) z (record { sorted = f; stored = s; low = low })
