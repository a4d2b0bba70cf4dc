use native.Mathlib.Omega.{arith}
use Rattle.form.proofs.Branches.{small_product, width_le}
use Rattle.form.proofs.Seeing.{next_within, seen_next, flagged_more}
use Rattle.form.proofs.glance.all_right.Goals as goal

pub overflow_mul-len : goal.overflow_mul-len
overflow_mul-len g c = let h = small_product c.args.m c.width-len.result (omega arith) (rw c.width-len.ensures (width_le _)) in
    omega arith

pub loop-i-preserved : goal.loop-i-preserved
loop-i-preserved g c = let t = c.loop-i-test.true in
    let n = next_within c.width-len.result c.loop-i.i c.args.m t in
    flagged_more _ _ _ _ _ _ _ _ c.loop-i.invariant t
    (λ h p. seen_next _ _ _ _ _ _ _ c.requires.section.0 c.width-len.ensures p t (omega arith)
    (c.requires.told _ (omega arith) (omega arith) (rw h at c.is_right-right.ensures)))
