use native.Mathlib.Omega.{arith}
use mathlib.Core.Path.{◌≡◌}
use Rattle.cycles.proofs.Layers.{from_on, level_begin, level_more}
use Rattle.cycles.proofs.levels.Goals as goal

pub loop-k-init : goal.loop-k-init
loop-k-init c = let i = c.full-all.ensures in
    level_begin _ _ (λ a b r. i.has b r.1) _ _ (i.has _ c.requires.2) _ _ c.none-seen.ensures c.one-front.ensures

pub loop-k-preserved : goal.loop-k-preserved
loop-k-preserved c = let l = c.loop-k in
    let i = c.full-all.ensures in
    let a = from_on _ _ _ _ _ i c.onward.ensures in
    level_more _ _ (λ x y r. i.has y r.1) _ _ l.u _ _ _ l.invariant _ c.add.ensures _ _ a c.sub-front.ensures _ c.bitor-seen.ensures

pub returns : goal.returns
returns c = let e : c.loop-k.k ≡ c.args.len = omega arith in rw e at c.loop-k.invariant.adds
