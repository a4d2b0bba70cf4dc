use native.Mathlib.Omega.{arith}
use Rattle.cycles.proofs.Layers.{levels_blank}
use Rattle.cycles.proofs.fill.Goals as goal

pub closing-good-requires : goal.closing-good-requires
closing-good-requires c = let p = c.requires in
    (p.0, p.1, let h = p.0 in let l = p.2 in let e = c.levels.ensures.same in omega arith, p.4, levels_blank _ _ _ _ c.levels.ensures)

pub write-requires : goal.write-requires
write-requires c = let p = c.requires in
    record { n_bound = (p.0, p.1, let h = p.0 in let l = p.2 in let e = c.levels.ensures.same in omega arith, p.4, levels_blank _ _ _ _ c.levels.ensures); is = (c.closing-good.ensures, p.3) }
