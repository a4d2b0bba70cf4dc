use native.Mathlib.Omega.{arith}
use Rattle.cycles.proofs.Fills.{level_low, close_begin, close_more, close_done}
use Rattle.cycles.proofs.closing.Goals as goal

pub loop-k-init : goal.loop-k-init
loop-k-init c = let p = c.requires in
    (p.3.positive, close_begin _ _ _ _ p.3 _ c.one-r.ensures)

pub back-requires : goal.back-requires
back-requires c = let p = c.requires in
    let h = p.1 in
    λ a m. let l = level_low _ _ _ _ p.3 _ p.4 _ (omega arith) (omega arith) _ c.row.ensures a m in omega arith

pub loop-k-preserved : goal.loop-k-preserved
loop-k-preserved c = let p = c.requires in
    (omega arith, close_more _ _ _ _ p.3 _ p.4 _ _ c.loop-k.invariant.1 (omega arith) (omega arith) _ _ _ c.row.ensures c.back.ensures c.bitor-r.ensures)

pub returns : goal.returns
returns c = let p = c.requires in
    let i = c.loop-k.invariant in
    close_done _ _ _ _ p.3 _ p.4 _ _ i.1 i.0 (omega arith)
