use native.Mathlib.Omega.{arith}
use Rattle.order.proofs.Walks.{within_below}
use Rattle.cycles.proofs.Fills.{fill_begin, fill_goes, fill_next, fill_more, fill_done}
use Rattle.cycles.proofs.write.Goals as goal

pub loop-i-init : goal.loop-i-init
loop-i-init c = fill_begin _ _ (within_below _ _) _ _ c.requires.n_bound.3 c.args.out.now c.requires.is.1

pub unwrap-v-requires : goal.unwrap-v-requires
unwrap-v-requires c = let p = c.requires.n_bound in
    fill_goes c.args.t.now _ _ _ p.3 c.args.u.now p.4 _ c.requires.is.0 _ _ _ _ c.loop-i.invariant c.loop-i-test.true _ _ _ _ c.row.ensures c.row-in-loop-i.ensures c.bitand.ensures c.bitand-next.ensures _ c.first.ensures

pub loop-i-preserved : goal.loop-i-preserved
loop-i-preserved c = let p = c.requires.n_bound in
    let g = fill_next c.args.t.now _ _ _ p.3 c.args.u.now p.4 _ c.requires.is.0 _ _ _ _ c.loop-i.invariant c.loop-i-test.true _ _ _ _ c.row.ensures c.row-in-loop-i.ensures c.bitand.ensures c.bitand-next.ensures _ (rw c.unwrap-v.ensures at c.first.ensures) in
    fill_more _ _ (within_below _ _) _ _ p.3 _ _ _ _ c.loop-i.invariant c.loop-i-test.true _ g

pub returns : goal.returns
returns c = let h = c.requires.n_bound.3.positive in
    fill_done _ _ (within_below _ _) _ _ c.requires.n_bound.3 c.args.out.now _ _ _ c.loop-i.invariant c.loop-i-test.false (omega arith)
