use Rattle.std.proofs.Common.{arith}
use Rattle.rows.proofs.Members.{in_low}
use Rattle.rows.proofs.Spreads.{spread_begin, spread_more, spread_done}
use Rattle.rows.proofs.spread.Goals as goal

pub loop-a-init : goal.loop-a-init
loop-a-init c = rw c.into_iter-a-iterator.ensures.into_iter_gives (spread_begin _ _ _)

pub add-requires : goal.add-requires
add-requires c = let h = in_low _ _ c.in-Some.ensures.steps.0.0 in omega arith

pub loop-a-preserved : goal.loop-a-preserved
loop-a-preserved c =
    let s = c.in-Some.ensures.steps in
    spread_more _ _ _ _ _ _ c.loop-a.invariant _ s.0.0 _ (record { says = λ k i. i; has = λ k i. i }) c.add.ensures _ s.1

pub returns : goal.returns
returns c = spread_done _ _ _ _ _ c.loop-a.invariant c.in-None.ensures.steps
