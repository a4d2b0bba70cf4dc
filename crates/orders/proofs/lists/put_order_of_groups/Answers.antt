use native.Mathlib.Omega.{arith}
use Rattle.rows.specs.Table.{rel}
use Rattle.rows.proofs.Members.{is_full}
use Rattle.facts.specs.Lists.{list_of}
use Rattle.orders.specs.Groups.{BeforeIn}
use Rattle.orders.proofs.Walking.{walk_begin, walk_more, walk_done, walked_is, is_within, adds_every, row_low, Every}
use Rattle.orders.proofs.lists.put_order_of_groups.Goals as goal

pub loop-i-init : goal.loop-i-init
loop-i-init c = walk_begin _ _ _ _ _ c.none-later.ensures

pub loop-i-preserved : goal.loop-i-preserved
loop-i-preserved c = let all = is_full 64 (omega arith) in
    walk_more _ _ _ _ _ _ _ c.loop-i.invariant _ (omega arith) _ c.number.ensures _ _ c.row-here.ensures all
    _ _ _ (is_within _ _ all) c.spread.ensures c.bitor-later.ensures

pub returns : goal.returns
returns c =
    adds_every _ _ (BeforeIn (rel c.args.k.now) (list_of c.args.s.now c.args.list)) (λ a b (j, h, (i, k, (x, y))). row_low _ _ b y)
    (walked_is _ _ _ _ _ (walk_done _ _ _ _ _ _ _ c.loop-i.invariant (omega arith)) (rel c.args.k.now) Every (λ j s h q. q) (λ j a s h q r. q))
