use Rattle.std.proofs.Common.{rules}
use native.Mathlib.Omega.{arith}
use Rattle.facts.specs.Lists.{list_of}
use Rattle.model.specs.Model.{Before}
use Rattle.orders.proofs.Walking.{walked_events, adds_every, Every}
use Rattle.orders.proofs.lists.put_order.Goals as goal

pub returns : goal.returns
returns c = let p = c.requires in
    adds_every _ _ (Before (list_of c.args.s.now c.args.list)) (λ a b (j, h, (i, k, (x, y))). let f = p.0.low j h in omega arith)
    (walked_events _ _ _ _ _ c.walk_back.ensures Every (λ j s h q. search rules) (λ j s h q. search rules))
