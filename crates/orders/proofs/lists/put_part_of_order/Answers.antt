use Rattle.std.proofs.Common.{rules}
use Rattle.orders.proofs.Walking.{walked_events, Into, is_into}
use Rattle.orders.proofs.lists.put_part_of_order.Goals as goal

pub returns : goal.returns
returns c = walked_events _ _ _ _ _ c.walk_back.ensures (Into c.args.q.now c.args.some) (λ j s h q. search rules) (λ j s h q. search (rules, is_into))
