use Rattle.rows.specs.Members.{Is}
use Rattle.rows.specs.Table.{rel}
use Rattle.facts.specs.Lists.{list_of}
use Rattle.orders.proofs.Walking.{Walking, Every}
use Rattle.orders.proofs.lists.put_order_of_groups.Given as goal

abbrev pub invariant-loop-i : goal.invariant-loop-i
invariant-loop-i l = Walking (λ g s. Is s (rel l.k g)) (λ g s. Is s (Every g)) (list_of l.s l.list) l.i l.later l.initial.t l.t
