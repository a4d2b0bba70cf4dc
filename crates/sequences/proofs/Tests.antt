-- The tests of the read-off decide the words of the rules.
use Prim.Native.Nat.{ℕ}
use mathlib.Core.Path.{◌≡◌}
use mathlib.Core.Logic.{◌⊎◌}
use mathlib.Core.Bool.{◌&&◌, ◌||◌, not}
use lib.Dec.{eqb, ltb}
use native.Mathlib.Omega.{arith}
use Rattle.order.specs.Decides.{Decides}
use Rattle.order.proofs.Tests.{by_eq, by_lt, by_or, by_and, by_not, by_as}
use Rattle.record.specs.Execution.{Execution}
use Rattle.record.specs.Words.{SamePlace, Register, Belongs}
use Rattle.record.specs.declared.Event.{Event}
use Rattle.model.specs.Model.{Store, Reads, Writes}
use Rattle.model.specs.Rules.{WritesPlace}
use Rattle.sequences.specs.ReadOff.{is_store, is_read, is_write, same_place, event, of_entry}

pub store_decides : (x : Event) → Decides (is_store x) (Store x)
store_decides x = by_eq _ _

pub read_decides : (x : Event) → Decides (is_read x) (Reads x)
read_decides x = by_or _ _ (by_eq _ _) (by_eq _ _)

pub write_decides : (x : Event) → Decides (is_write x) (Writes x)
write_decides x = by_or _ _ (by_eq _ _) (by_eq _ _)

register_decides : (x : Event) → Decides (not (ltb x.kind 2)) (Register x)
register_decides x = by_as _ (λ g. omega arith) (λ h l. omega arith) (by_not _ (by_lt x.kind 2))

pub place_decides : (x y : Event) → Decides (same_place x y) (SamePlace x y)
place_decides x y =
    by_or _ _
    (by_and _ _ (by_lt _ _) (by_and _ _ (by_lt _ _) (by_eq _ _)))
    (by_and _ _ (register_decides x) (by_and _ _ (register_decides y) (by_and _ _ (by_eq _ _) (by_eq _ _))))

module _ (z : Execution) where
  pub writes_decides : (w r : ℕ) → Decides (is_write (event z w) && same_place (event z w) (event z r)) (WritesPlace z w r)
  writes_decides w r = by_and _ _ (write_decides (event z w)) (place_decides (event z w) (event z r))

  pub entry_decides : (i e : ℕ) → Decides (of_entry z i e) (Belongs (z.events.item e) (z.locks.item i))
  entry_decides i e = by_and _ _ (by_eq _ _) (by_eq _ _)

  -- p sees the event
  pub sees_decides : (p e : ℕ) → Decides (eqb (event z e).processor p || is_store (event z e)) (((event z e).processor ≡ p) ⊎ Store (event z e))
  sees_decides p e = by_or _ _ (by_eq _ _) (by_eq _ _)
