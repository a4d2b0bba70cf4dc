-- The searches of the rules.
use Prim.Native.Nat.{ℕ, max}
use mathlib.Core.Path.{◌≡◌}
use mathlib.Core.List.{List, [], ◌∷◌, ◌++◌}
use lib.ListN.{length}
use Rattle.record.specs.Execution.{Execution}
use Rattle.record.specs.Formed.{Formed}
use Rattle.record.specs.Words.{Causes}
use Rattle.structure.specs.Structure.{Joining, Unordered, Eventless, Repeated, structure_rules}
use Rattle.model.specs.Model.{OrderFor}
use Rattle.model.specs.Rules.{WrongView, WrongStore, WrongLock, WrongSource, Overwritten, Torn, check_rules}
use Rattle.sequences.specs.Sequence.{steps, TooLarge, WrongEvent, BrokenUp, Reversed, Differs, replay_rules}
use Rattle.slots.specs.Slots.{Operation, Check, Replay, rules_of}
use Rattle.slots.proofs.Tested.{equal, never}
use Rattle.slots.proofs.Tests.{causes, joining, unordered, eventless, repeated, order_for, wrong_view, wrong_store, wrong_lock, wrong_source, overwritten, breaks_up, torn, too_large, wrong_event, reversed, differs}
use Rattle.model.proofs.Bounds.{causes_low, order_low}
use Rattle.slots.proofs.Bounds.{joining_low, unordered_low, eventless_low, repeated_low, wrong_view_low, wrong_store_low, wrong_lock_low, wrong_source_low, overwritten_low, torn_low, top, too_large_low, wrong_event_low, broken_low, reversed_low, differs_low}
use Rattle.slots.proofs.Initials.{initial}
use Rattle.slots.proofs.Judging.{AllSearched, ◌also◌, joined, tuples, cycle, cycles}

module _ (z : Execution) where
  abbrev pub structure : AllSearched (Formed z) (structure_rules z)
  structure =
      let n = z.events.size in
      let m = z.locks.size in
      tuples 1 (Joining z) (joining z) (z.causes.size ∷ []) (joining_low z)
      also cycle n (Causes z) (causes z) (causes_low z)
      also tuples 2 (Unordered z) (unordered z) (n ∷ n ∷ []) (unordered_low z)
      also tuples 1 (Eventless z) (eventless z) (m ∷ []) (eventless_low z)
      also tuples 1 (Repeated z) (repeated z) (m ∷ []) (repeated_low z)
      also tt

  abbrev pub check : AllSearched (Formed z) (check_rules z)
  check =
      let n = z.events.size in
      let m = z.processors in
      tuples 2 (WrongView z) (wrong_view z) (m ∷ n ∷ []) (wrong_view_low z)
      also tuples 1 (WrongStore z) (wrong_store z) (n ∷ []) (wrong_store_low z)
      also tuples 1 (WrongLock z) (wrong_lock z) (z.locks.size ∷ []) (wrong_lock_low z)
      also tuples 1 (WrongSource z) (wrong_source z) (z.sources.size ∷ []) (wrong_source_low z)
      also cycles m n (OrderFor z) (order_for z) (order_low z)
      also tuples 4 (Overwritten z) (overwritten z) (m ∷ n ∷ n ∷ n ∷ []) (overwritten_low z)
      also initial z
      also tuples 4 (Torn z) (torn z) (m ∷ n ∷ n ∷ n ∷ []) (torn_low z)
      also tt

  abbrev pub replay : (l : List ℕ) → AllSearched (Formed z) (replay_rules z l)
  replay l =
      let n = z.events.size in
      let t = top l in
      tuples 0 (length l ≡ n → ⊥) (never (equal (length l) n)) [] (λ f q. tt)
      also tuples 1 (TooLarge z l) (too_large z l) (length l ∷ []) (λ f. too_large_low z l)
      also tuples 1 (WrongEvent z l) (wrong_event z l) (max n t ∷ []) (λ f. wrong_event_low z l)
      also tuples 3 (BrokenUp z l) (breaks_up z (steps l)) (t ∷ t ∷ t ∷ []) (λ f. broken_low z l)
      also tuples 2 (Reversed z l) (reversed z l) (t ∷ t ∷ []) (λ f. reversed_low z l)
      also tuples 1 (Differs z l) (differs z l) (length l ∷ []) (λ f. differs_low z l)
      also tt

abbrev pub searched : (o : Operation) (z : Execution) → AllSearched (Formed z) (structure_rules z ++ rules_of o z)
searched Check z = joined (Formed z) (structure_rules z) (check_rules z) (structure z) (check z)
searched (Replay l) z = joined (Formed z) (structure_rules z) (replay_rules z l) (structure z) (replay z l)
