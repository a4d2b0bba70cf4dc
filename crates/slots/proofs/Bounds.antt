-- What breaks a rule of a formed execution is below the rule's bounds.
use Prim.Native.Nat.{ℕ, zero, suc, ◌<◌, max}
use mathlib.Core.List.{List, [], ◌∷◌}
use native.Mathlib.Omega.{arith}
use lib.ListN.{length, get_or}
use Rattle.record.specs.Execution.{Execution}
use Rattle.record.specs.Formed.{Formed}
use Rattle.structure.specs.Structure.{Joining, Unordered, Eventless, Repeated}
use Rattle.model.specs.Rules.{WrongView, WrongStore, WrongLock, WrongSource, Overwritten, BreaksUp, Torn}
use Rattle.model.proofs.Bounds.{before_low, misplaced_low, view_low}
use Rattle.sequences.specs.Sequence.{steps, TooLarge, WrongEvent, BrokenUp, Reversed, Differs}
use Rattle.slots.proofs.Searching.{Low}

-- ---- what breaks a rule is below its bounds

module _ (z : Execution) (f : Formed z) where
  pub joining_low : Low 1 (Joining z) (z.causes.size ∷ [])
  unfolding Joining
  joining_low i q = (q.0, tt)

  pub unordered_low : Low 2 (Unordered z) (z.events.size ∷ z.events.size ∷ [])
  unfolding Unordered
  unordered_low a b q = let l = q.0 in let h = q.1 in (omega arith, (h, tt))

  pub eventless_low : Low 1 (Eventless z) (z.locks.size ∷ [])
  unfolding Eventless
  eventless_low i q = (q.0, tt)

  pub repeated_low : Low 1 (Repeated z) (z.locks.size ∷ [])
  unfolding Repeated
  repeated_low i q = (q.0, tt)

  pub wrong_view_low : Low 2 (WrongView z) (z.processors ∷ z.events.size ∷ [])
  unfolding WrongView
  wrong_view_low p e q = (q.0, (misplaced_low _ (z.view p) (f.view p q.0).each _ e (λ d. d.0) q.1, tt))

  pub wrong_store_low : Low 1 (WrongStore z) (z.events.size ∷ [])
  unfolding WrongStore
  wrong_store_low e q = (misplaced_low _ z.stores f.stores.each _ e (λ d. d.0) q, tt)

  pub wrong_lock_low : Low 1 (WrongLock z) (z.locks.size ∷ [])
  unfolding WrongLock
  wrong_lock_low i q = (misplaced_low _ z.lock_order f.lock_order.each _ i (λ d. d) q, tt)

  pub wrong_source_low : Low 1 (WrongSource z) (z.sources.size ∷ [])
  unfolding WrongSource
  wrong_source_low i q = (q.0, tt)

  pub overwritten_low : Low 4 (Overwritten z) (z.processors ∷ z.events.size ∷ z.events.size ∷ z.events.size ∷ [])
  unfolding Overwritten
  overwritten_low p w r x q = (q.0, (q.2.0.0, (q.2.1.0, ((view_low z f p q.0 x r q.6).0, tt))))

  pub torn_low : Low 4 (Torn z) (z.processors ∷ z.events.size ∷ z.events.size ∷ z.events.size ∷ [])
  unfolding Torn BreaksUp
  torn_low p a x b q =
      let h = view_low z f p q.0 a x q.1.3 in
      let g = view_low z f p q.0 x b q.1.4 in
      (q.0, (h.0, (h.1, (g.1, tt))))

-- a bound of a list's numbers
unfoldable pub top : List ℕ → ℕ
top [] = 0
top (k ∷ l) = max (suc k) (top l)

top_low : (l : List ℕ) (i : ℕ) → i < length l → get_or l i 0 < top l
unfolding top
top_low [] i h = absurd (omega arith)
top_low (k ∷ l) zero h = omega arith
top_low (k ∷ l) (suc i) h = let g = top_low l i (omega arith) in omega arith

module _ (z : Execution) (l : List ℕ) where
  pub too_large_low : Low 1 (TooLarge z l) (length l ∷ [])
  unfolding TooLarge
  too_large_low i q = (q.0, tt)

  pub wrong_event_low : Low 1 (WrongEvent z l) (max z.events.size (top l) ∷ [])
  unfolding WrongEvent
  wrong_event_low e q =
      (misplaced_low (max z.events.size (top l)) (steps l) (λ i h. let g = top_low l i h in omega arith) _ e (λ d. omega arith) q, tt)

  pub broken_low : Low 3 (BrokenUp z l) (top l ∷ top l ∷ top l ∷ [])
  unfolding BreaksUp
  broken_low a x b q =
      let h = before_low (top l) (steps l) (top_low l) a x q.3 in
      let g = before_low (top l) (steps l) (top_low l) x b q.4 in
      (h.0, (h.1, (g.1, tt)))

  pub reversed_low : Low 2 (Reversed z l) (top l ∷ top l ∷ [])
  unfolding Reversed
  reversed_low a b q = let h = before_low (top l) (steps l) (top_low l) b a q.1 in (h.1, (h.0, tt))

  pub differs_low : Low 1 (Differs z l) (length l ∷ [])
  unfolding Differs
  differs_low i q = (q.0, tt)
