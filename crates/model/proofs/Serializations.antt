-- Rules 21 and 22 are that store order and locked order are candidates, where sections 6 and 7 have what is due.
use Prim.Native.Nat.{ℕ, ◌<◌}
use mathlib.Core.Path.{◌≡◌, refl, sym, ◌∙◌, subst}
use mathlib.Core.Logic.{◌⊎◌, inl, inr, ⊎_elim, ◌↔◌}
use mathlib.Core.List.{[], ◌∷◌}
use native.Mathlib.Omega.{arith}
use native.Mathlib.Decide.{ℕ_discrete, dec_lt}
use Rattle.order.specs.Rule.{Kept, rule}
use Rattle.order.proofs.Searches.{of_any}
use Rattle.record.specs.Execution.{Execution}
use Rattle.record.specs.Formed.{Formed}
use Rattle.record.specs.Words.{SameAddress, OfLock}
use Rattle.model.specs.Hol.{Location, loc, get_l_stores, restrict, strict_linear_order, write_serialization_candidates, lock_serialization_candidates, PER}
use Rattle.model.specs.Model.{Store, Before, StoreOrder, LockedOrder}
use Rattle.model.specs.Rules.{Stands, WrongStore, WrongLock}
use Rattle.model.specs.Says.{structure_of, witness_of}
use Rattle.model.proofs.Decisions.{certain, dec_stored}
use Rattle.model.proofs.Lists.{Single, Proper, proper, misplaced_not, before_ends, before_linear}
use Rattle.model.proofs.Words.{store_is, address_of, place_is}

-- ---- 22

module _ (z : Execution) where
  -- section 7 is the locked entries, each once
  abbrev pub Queued : Type 0
  Queued = Proper z.lock_order (λ i. i < z.locks.size)

  pub queued_kept : Queued → Kept (rule 22 1 (WrongLock z))
  unfolding WrongLock
  queued_kept v w q = let (i, m) = of_any 1 (WrongLock z) w q in misplaced_not _ _ v i m

  pub kept_queued : Kept (rule 22 1 (WrongLock z)) → Queued
  unfolding WrongLock
  kept_queued k = proper _ _ (λ i. dec_lt _ _) (λ i q. k (i ∷ []) q)

  pub queued_candidate : Queued → lock_serialization_candidates (structure_of z) (witness_of z).lock_serialization
  queued_candidate v = record { lin = Before z.lock_order; linear = before_linear _ _ v; is = λ a b. (to a b, from a b) }
    where
      to : (a b : ℕ) → LockedOrder z a b → (i : ℕ) × (j : ℕ) × Before z.lock_order i j × OfLock z i a × OfLock z j b
      to a b (j, h, (i, g, (x, y))) = (_, _, (j, h, (i, g, (refl, refl))), x, y)

      from : (a b : ℕ) → (i : ℕ) × (j : ℕ) × Before z.lock_order i j × OfLock z i a × OfLock z j b → LockedOrder z a b
      from a b (m, n, (j, h, (i, g, (d, e))), x, y) =
          (j, h, (i, g, (subst (λ (k : ℕ). OfLock z k a) (sym d) x, subst (λ (k : ℕ). OfLock z k b) (sym e) y)))

  -- an entry that stands twice puts its events before themselves, and its events are of no other entry
  pub candidate_queued : PER (structure_of z).events (structure_of z).atoms (structure_of z).atomicity
      → lock_serialization_candidates (structure_of z) (witness_of z).lock_serialization
      → ((i : ℕ) → Stands z.lock_order i ↔ (i < z.locks.size)) → Queued
  candidate_queued per c s = record { stands = λ i. (s i).1; due = λ i. (s i).0; single = single }
    where
      itself : (i e : ℕ) → OfLock z i e → Before z.lock_order i i → LockedOrder z e e
      itself i e o (n, h, (m, g, (x, y))) =
          (n, h, (m, g, (subst (λ (k : ℕ). OfLock z k e) (sym x) o, subst (λ (k : ℕ). OfLock z k e) (sym y) o)))

      single : Single z.lock_order
      single i q =
          let (e, o) = per.inhabited i ((s i).0 (before_ends _ i i q).0) in
          let (m, n, l, x, y) = (c.is e e).0 (itself i e o q) in
          let d = certain (ℕ_discrete m n) (λ g. per.disjoint m n (c.linear.domain m n l) (c.linear.range m n l) g e x y) in
          c.linear.irreflexive n (rw d at l)

-- ---- 21

module _ (z : Execution) where
  -- section 6 is the memory stores, each once
  abbrev pub Stored : Type 0
  Stored = Proper z.stores (λ e. (e < z.events.size) × Store (z.events.item e))

  pub stored_kept : Stored → Kept (rule 21 1 (WrongStore z))
  unfolding WrongStore
  stored_kept v w q = let (e, m) = of_any 1 (WrongStore z) w q in misplaced_not _ _ v e m

  pub kept_stored : Kept (rule 21 1 (WrongStore z)) → Stored
  unfolding WrongStore
  kept_stored k = proper _ _ (dec_stored z) (λ e q. k (e ∷ []) q)

  module _ (f : Formed z) where
    -- a store that stands twice is ordered with itself
    pub candidate_stored : write_serialization_candidates (structure_of z) (witness_of z).write_serialization
        → ((e : ℕ) → Stands z.stores e ↔ ((e < z.events.size) × Store (z.events.item e))) → Stored
    candidate_stored c s = record { stands = λ e. (s e).1; due = λ e. (s e).0; single = single }
      where
        single : Single z.stores
        single e q =
            let (h, k) = (s e).0 (before_ends _ e e q).0 in
            let at : get_l_stores (structure_of z) (loc (structure_of z) e) e = (h, (store_is z f e h).1 k, refl) in
            (c.linear _).irreflexive e ((q, (omega arith, (omega arith, refl))), at, at)

    module _ (v : Stored) where
      linear : strict_linear_order (Before z.stores) (λ e. (e < z.events.size) × Store (z.events.item e))
      linear = before_linear _ _ v

      store_at : (e : ℕ) (l : Location) → get_l_stores (structure_of z) l e → (e < z.events.size) × Store (z.events.item e)
      store_at e l (h, s, q) = (h, (store_is z f e h).0 s)

      pub stored_candidate : write_serialization_candidates (structure_of z) (witness_of z).write_serialization
      stored_candidate = record { stores = stores; linear = λ l. at l }
        where
          stores : (a b : ℕ) → StoreOrder z a b → (l : Location) × get_l_stores (structure_of z) l a × get_l_stores (structure_of z) l b
          stores a b (q, s) =
              let (h, x) = linear.domain a b q in
              let (g, y) = linear.range a b q in
              (_, (h, (store_is z f a h).1 x, refl), (g, (store_is z f b g).1 y, sym ((place_is z f a b).1 (inl s))))

          at : (l : Location) → strict_linear_order (restrict (StoreOrder z) (get_l_stores (structure_of z) l)) (get_l_stores (structure_of z) l)
          at l = record {
            domain = λ a b q. q.1;
            range = λ a b q. q.2;
            transitive = λ a b c ((q, (x, (y, e))), u, v) ((r, (m, (n, d))), w, t). ((linear.transitive a b c q r, (x, (n, e ∙ d))), u, t);
            irreflexive = λ a q. linear.irreflexive a q.0.0;
            total = total;
          }
            where
              one : (a b : ℕ) → get_l_stores (structure_of z) l a → get_l_stores (structure_of z) l b → SameAddress (z.events.item a) (z.events.item b)
              one a b x y = let s = (store_at a l x).1 in address_of z f a b (omega arith) (x.2 ∙ sym y.2)

              total : (a b : ℕ) → get_l_stores (structure_of z) l a → get_l_stores (structure_of z) l b → (a ≡ b → ⊥)
                  → restrict (StoreOrder z) (get_l_stores (structure_of z) l) a b ⊎ restrict (StoreOrder z) (get_l_stores (structure_of z) l) b a
              total a b x y n =
                  ⊎_elim
                  (λ q. inl ((q, one a b x y), x, y))
                  (λ q. inr ((q, one b a y x), y, x))
                  (linear.total a b (store_at a l x) (store_at b l y) n)
