-- What breaks a rule: a refusal has a list that does, rules are kept where none does, and what breaks 24 to 27 names a processor.
use Prim.Native.Nat.{ℕ, ◌<◌}
use mathlib.Core.Path.{◌≡◌, refl}
use mathlib.Core.Logic.{inl, inr}
use mathlib.Core.List.{List, [], ◌∷◌}
use Rattle.order.specs.Rule.{Rule, Judged, AllKept}
use Rattle.order.proofs.Searches.{of_any}
use Rattle.record.specs.Execution.{Execution}
use Rattle.model.specs.Rules.{Overwritten, WrongInitial, Torn, order_rules}
use Rattle.model.specs.ViewAlone.{Broken, Names}

-- ---- any rules

pub judged_broken : (qs : List Rule) (a : ℕ) (e : List ℕ) → (a ≡ 0 → ⊥) → Judged qs a e → (w : List ℕ) × Broken qs a w e
unfolding Judged
judged_broken [] a e n j = absurd (n j.0)
judged_broken (q ∷ qs) a e n (inl ((w, f, s), o)) = (w, inl (o, f.has, s))
judged_broken (q ∷ qs) a e n (inr (k, j)) = let (w, b) = judged_broken qs a e n j in (w, inr b)

pub kept_unbroken : (qs : List Rule) → AllKept qs → (n : ℕ) (w e : List ℕ) → Broken qs n w e → ⊥
kept_unbroken [] k n w e b = b
kept_unbroken (q ∷ qs) k n w e (inl (o, b, s)) = k.0 w b
kept_unbroken (q ∷ qs) k n w e (inr b) = kept_unbroken qs k.1 n w e b

pub unbroken_kept : (qs : List Rule) → ((n : ℕ) (w e : List ℕ) → Broken qs n w e → ⊥) → AllKept qs
unbroken_kept [] f = tt
unbroken_kept (q ∷ qs) f = (λ w b. f q.number w (q.shown w) (inl (refl, b, refl)), unbroken_kept qs (λ n w e b. f n w e (inr b)))

-- ---- the rules 24 to 27

module _ (z : Execution) where
  pub initial_own : (p : ℕ) (w : List ℕ) → WrongInitial z (p ∷ w) → p < z.processors
  unfolding WrongInitial
  initial_own p [] q = absurd q
  initial_own p (r ∷ []) q = absurd q
  initial_own p (r ∷ code ∷ []) q = q.0.0
  initial_own p (r ∷ code ∷ x ∷ []) q = q.0.0
  initial_own p (r ∷ code ∷ x ∷ y ∷ w) q = absurd q

  pub order_names : (n : ℕ) (w e : List ℕ) → Broken (order_rules z) n w e → (p : ℕ) × (p < z.processors) × Names w p × Names e p
  unfolding Overwritten WrongInitial Torn
  order_names n [] e (inl b) = absurd b.1
  order_names n [] e (inr (inl b)) = absurd b.1
  order_names n [] e (inr (inr (inl b))) = absurd b.1
  order_names n [] e (inr (inr (inr (inl b)))) = absurd b.1
  order_names n [] e (inr (inr (inr (inr b)))) = absurd b
  order_names n (p ∷ w) e b = (p, own b, refl, shows b)
    where
      own : Broken (order_rules z) n (p ∷ w) e → p < z.processors
      own (inl (o, q, s)) = q.0
      own (inr (inl (o, q, s))) = (of_any 3 (Overwritten z p) w q).1.1.1.0
      own (inr (inr (inl (o, q, s)))) = initial_own p w q
      own (inr (inr (inr (inl (o, q, s))))) = (of_any 3 (Torn z p) w q).1.1.1.0
      own (inr (inr (inr (inr q)))) = absurd q

      shows : Broken (order_rules z) n (p ∷ w) e → Names e p
      shows (inl (o, q, s)) = rw s refl
      shows (inr (inl (o, q, s))) = rw s refl
      shows (inr (inr (inl (o, q, s)))) = rw s refl
      shows (inr (inr (inr (inl (o, q, s))))) = rw s refl
      shows (inr (inr (inr (inr q)))) = absurd q
