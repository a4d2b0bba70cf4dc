-- The search for what breaks rule 26: lists of three or of four numbers, by their code.
use Prim.Native.Nat.{ℕ, zero, suc, ◌<◌}
use mathlib.Core.Logic.{inl, inr}
use mathlib.Core.List.{List, [], ◌∷◌}
use native.Mathlib.Omega.{arith}
use Rattle.record.specs.Execution.{Execution}
use Rattle.record.specs.Formed.{Formed}
use Rattle.model.specs.Rules.{WrongInitial}
use Rattle.slots.proofs.Tested.{Tested, equal, both, four, either}
use Rattle.slots.proofs.Tests.{event, before, writes_place, unsourced, no_initial, otherwise}
use Rattle.slots.proofs.Searching.{Search, stop, more, Fits}
use Rattle.slots.proofs.Judging.{Searched}
use Rattle.model.proofs.Bounds.{view_low}

module _ (z : Execution) where
  unfoldable pub wrong_value : (p r c : ℕ) → Tested (WrongInitial z (p ∷ r ∷ c ∷ []))
  unfolding WrongInitial
  wrong_value p r c =
      both (unsourced z p r) (either (both (equal _ _) (no_initial z (event z r))) (both (equal _ _) (otherwise z (event z r))))

  unfoldable pub written : (p r c x : ℕ) → Tested (WrongInitial z (p ∷ r ∷ c ∷ x ∷ []))
  unfolding WrongInitial
  written p r c x = four (unsourced z p r) (equal _ _) (writes_place z x r) (before (z.view p) x r)

  -- behind the code
  unfoldable pub coded : ℕ → ℕ → ℕ → Search
  unfolding wrong_value written
  coded p r zero = stop (wrong_value p r 0).test
  coded p r (suc zero) = stop (wrong_value p r 1).test
  coded p r (suc (suc c)) = more z.events.size (λ x. stop (written p r (suc (suc c)) x).test)

  unfoldable pub initials : Search
  unfolding coded
  initials = more z.processors (λ p. more z.events.size (λ r. more 3 (coded p r)))

  module _ (f : Formed z) where
    low : (p r c : ℕ) (w : List ℕ) → WrongInitial z (p ∷ r ∷ c ∷ w) → (p < z.processors) × (r < z.events.size) × (c < 3)
    unfolding WrongInitial
    low p r c [] (u, inl (e, q)) = (u.0, u.1.0, omega arith)
    low p r c [] (u, inr (e, q)) = (u.0, u.1.0, omega arith)
    low p r c (x ∷ []) q = let e = q.1 in (q.0.0, q.0.1.0, omega arith)
    low p r c (x ∷ y ∷ w) q = absurd q

    coded_fits : (p r c : ℕ) → Fits (coded p r c) (λ w. WrongInitial z (p ∷ r ∷ c ∷ w))
    unfolding coded WrongInitial
    coded_fits p r zero = ((wrong_value p r 0).right, go)
      where
        go : (x : ℕ) (w : List ℕ) → WrongInitial z (p ∷ r ∷ 0 ∷ x ∷ w) → ⊥
        go x [] q = let e = q.1 in omega arith
        go x (y ∷ w) q = q
    coded_fits p r (suc zero) = ((wrong_value p r 1).right, go)
      where
        go : (x : ℕ) (w : List ℕ) → WrongInitial z (p ∷ r ∷ 1 ∷ x ∷ w) → ⊥
        go x [] q = let e = q.1 in omega arith
        go x (y ∷ w) q = q
    coded_fits p r (suc (suc c)) = (none, next, λ x l. ((written p r (suc (suc c)) x).right, over x))
      where
        none : WrongInitial z (p ∷ r ∷ suc (suc c) ∷ []) → ⊥
        none (u, inl (e, q)) = omega arith
        none (u, inr (e, q)) = omega arith

        over : (x y : ℕ) (w : List ℕ) → WrongInitial z (p ∷ r ∷ suc (suc c) ∷ x ∷ y ∷ w) → ⊥
        over x y w q = q

        next : (x : ℕ) (w : List ℕ) → WrongInitial z (p ∷ r ∷ suc (suc c) ∷ x ∷ w)
            → (i : ℕ) × (i < z.events.size) × ((v : List ℕ) × WrongInitial z (p ∷ r ∷ suc (suc c) ∷ i ∷ v))
        next x [] q = (x, (view_low z f p q.0.0 x r q.3).0, ([], q))
        next x (y ∷ w) q = absurd q

    pub initials_fit : Fits initials (WrongInitial z)
    unfolding initials WrongInitial
    initials_fit = (λ q. q, first, λ p h. (λ q. q, second p, λ r g. (λ q. q, λ c w q. (c, (low p r c w q).2, (w, q)), λ c k. coded_fits p r c)))
      where
        first : (p : ℕ) (w : List ℕ) → WrongInitial z (p ∷ w) → (i : ℕ) × (i < z.processors) × ((v : List ℕ) × WrongInitial z (i ∷ v))
        first p [] q = absurd q
        first p (r ∷ []) q = absurd q
        first p (r ∷ c ∷ w) q = (p, (low p r c w q).0, (r ∷ c ∷ w, q))

        second : (p r : ℕ) (w : List ℕ) → WrongInitial z (p ∷ r ∷ w) → (i : ℕ) × (i < z.events.size) × ((v : List ℕ) × WrongInitial z (p ∷ i ∷ v))
        second p r [] q = absurd q
        second p r (c ∷ w) q = (r, (low p r c w q).1, (c ∷ w, q))

  abbrev pub initial : Searched (Formed z) (WrongInitial z)
  initial = record { way = initials; fits = initials_fit }
