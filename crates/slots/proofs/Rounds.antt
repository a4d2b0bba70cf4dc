-- The search for the cycle that is shown: length by length, each begun at its least event.
use Prim.Native.Nat.{ℕ, zero, suc, ◌<◌, ◌≤◌}
use mathlib.Core.Path.{◌≡◌, refl}
use mathlib.Core.Bool.{Bool, false, ◌&&◌}
use mathlib.Core.List.{List, [], ◌∷◌}
use native.Mathlib.Omega.{arith}
use lib.Dec.{leb}
use lib.ListN.{length}
use Rattle.order.specs.Decides.{Decides}
use Rattle.order.specs.Least.{Some}
use Rattle.order.specs.Relation.{Rel, Trail, Cycle, Below}
use Rattle.order.specs.Rule.{Round, Rounds}
use Rattle.order.specs.Shown.{AtLeast}
use Rattle.order.proofs.Cycles.{cycle_within}
use Rattle.order.proofs.Rules.{round_cyclic, begun}
use Rattle.order.proofs.Tests.{by_and, by_le, by_as, by_no}
use Rattle.slots.proofs.Searching.{Search, stop, more, Fits, fits_as, guard, guard_fits}

-- k more events that are s or above, from a back to s, by steps that pass the test
unfoldable pub trail : (ℕ → ℕ → Bool) → ℕ → ℕ → ℕ → ℕ → Search
trail t n s zero a = stop (t a s)
trail t n s (suc k) a = more n (λ c. guard (t a c && leb s c) (trail t n s k c))

-- a cycle of k events
unfoldable pub loop : (ℕ → ℕ → Bool) → ℕ → ℕ → Search
unfolding trail
loop t n zero = stop false
loop t n (suc k) = more n (λ s. trail t n s k s)

-- a length and a cycle of that length, among n events
unfoldable pub round : (ℕ → ℕ → Bool) → ℕ → Search
unfolding loop
round t n = more (suc n) (loop t n)

module _ (R : Rel) where
  -- what is left of a cycle from s: k events
  abbrev Rest : ℕ → ℕ → ℕ → List ℕ → Type 0
  Rest s k a w = (k ≡ length w) × Trail R a w s × AtLeast s w

  module _ (n : ℕ) (low : Below n R) (t : ℕ → ℕ → Bool) (d : (a b : ℕ) → Decides (t a b) (R a b)) where
    -- the cycles of a relation on n events are of those, and one is of at most n
    trail_low : (a : ℕ) (w : List ℕ) (b : ℕ) → Trail R a w b → a < n
    trail_low a [] b r = (low a b r).0
    trail_low a (c ∷ w) b r = (low a c r.0).0

    within : (k : ℕ) (w : List ℕ) → Round R (k ∷ w) → Some (suc n) (λ i. (v : List ℕ) × Round R (i ∷ v))
    within k w q = go (cycle_within R n low (round_cyclic R (k ∷ w) q))
      where
        go : (l : List ℕ) × Cycle R l × (length l ≤ n) → Some (suc n) (λ i. (v : List ℕ) × Round R (i ∷ v))
        go (l, c, h) = let (m, e, b, f) = begun R l c in (length m, omega arith, (m, (refl, e, b)))

    trail_fits : (s k a : ℕ) → Fits (trail t n s k a) (Rest s k a)
    unfolding trail
    trail_fits s zero a = (by_as (t a s) (λ r. (refl, r, tt)) (λ q. q.1) (d a s), λ c w q. let e = q.0 in omega arith)
    trail_fits s (suc k) a = (
      λ q. let e = q.0 in omega arith,
      λ c w q. (c, (low a c q.1.0).1, (w, q)),
      λ c l.
          guard_fits (t a c && leb s c) (R a c × (s ≤ c)) (trail t n s k c) (Rest s k c) (λ w. Rest s (suc k) a (c ∷ w))
          (by_and (t a c) (leb s c) (d a c) (by_le s c))
          (λ w q. ((q.1.0, q.2.0), (let e = q.0 in omega arith, q.1.1, q.2.1)))
          (λ h w q. (let e = q.0 in omega arith, (h.0, q.1), (h.1, q.2)))
          (trail_fits s k c),
    )

    loop_fits : (k : ℕ) → Fits (loop t n k) (λ w. Round R (k ∷ w))
    unfolding loop
    loop_fits zero = (by_no (λ q. q.1), λ c w q. let e = q.0 in omega arith)
    loop_fits (suc k) = (
      λ q. q.1,
      λ s w q. (s, trail_low s w s q.1, (w, q)),
      λ s l.
          fits_as (trail t n s k s) (Rest s k s) (λ w. Round R (suc k ∷ s ∷ w))
          (λ w q. (let e = q.0 in omega arith, q.1, q.2))
          (λ w q. (let e = q.0 in omega arith, q.1, q.2))
          (trail_fits s k s),
    )

    pub round_fits : Fits (round t n) (Round R)
    unfolding round
    round_fits = (λ q. q, within, λ k l. loop_fits k)

-- p below m, then a cycle of p's relation
pub rounds_fit : (m : ℕ) (R : ℕ → Rel) (s : ℕ → Search) → ((p : ℕ) → p < m → Fits (s p) (Round (R p))) → Fits (more m s) (Rounds m R)
rounds_fit m R s f = (
  λ q. q,
  λ p w q. (p, q.0, (w, q)),
  λ p l. fits_as (s p) (Round (R p)) (λ w. Rounds m R (p ∷ w)) (λ w q. (l, q)) (λ w q. q.1) (f p l),
)
