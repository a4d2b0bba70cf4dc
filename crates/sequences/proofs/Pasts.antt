-- A list place by place: what stood before a place, latest first, and what is still to come.
use Prim.Native.Nat.{ℕ, suc, ◌+◌}
use mathlib.Core.Path.{◌≡◌, refl, ap, subst}
use mathlib.Core.List.{List, [], ◌∷◌}
use lib.ListN.{get_or}
use native.Mathlib.Omega.{arith}

module _ (at : ℕ → ℕ) where
  abbrev pub Past : ℕ → List ℕ → Type 0
  Past i [] = i ≡ 0
  Past i (x ∷ e) = (k : ℕ) × (i ≡ suc k) × (at k ≡ x) × Past k e

  abbrev pub Rest : ℕ → List ℕ → Type 0
  Rest i [] = Unit {0}
  Rest i (x ∷ l) = (at i ≡ x) × Rest (suc i) l

  rest_from : (i : ℕ) (l : List ℕ) → ((k : ℕ) → at (i + k) ≡ get_or l k 0) → Rest i l
  rest_from i [] f = tt
  rest_from i (x ∷ l) f = (
    let n : i + 0 ≡ i = omega arith in subst (λ (k : ℕ). at k ≡ x) n (f 0),
    rest_from (suc i) l (λ k. let n : i + suc k ≡ suc i + k = omega arith in subst (λ (m : ℕ). at m ≡ get_or l k 0) n (f (suc k))),
  )

  -- one place on
  pub past_next : (i x : ℕ) (e : List ℕ) → Past i e → at i ≡ x → Past (suc i) (x ∷ e)
  past_next i x e p q = (i, refl, q, p)

pub rest_all : (l : List ℕ) → Rest (λ i. get_or l i 0) 0 l
rest_all l = rest_from (λ i. get_or l i 0) 0 l (λ k. let n : 0 + k ≡ k = omega arith in ap (λ (m : ℕ). get_or l m 0) n)
