-- Dictionary order: both ways it is equality, the first list with a property is one, and it begins with the least number that can.
use Prim.Native.Nat.{ℕ, ◌<◌}
use mathlib.Core.Path.{◌≡◌, refl, sym, ap₂}
use mathlib.Core.Logic.{◌⊎◌, inl, inr}
use mathlib.Core.List.{List, [], ◌∷◌}
use native.Mathlib.Omega.{arith}
use native.Mathlib.Decide.{dec_lt}
use Rattle.order.specs.Dictionary.{Lex, Firstly}

pub lex_both : (l m : List ℕ) → Lex l m → Lex m l → l ≡ m
lex_both [] [] p q = refl
lex_both [] (b ∷ m) p q = absurd q
lex_both (a ∷ l) [] p q = absurd p
lex_both (a ∷ l) (b ∷ m) (inl x) (inl y) = absurd (omega arith)
lex_both (a ∷ l) (b ∷ m) (inl x) (inr y) = let e = y.0 in absurd (omega arith)
lex_both (a ∷ l) (b ∷ m) (inr x) (inl y) = let e = x.0 in absurd (omega arith)
lex_both (a ∷ l) (b ∷ m) (inr x) (inr y) = ap₂ ◌∷◌ x.0 (lex_both l m x.1 y.1)

pub firstly_unique : (P : List ℕ → Type 0) (l m : List ℕ) → Firstly P l → Firstly P m → l ≡ m
firstly_unique P l m p q = lex_both l m (p.least m q.has) (q.least l p.has)

pub firstly_nil : (P : List ℕ → Type 0) → P [] → Firstly P []
firstly_nil P p = record { has = p; least = λ m q. tt }

pub firstly_cons : (P : List ℕ → Type 0) (i : ℕ) (w : List ℕ) → (P [] → ⊥)
    → ((k : ℕ) → k < i → (m : List ℕ) → P (k ∷ m) → ⊥) → Firstly (λ m. P (i ∷ m)) w → Firstly P (i ∷ w)
firstly_cons P i w n f p = record { has = p.has; least = go }
  where
    go : (m : List ℕ) → P m → Lex (i ∷ w) m
    go [] q = absurd (n q)
    go (k ∷ m) q = at (dec_lt i k) (dec_lt k i)
      where
        at : Dec (i < k) → Dec (k < i) → (i < k) ⊎ ((i ≡ k) × Lex w m)
        at (yes l) d = inl l
        at (no a) (yes l) = absurd (f k l m q)
        at (no a) (no b) = let e : k ≡ i = omega arith in inr (sym e, p.least m (rw e at q))
