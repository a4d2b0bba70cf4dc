-- Walks: joining them, turning a closed one, what can be peeled is on no cycle, and long walks have short cycles in them.
use Prim.Native.Nat.{ℕ, zero, suc, ◌+◌, ◌-◌, ◌<◌, ◌≤◌}
use mathlib.Core.Path.{◌≡◌, refl, subst}
use native.Mathlib.Omega.{arith}
use native.Mathlib.Decide.{dec_lt}
use native.Mathlib.Nat.{suc-sub-suc, sub-zero, zero-add, suc-add}
use Rattle.order.specs.Relation.{Rel, Below, within}
use Rattle.order.specs.Walk.{Walk}
use Rattle.order.proofs.Numbers.{Twice, pigeon}

-- a closed walk of at most n steps, and at least one
abbrev pub Short : Rel → ℕ → Type 0
Short R n = (m : ℕ) × (b : ℕ) × Walk R (suc m) b b × (m < n)

module _ (R : Rel) where
  pub join : (j k a b c : ℕ) → Walk R j a b → Walk R k b c → Walk R (j + k) a c
  join zero k a b c p w = rw (zero-add, p) w
  join (suc j) k a b c (d, r, v) w = rw suc-add (d, r, join j k d b c v w)

  -- one step more at the end
  pub snoc : (k a b c : ℕ) → Walk R k a b → R b c → Walk R (suc k) a c
  snoc zero a b c p r = (c, (rw p r), refl)
  snoc (suc k) a b c (d, q, w) r = (d, q, snoc k d b c w r)

  -- the last step apart
  pub last : (k a c : ℕ) → Walk R (suc k) a c → (b : ℕ) × Walk R k a b × R b c
  last zero a c (d, r, e) = (a, refl, rw e at r)
  last (suc k) a c (d, r, w) = let (b, v, q) = last k d c w in (b, (d, r, v), q)

  -- the next vertex of a closed walk is on one as long
  pub turn : (k a c : ℕ) → R a c → Walk R k c a → Walk R (suc k) c c
  turn k a c r w = snoc k c a c w r

  -- what holds every vertex of a closed walk still does without a vertex that has no step to what it holds
  pub peel : (S : ℕ → Type 0) (v : ℕ) → ((k a : ℕ) → Walk R (suc k) a a → S a) → ((c : ℕ) → R v c → S c → ⊥)
      → (k a : ℕ) → Walk R (suc k) a a → a ≡ v → ⊥
  peel S v h stuck k a (c, r, w) e = stuck c (rw e at r) (h k c (turn k a c r w))

  -- the vertices of a walk, by place, and the part of a walk between two places
  abbrev pub vert : (k a b : ℕ) → Walk R k a b → ℕ → ℕ
  vert zero a b w i = a
  vert (suc k) a b w zero = a
  vert (suc k) a b (c, r, w) (suc i) = vert k c b w i

  -- the first j steps
  pub front : (k a b : ℕ) (w : Walk R k a b) (j : ℕ) → j ≤ k → Walk R j a (vert k a b w j)
  front zero a b w zero h = refl
  front zero a b w (suc j) h = absurd (omega arith)
  front (suc k) a b w zero h = refl
  front (suc k) a b (c, r, w) (suc j) h = (c, r, front k c b w j (omega arith))

  pub between : (k a b : ℕ) (w : Walk R k a b) (i j : ℕ) → i ≤ j → j ≤ k → Walk R (j - i) (vert k a b w i) (vert k a b w j)
  between zero a b w zero j h l = rw sub-zero (front zero a b w j l)
  between zero a b w (suc i) j h l = absurd (omega arith)
  between (suc k) a b w zero j h l = rw sub-zero (front (suc k) a b w j l)
  between (suc k) a b w (suc i) zero h l = absurd (omega arith)
  between (suc k) a b (c, r, w) (suc i) (suc j) h l = rw suc-sub-suc (between k c b w i j (omega arith) (omega arith))

  module _ (n : ℕ) (low : Below n R) where
    vert_low : (k a b : ℕ) (w : Walk R k a b) → a < n → (i : ℕ) → vert k a b w i < n
    vert_low zero a b w h i = h
    vert_low (suc k) a b w h zero = h
    vert_low (suc k) a b (c, r, w) h (suc i) = vert_low k c b w (low a c r).1 i

    start_low : (k a b : ℕ) → Walk R (suc k) a b → a < n
    start_low k a b (c, r, w) = (low a c r).0

    -- a walk of n steps or more has a closed walk of at most n steps in it
    pub cut : (k a b : ℕ) → Walk R (suc k) a b → n ≤ suc k → Short R n
    cut k a b w g = go (pigeon n f (λ i h. vert_low (suc k) a b w (start_low k a b w) i))
      where
        f : ℕ → ℕ
        f = vert (suc k) a b w

        go : Twice n f → Short R n
        go (i, j, l, u, e) =
            let d : j - i ≡ suc (j - suc i) = omega arith in (
              j - suc i,
              f j,
              subst (λ (m : ℕ). Walk R m (f j) (f j)) d (rw e at (between (suc k) a b w i j (omega arith) (omega arith))),
              omega arith,
            )

    pub short : (k a : ℕ) → Walk R (suc k) a a → Short R n
    short k a w = go (dec_lt k n)
      where
        go : Dec (k < n) → Short R n
        go (yes l) = (k, a, w, l)
        go (no g) = cut k a a w (omega arith)

pub within_below : (n : ℕ) (R : Rel) → Below n (within n R)
within_below n R a b r = (r.0, r.1)
