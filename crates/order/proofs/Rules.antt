-- Rules about cycles: the cycle that is shown is their evidence, and their evidence is the cycle that is shown. One relation under two names has the same cycles.
use Prim.Native.Nat.{ℕ, zero, suc, ◌<◌, ◌≤◌}
use mathlib.Core.Path.{◌≡◌, refl}
use mathlib.Core.Logic.{◌⊎◌, inl, inr}
use mathlib.Core.List.{List, [], ◌∷◌, Memᴰ}
use native.Mathlib.Omega.{arith}
use native.Mathlib.Decide.{dec_lt}
use lib.ListN.{length}
use Rattle.order.specs.Least.{None}
use Rattle.order.specs.Relation.{Rel, Trail, Cycle, Cyclic}
use Rattle.order.specs.Dictionary.{Lex, Firstly}
use Rattle.order.specs.Shown.{AtLeast, Begun, Shown}
use Rattle.order.specs.Rule.{Shows, Kept, Round, Rounds, cycle_rule, cycles_rule}
use Rattle.order.proofs.Cycles.{turned}
use Rattle.order.proofs.Dictionaries.{firstly_cons}

module _ (R : Rel) where
  pub shown_first_lem : (l : List ℕ) → Shown R l → Firstly (Round R) (length l ∷ l)
  shown_first_lem l s = record { has = (refl, s.cycle, s.begun); least = go }
    where
      go : (m : List ℕ) → Round R m → Lex (length l ∷ l) m
      go [] h = absurd h
      go (k ∷ m) (e, r, b) = at (dec_lt (length l) k) (s.shortest m r)
        where
          at : Dec (length l < k) → length l ≤ length m → (length l < k) ⊎ ((length l ≡ k) × Lex l m)
          at (yes h) g = inl h
          at (no h) g = inr (omega arith, s.least m r (omega arith) b)

  pub round_cyclic : (w : List ℕ) → Round R w → Cyclic R
  round_cyclic [] h = absurd h
  round_cyclic (k ∷ l) (e, r, b) = (l, r)

  module _ (number : ℕ) where
    pub cycle_kept : (Cyclic R → ⊥) → Kept (cycle_rule number R)
    cycle_kept f w r = f (round_cyclic w r)

    pub cycle_shown : (l : List ℕ) → Shown R l → Shows (cycle_rule number R) l
    cycle_shown l s = (length l ∷ l, shown_first_lem l s, refl)

module _ (number n : ℕ) (R : ℕ → Rel) where
  pub cycles_kept : ((p : ℕ) → p < n → Cyclic (R p) → ⊥) → Kept (cycles_rule number n R)
  cycles_kept f [] q = q
  cycles_kept f (p ∷ w) (l, r) = f p l (round_cyclic (R p) w r)

  pub cycles_shown : (p : ℕ) (l : List ℕ) → p < n → ((q : ℕ) → q < p → Cyclic (R q) → ⊥) → Shown (R p) l
      → Shows (cycles_rule number n R) (p ∷ l)
  cycles_shown p l h f s = (p ∷ length l ∷ l, firstly_cons (Rounds n R) p (length l ∷ l) (λ z. z) before here, refl)
    where
      before : (k : ℕ) → k < p → (m : List ℕ) → Rounds n R (k ∷ m) → ⊥
      before k g m q = f k g (round_cyclic (R k) m q.1)

      here : Firstly (λ m. Rounds n R (p ∷ m)) (length l ∷ l)
      here = let e = shown_first_lem (R p) l s in record { has = (h, e.has); least = λ m q. e.least m q.1 }

module _ (R Q : Rel) (f : (a b : ℕ) → R a b → Q a b) where
  trail_as : (a : ℕ) (l : List ℕ) (b : ℕ) → Trail R a l b → Trail Q a l b
  trail_as a [] b r = f a b r
  trail_as a (c ∷ l) b (r, t) = (f a c r, trail_as c l b t)

  pub cycle_as : (l : List ℕ) → Cycle R l → Cycle Q l
  cycle_as [] r = r
  cycle_as (a ∷ l) r = trail_as a l a r

  pub cyclic_as : Cyclic R → Cyclic Q
  cyclic_as (l, r) = (l, cycle_as l r)

pub round_as : (R Q : Rel) → ((a b : ℕ) → R a b → Q a b) → (w : List ℕ) → Round R w → Round Q w
round_as R Q f [] r = r
round_as R Q f (k ∷ l) (e, c, b) = (e, cycle_as R Q f l c, b)

pub shown_as : (R Q : Rel) → ((a b : ℕ) → R a b → Q a b) → ((a b : ℕ) → Q a b → R a b) → (l : List ℕ) → Shown R l → Shown Q l
shown_as R Q f g l s = record {
  cycle = cycle_as R Q f l s.cycle;
  shortest = λ m r. s.shortest m (cycle_as Q R g m r);
  begun = s.begun;
  least = λ m r e b. s.least m (cycle_as Q R g m r) e b;
}

-- ---- a cycle can be begun at its least event, so a rule about cycles is kept only where there is none

-- every event of the list is a or above, or one is below
least_or : (a : ℕ) (l : List ℕ) → AtLeast a l ⊎ ((x : ℕ) × Memᴰ x l × (x < a))
least_or a [] = inl tt
least_or a (y ∷ l) = go (least_or a l) (dec_lt y a)
  where
    go : AtLeast a l ⊎ ((x : ℕ) × Memᴰ x l × (x < a)) → Dec (y < a) → AtLeast a (y ∷ l) ⊎ ((x : ℕ) × Memᴰ x (y ∷ l) × (x < a))
    go s (yes h) = inr (y, Memᴰ.head refl, h)
    go (inl s) (no h) = inl (omega arith, s)
    go (inr (x, m, h)) (no g) = inr (x, Memᴰ.tail m, h)

module _ (R : Rel) where
  begun_from : (n a : ℕ) (l : List ℕ) → a < n → Trail R a l a → (m : List ℕ) × Cycle R m × Begun m × (length m ≡ suc (length l))
  begun_from zero a l h t = absurd (omega arith)
  begun_from (suc n) a l h t = go (begun_from n) (least_or a l)
    where
      go : ((b : ℕ) (o : List ℕ) → b < n → Trail R b o b → (m : List ℕ) × Cycle R m × Begun m × (length m ≡ suc (length o)))
          → AtLeast a l ⊎ ((x : ℕ) × Memᴰ x l × (x < a)) → (m : List ℕ) × Cycle R m × Begun m × (length m ≡ suc (length l))
      go rest (inl s) = (a ∷ l, t, s, refl)
      go rest (inr (x, i, g)) =
          let (o, c, e) = turned R (a ∷ l) x t (Memᴰ.tail i) in
          let (m, d, b, f) = rest x o (omega arith) c in
          (m, d, b, omega arith)

  pub begun : (l : List ℕ) → Cycle R l → (m : List ℕ) × Cycle R m × Begun m × (length m ≡ length l)
  begun [] c = absurd c
  begun (a ∷ l) c = begun_from (suc a) a l (omega arith) c

  cyclic_round : Cyclic R → (w : List ℕ) × Round R w
  cyclic_round (l, c) = let (m, d, b, e) = begun l c in (_ ∷ m, (refl, d, b))

  pub kept_cycle : (number : ℕ) → Kept (cycle_rule number R) → Cyclic R → ⊥
  kept_cycle number k c = let (w, r) = cyclic_round c in k w r

pub kept_cycles : (number n : ℕ) (R : ℕ → Rel) → Kept (cycles_rule number n R) → (p : ℕ) → p < n → Cyclic (R p) → ⊥
kept_cycles number n R k p h c = let (w, r) = cyclic_round (R p) c in k (p ∷ w) (h, r)

-- ---- the evidence of a rule about cycles: the least number whose relation has one, and the cycle that is shown of it
pub cycles_evidence : (a n : ℕ) (R : ℕ → Rel) (e : List ℕ) → Shows (cycles_rule a n R) e
    → (p : ℕ) × (p < n) × (c : List ℕ) × (e ≡ p ∷ c) × Shown (R p) c × None p (λ q. Cyclic (R q))
cycles_evidence a n R e ([], f, h) = absurd f.has
cycles_evidence a n R e (p ∷ [], f, h) = absurd f.has.1
cycles_evidence a n R e (p ∷ k ∷ c, f, h) =
    let (l, (size, cycle, start)) = f.has in
    (p, l, c, h, record { cycle = cycle; shortest = shortest; begun = start; least = least }, none)
  where
    shortest : (m : List ℕ) → Cycle (R p) m → length c ≤ length m
    shortest m d = let (o, x, b, same) = begun (R p) m d in go o same (f.least (p ∷ length o ∷ o) (f.has.0, (refl, x, b)))
      where
        go : (o : List ℕ) → length o ≡ length m → Lex (p ∷ k ∷ c) (p ∷ length o ∷ o) → length c ≤ length m
        go o same (inl x) = absurd (omega arith)
        go o same (inr (y, inl x)) = let s = f.has.1.0 in omega arith
        go o same (inr (y, inr (x, z))) = let s = f.has.1.0 in omega arith

    least : (m : List ℕ) → Cycle (R p) m → length m ≡ length c → Begun m → Lex c m
    least m d same b = go (f.least (p ∷ length m ∷ m) (f.has.0, (refl, d, b)))
      where
        go : Lex (p ∷ k ∷ c) (p ∷ length m ∷ m) → Lex c m
        go (inl x) = absurd (omega arith)
        go (inr (y, inl x)) = let s = f.has.1.0 in absurd (omega arith)
        go (inr (y, inr (x, z))) = z

    none : None p (λ q. Cyclic (R q))
    none q low (d, x) = let (o, y, b, same) = begun (R q) d x in go o (f.least (q ∷ length o ∷ o) (between, (refl, y, b)))
      where
        between : q < n
        between = let l = f.has.0 in omega arith

        go : (o : List ℕ) → Lex (p ∷ k ∷ c) (q ∷ length o ∷ o) → ⊥
        go o (inl y) = absurd (omega arith)
        go o (inr (y, z)) = absurd (omega arith)
