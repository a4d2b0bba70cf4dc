-- Numbers: a search below a bound decides, least numbers, and the pigeonhole principle.
use Prim.Native.Nat.{ℕ, zero, suc, ◌<◌, ◌≤◌}
use mathlib.Core.Path.{◌≡◌, refl, sym, ◌∙◌}
use mathlib.Core.Logic.{◌⊎◌, inl, inr, ⊎_elim}
use native.Mathlib.Omega.{arith}
use Rattle.order.specs.Least.{Some, None, Least, Counted}
use native.Mathlib.Decide.{ℕ_discrete, dec_lt}

pub last_or : (n k : ℕ) → k < suc n → (k ≡ n) ⊎ (k < n)
last_or n k h = go (dec_lt k n)
  where
    go : Dec (k < n) → (k ≡ n) ⊎ (k < n)
    go (yes l) = inr l
    go (no g) = inl (omega arith)

none_more : (P : ℕ → Type 0) (n : ℕ) → None n P → (P n → ⊥) → None (suc n) P
none_more P n f q k h p = ⊎_elim (λ (e : k ≡ n). q (rw e at p)) (λ l. f k l p) (last_or n k h)

-- the least number with P below n, or none is below n
pub first : (P : ℕ → Type 0) → ((k : ℕ) → Dec (P k)) → (n : ℕ) → Some n (Least P) ⊎ None n P
first P d zero = inr (λ k h p. omega arith)
first P d (suc n) = go (first P d n) (d n)
  where
    go : Some n (Least P) ⊎ None n P → Dec (P n) → Some (suc n) (Least P) ⊎ None (suc n) P
    go (inl s) e = inl (s.0, omega arith, s.2)
    go (inr f) (yes p) = inl (n, omega arith, (p, f))
    go (inr f) (no q) = inr (none_more P n f q)

pub dec_some : (P : ℕ → Type 0) → ((k : ℕ) → Dec (P k)) → (n : ℕ) → Dec (Some n P)
dec_some P d n = go (first P d n)
  where
    go : Some n (Least P) ⊎ None n P → Dec (Some n P)
    go (inl s) = yes (s.0, s.1, s.2.0)
    go (inr f) = no (λ s. f s.0 s.1 s.2)

pub least : (P : ℕ → Type 0) → ((k : ℕ) → Dec (P k)) → (n : ℕ) → P n → Some (suc n) (Least P)
least P d n p = ⊎_elim (λ s. s) (λ f. absurd (f n (omega arith) p)) (first P d (suc n))

-- two numbers with P, each the least, are one
pub least_unique : (P : ℕ → Type 0) (a b : ℕ) → Least P a → Least P b → a ≡ b
least_unique P a b p q = go (dec_lt a b) (dec_lt b a)
  where
    go : Dec (a < b) → Dec (b < a) → a ≡ b
    go (yes l) e = absurd (q.1 a l p.0)
    go (no g) (yes l) = absurd (p.1 b l q.0)
    go (no g) (no h) = omega arith

-- of n + 1 numbers below n two are equal
abbrev pub Twice : ℕ → (ℕ → ℕ) → Type 0
Twice n f = (i : ℕ) × (j : ℕ) × (i < j) × (j < suc n) × (f i ≡ f j)

-- x, or v in the place of m
abbrev put : (m v x : ℕ) → Dec (x ≡ m) → ℕ
put m v x (yes e) = v
put m v x (no g) = x

-- f with what is m sent to where m + 1 goes: it stays below m if f meets the last value once only
abbrev squeeze : ℕ → (ℕ → ℕ) → ℕ → ℕ
squeeze m f i = put m (f (suc m)) (f i) (ℕ_discrete (f i) m)

put_lt : (m v x : ℕ) → x < suc m → v < suc m → (x ≡ v → ⊥) → (d : Dec (x ≡ m)) → put m v x d < m
put_lt m v x hx hv ne (yes e) = omega arith
put_lt m v x hx hv ne (no g) = omega arith

put_eq : (m v x y : ℕ) → (x ≡ v → ⊥) → (y ≡ v → ⊥) → (d : Dec (x ≡ m)) (e : Dec (y ≡ m)) → put m v x d ≡ put m v y e → x ≡ y
put_eq m v x y hx hy (yes p) (yes q) h = omega arith
put_eq m v x y hx hy (yes p) (no q) h = absurd (hy (sym h))
put_eq m v x y hx hy (no p) (yes q) h = absurd (hx h)
put_eq m v x y hx hy (no p) (no q) h = h

pigeon_step : (m : ℕ) (f : ℕ → ℕ) → ((i : ℕ) → i < suc (suc m) → f i < suc m)
    → (((i : ℕ) → i < suc m → squeeze m f i < m) → Twice m (squeeze m f)) → Dec (Some (suc m) (λ i. f i ≡ f (suc m))) → Twice (suc m) f
pigeon_step m f h rest (yes s) = (s.0, suc m, s.1, omega arith, s.2)
pigeon_step m f h rest (no g) =
    let ne : (i : ℕ) → i < suc m → f i ≡ f (suc m) → ⊥ = λ i l e. g (i, l, e) in
    let r = rest (λ i l. put_lt m (f (suc m)) (f i) (h i (omega arith)) (h (suc m) (omega arith)) (ne i l) (ℕ_discrete (f i) m)) in (
      r.0,
      r.1,
      r.2,
      omega arith,
      put_eq m (f (suc m)) (f r.0) (f r.1) (ne r.0 (omega arith)) (ne r.1 r.3) (ℕ_discrete (f r.0) m) (ℕ_discrete (f r.1) m) r.4,
    )

pub pigeon : (n : ℕ) (f : ℕ → ℕ) → ((i : ℕ) → i < suc n → f i < n) → Twice n f
pigeon zero f h = let z = h 0 (omega arith) in absurd (omega arith)
pigeon (suc m) f h =
    pigeon_step m f h (pigeon m (squeeze m f)) (dec_some (λ i. f i ≡ f (suc m)) (λ i. ℕ_discrete (f i) (f (suc m))) (suc m))

-- ---- how many numbers have a property

pub counted_as : (n : ℕ) (P Q : ℕ → Type 0) (r : ℕ) → ((k : ℕ) → k < n → P k → Q k) → ((k : ℕ) → k < n → Q k → P k) → Counted n P r → Counted n Q r
unfolding Counted
counted_as zero P Q r f g c = c
counted_as (suc n) P Q r f g (inl (p, (m, e, c))) =
    inl (f n (omega arith) p, (m, e, counted_as n P Q m (λ k l. f k (omega arith)) (λ k l. g k (omega arith)) c))
counted_as (suc n) P Q r f g (inr (p, c)) =
    inr (λ q. p (g n (omega arith) q), counted_as n P Q r (λ k l. f k (omega arith)) (λ k l. g k (omega arith)) c)

-- two counts are one
pub counted_unique : (n : ℕ) (P : ℕ → Type 0) (r s : ℕ) → Counted n P r → Counted n P s → r ≡ s
unfolding Counted
counted_unique zero P r s c d = c ∙ sym d
counted_unique (suc n) P r s (inl (p, (m, e, c))) (inl (q, (o, f, d))) = omega (arith, counted_unique n P m o c d)
counted_unique (suc n) P r s (inl c) (inr d) = absurd (d.0 c.0)
counted_unique (suc n) P r s (inr c) (inl d) = absurd (c.0 d.0)
counted_unique (suc n) P r s (inr c) (inr d) = counted_unique n P r s c.1 d.1

-- there is a count where the property can be told
pub counted_some : (n : ℕ) (P : ℕ → Type 0) → ((k : ℕ) → Dec (P k)) → (r : ℕ) × Counted n P r
unfolding Counted
counted_some zero P d = (0, refl)
counted_some (suc n) P d = go (d n) (counted_some n P d)
  where
    go : Dec (P n) → (r : ℕ) × Counted n P r → (r : ℕ) × Counted (suc n) P r
    go (yes p) (r, c) = (suc r, inl (p, (r, refl, c)))
    go (no g) (r, c) = (r, inr (g, c))

-- what only numbers below n have is counted below n
pub counted_low : (n m : ℕ) (P : ℕ → Type 0) (r : ℕ) → ((k : ℕ) → P k → k < n) → n ≤ m → Counted m P r → Counted n P r
unfolding Counted
counted_low n zero P r f h c = let e : n ≡ 0 = omega arith in rw e c
counted_low n (suc m) P r f h c = go (counted_low n m P r f) (dec_lt n (suc m)) c
  where
    go : (n ≤ m → Counted m P r → Counted n P r) → Dec (n < suc m) → Counted (suc m) P r → Counted n P r
    go rest (yes l) (inl (p, q)) = let g = f m p in absurd (omega arith)
    go rest (yes l) (inr (g, d)) = rest (omega arith) d
    go rest (no l) d = let e : n ≡ suc m = omega arith in rw e d
