-- Arrangements: how often a number stands in a list, that the ascending list is the first arrangement, and the step from one to the next.
use Prim.Native.Nat.{ℕ, zero, suc, ◌+◌, ◌-◌, ◌<◌, ◌≤◌}
use mathlib.Core.Path.{◌≡◌, refl, sym, ap, subst, ◌∙◌}
use mathlib.Core.Bool.{Bool, true, false}
use mathlib.Core.Logic.{◌⊎◌, inl, inr, ⊎_elim}
use mathlib.Core.List.{List, [], ◌∷◌, ◌++◌, append-nil}
use native.Mathlib.Omega.{arith}
use native.Mathlib.Decide.{ℕ_discrete, dec_lt}
use lib.ListN.{length, take, drop, set, get_or, length-take, length-drop, take-append-drop, drop_of_length-le}
use borrow.Author.Tests.{eq-eqb, ne_eqb}
use lib.Seq.{get_or-take, split_at, set_split, length-take-le, take_all, take-take, take_at, drop_at, drop-cons, drop-length}
use borrow.Rule.Slice.PartMut.{mid_of, post_of, put_mid, same_len_mid}
use Rattle.order.specs.Least.{None, Least}
use Rattle.std.specs.List.{swap}
use Rattle.std.proofs.lemmas.List.Edits.{swap_is}
use Rattle.order.specs.Dictionary.{Lex, Firstly}
use Rattle.arrangements.specs.Arrangement.{times, Arranged, Behind, Next}
use Rattle.arrangements.specs.Steps.{Above, Raised}

-- ---- how often a number stands in a list

pub times_nil : (k : ℕ) → times k [] ≡ 0
unfolding times
times_nil k = refl

pub times_same : (k : ℕ) (l : List ℕ) → times k (k ∷ l) ≡ suc (times k l)
unfolding times
times_same k l = simp (eq-eqb k k refl)

pub times_other : (k a : ℕ) (l : List ℕ) → (k ≡ a → ⊥) → times k (a ∷ l) ≡ times k l
unfolding times
times_other k a l n = simp (ne_eqb k a n)

pub times_cons : (k a : ℕ) (l : List ℕ) → times k (a ∷ l) ≡ times k (a ∷ []) + times k l
times_cons k a l = go (ℕ_discrete k a)
  where
    go : Dec (k ≡ a) → times k (a ∷ l) ≡ times k (a ∷ []) + times k l
    go (yes e) = rw e (omega (arith, times_same a l, times_same a [], times_nil a))
    go (no n) = omega (arith, times_other k a l n, times_other k a [] n, times_nil k)

pub times_append : (k : ℕ) (l m : List ℕ) → times k (l ++ m) ≡ times k l + times k m
times_append k [] m = omega (arith, times_nil k)
times_append k (a ∷ l) m = omega (arith, times_cons k a (l ++ m), times_cons k a l, times_append k l m)

-- the number stands in the list
abbrev pub In : ℕ → List ℕ → Type 0
In d l = 0 < times d l

pub in_none : (d : ℕ) → In d [] → ⊥
in_none d h = omega (arith, times_nil d)

pub in_here : (d : ℕ) (l : List ℕ) → In d (d ∷ l)
in_here d l = omega (arith, times_same d l)

pub in_there : (d a : ℕ) (l : List ℕ) → In d l → In d (a ∷ l)
in_there d a l h = omega (arith, times_cons d a l)

pub in_cons : (d a : ℕ) (l : List ℕ) → In d (a ∷ l) → (d ≡ a) ⊎ In d l
in_cons d a l h = go (ℕ_discrete d a)
  where
    go : Dec (d ≡ a) → (d ≡ a) ⊎ In d l
    go (yes e) = inl e
    go (no n) = inr (omega (arith, times_other d a l n))

pub in_append : (d : ℕ) (l m : List ℕ) → In d (l ++ m) → In d l ⊎ In d m
in_append d l m h = go (dec_lt 0 (times d l))
  where
    go : Dec (0 < times d l) → In d l ⊎ In d m
    go (yes i) = inl i
    go (no n) = inr (omega (arith, times_append d l m))

pub in_front : (d : ℕ) (l m : List ℕ) → In d l → In d (l ++ m)
in_front d l m h = omega (arith, times_append d l m)

-- where it stands
pub in_place : (d : ℕ) (l : List ℕ) → In d l → (i : ℕ) × (i < length l) × (get_or l i 0 ≡ d)
in_place d [] h = absurd (in_none d h)
in_place d (a ∷ l) h = go (in_cons d a l h) (λ j. in_place d l j)
  where
    go : (d ≡ a) ⊎ In d l → (In d l → (i : ℕ) × (i < length l) × (get_or l i 0 ≡ d))
        → (i : ℕ) × (i < length (a ∷ l)) × (get_or (a ∷ l) i 0 ≡ d)
    go (inl e) rest = (0, omega arith, sym e)
    go (inr j) rest = let s = rest j in (suc s.0, omega (arith, s.1), s.2)

pub in_split : (d : ℕ) (l : List ℕ) → In d l → (p : List ℕ) × (q : List ℕ) × (l ≡ p ++ d ∷ q)
in_split d [] h = absurd (in_none d h)
in_split d (a ∷ l) h = go (in_cons d a l h) (λ j. in_split d l j)
  where
    go : (d ≡ a) ⊎ In d l → (In d l → (p : List ℕ) × (q : List ℕ) × (l ≡ p ++ d ∷ q)) → (p : List ℕ) × (q : List ℕ) × (a ∷ l ≡ p ++ d ∷ q)
    go (inl e) rest = ([], l, ap (λ (x : ℕ). x ∷ l) (sym e))
    go (inr j) rest = let s = rest j in (a ∷ s.0, s.1, ap (λ (r : List ℕ). a ∷ r) s.2)

-- ---- arrangements

pub arranged_in : (l m : List ℕ) (d : ℕ) → Arranged l m → In d m → In d l
arranged_in l m d f h = omega (arith, f d)

pub arranged_turn : (l m : List ℕ) → Arranged l m → Arranged m l
arranged_turn l m f k = sym (f k)

pub arranged_then : (l m w : List ℕ) → Arranged l m → Arranged m w → Arranged l w
arranged_then l m w f g k = g k ∙ f k

pub arranged_cons : (a : ℕ) (l m : List ℕ) → Arranged l m → Arranged (a ∷ l) (a ∷ m)
arranged_cons a l m f k = omega (arith, f k, times_cons k a l, times_cons k a m)

pub arranged_tail : (a : ℕ) (l m : List ℕ) → Arranged (a ∷ l) (a ∷ m) → Arranged l m
arranged_tail a l m f k = omega (arith, f k, times_cons k a l, times_cons k a m)

pub arranged_some : (a : ℕ) (l : List ℕ) → Arranged (a ∷ l) [] → ⊥
arranged_some a l f = in_none a (arranged_in [] (a ∷ l) a (arranged_turn (a ∷ l) [] f) (in_here a l))

-- the first number changes places with another
pub arranged_swap : (a y : ℕ) (t p q : List ℕ) → t ≡ p ++ y ∷ q → Arranged (a ∷ t) (y ∷ (p ++ a ∷ q))
arranged_swap a y t p q e k =
    rw e
    (omega (
      arith,
      times_cons k a (p ++ y ∷ q),
      times_cons k y (p ++ a ∷ q),
      times_append k p (y ∷ q),
      times_append k p (a ∷ q),
      times_cons k y q,
      times_cons k a q,
    ))

-- it goes behind the others
pub arranged_turned : (a : ℕ) (t : List ℕ) → Arranged (a ∷ t) (t ++ a ∷ [])
arranged_turned a t k = omega (arith, times_cons k a t, times_append k t (a ∷ []))

-- ---- the first arrangement is the ascending one

-- no number of the list is below a
abbrev pub Over : ℕ → List ℕ → Type 0
Over a l = (d : ℕ) → In d l → a ≤ d

-- no number of the list is above a
abbrev pub Under : ℕ → List ℕ → Type 0
Under a l = (d : ℕ) → In d l → d ≤ a

-- each number is at most those behind it
abbrev pub Ascending : List ℕ → Type 0
Ascending [] = Unit {0}
Ascending (a ∷ l) = Over a l × Ascending l

pub ascending_lex : (t m : List ℕ) → Ascending t → Arranged t m → Lex t m
ascending_lex [] m s f = tt
ascending_lex (a ∷ t) [] s f = absurd (arranged_some a t f)
ascending_lex (a ∷ t) (d ∷ m) s f = go (ℕ_discrete d a) (λ w. ascending_lex t m s.1 w)
  where
    go : Dec (d ≡ a) → (Arranged t m → Lex t m) → (a < d) ⊎ ((a ≡ d) × Lex t m)
    go (yes e) rest = inr (sym e, rest (arranged_tail a t m (rw e at f)))
    go (no n) rest =
        let least : (d ≡ a) ⊎ In d t → a < d = λ w. ⊎_elim (λ e. absurd (n e)) (λ (i : In d t). omega (arith, s.0 d i)) w in
        inl (least (in_cons d a t (arranged_in (a ∷ t) (d ∷ m) d f (in_here d m))))

pub ascending_first : (l m : List ℕ) → Arranged l m → Ascending m → Firstly (Arranged l) m
ascending_first l m f s =
    record { has = f; least = λ w g. ascending_lex m w s (arranged_then m l w (arranged_turn l m f) g) }

pub first_ascending : (t : List ℕ) → ((m : List ℕ) → Arranged t m → Lex t m) → Ascending t
first_ascending [] f = tt
first_ascending (b ∷ t) f = (over, first_ascending t tail)
  where
    tail : (m : List ℕ) → Arranged t m → Lex t m
    tail m g = ⊎_elim (λ (l : b < b). absurd (omega arith)) (λ w. w.1) (f (b ∷ m) (arranged_cons b t m g))

    over : Over b t
    over d i =
        let (p, q, e) = in_split d t i in
        ⊎_elim
        (λ (l : b < d). omega arith)
        (λ w. let z = w.0 in omega arith)
        (f (d ∷ (p ++ b ∷ q)) (arranged_swap b d t p q e))

-- a takes the place of y, the first number above it
pub ascending_swap : (a y : ℕ) (p q : List ℕ) → Ascending (p ++ y ∷ q) → Under a p → a < y → Ascending (p ++ a ∷ q)
ascending_swap a y [] q s u l = (λ d i. omega (arith, s.0 d i), s.1)
ascending_swap a y (b ∷ p) q s u l = (over, ascending_swap a y p q s.1 (λ d i. u d (in_there d b p i)) l)
  where
    over : Over b (p ++ a ∷ q)
    over d i = go (in_append d p (a ∷ q) i)
      where
        past : In d q → In d (p ++ y ∷ q)
        past j = omega (arith, times_append d p (y ∷ q), times_cons d y q)

        at : (d ≡ a) ⊎ In d q → b ≤ d
        at (inl e) = omega (arith, u b (in_here b p))
        at (inr j) = s.0 d (past j)

        go : In d p ⊎ In d (a ∷ q) → b ≤ d
        go (inl j) = s.0 d (in_front d p (y ∷ q) j)
        go (inr j) = at (in_cons d a q j)

pub ascending_turned : (a : ℕ) (t : List ℕ) → Ascending t → Under a t → Ascending (t ++ a ∷ [])
ascending_turned a [] s u = (λ d i. absurd (in_none d i), tt)
ascending_turned a (b ∷ t) s u = (over, ascending_turned a t s.1 (λ d i. u d (in_there d b t i)))
  where
    over : Over b (t ++ a ∷ [])
    over d i = go (in_append d t (a ∷ []) i)
      where
        go : In d t ⊎ In d (a ∷ []) → b ≤ d
        go (inl j) = s.0 d j
        go (inr j) =
            ⊎_elim (λ (e : d ≡ a). omega (arith, u b (in_here b t))) (λ (k : In d []). absurd (in_none d k)) (in_cons d a [] j)

-- ---- the step of one number more

clash : false ≡ true → ⊥
clash e = let z : ◌≡◌ {A = ℕ} 0 1 = cc in omega arith

-- the arrangements of t₀ ended at t₀, and t is the first of them
pub record Ended (t₀ t : List ℕ) : Type 0 where
  pub last : (w : List ℕ) → Behind t₀ w → ⊥
  pub first : Firstly (Arranged t₀) t

pub ended : (t₀ t : List ℕ) → Next t₀ t false → Ended t₀ t
ended t₀ t (inl p) = absurd (clash p.0)
ended t₀ t (inr p) = record { last = p.1; first = p.2 }

module _ (a : ℕ) (t₀ t : List ℕ) (n : Ended t₀ t) where
  rises : Ascending t
  rises = first_ascending t (λ m f. n.first.least m (arranged_then t₀ t m n.first.has f))

  -- what stands behind a ∷ t₀ begins with a number of t above a
  behind_above : (d : ℕ) (w : List ℕ) → Behind (a ∷ t₀) (d ∷ w) → (a < d) × In d t
  behind_above d w (f, g) = (up (dec_lt a d), among (in_cons d a t₀ (arranged_in (a ∷ t₀) (d ∷ w) d f (in_here d w))))
    where
      not_same : d ≡ a → ⊥
      not_same e = n.last w (arranged_tail a t₀ w (rw e at f), λ x. g (inr (e, x)))

      up : Dec (a < d) → a < d
      up (yes l) = l
      up (no m) = absurd (g (inl (let z = not_same in omega arith)))

      among : (d ≡ a) ⊎ In d t₀ → In d t
      among (inl e) = absurd (not_same e)
      among (inr i) = arranged_in t t₀ d (arranged_turn t₀ t n.first.has) i

  pub step_none : Under a t → Next (a ∷ t₀) (t ++ a ∷ []) false
  step_none u =
      inr (refl, none, ascending_first (a ∷ t₀) (t ++ a ∷ []) whole (ascending_turned a t rises u))
    where
      none : (w : List ℕ) → Behind (a ∷ t₀) w → ⊥
      none [] b = arranged_some a t₀ b.0
      none (d ∷ w) b = let z = behind_above d w b in let l = z.0 in omega (arith, u d z.1)

      whole : Arranged (a ∷ t₀) (t ++ a ∷ [])
      whole = arranged_then (a ∷ t₀) (a ∷ t) (t ++ a ∷ []) (arranged_cons a t₀ t n.first.has) (arranged_turned a t)

  pub step_found : (y : ℕ) (p q : List ℕ) → t ≡ p ++ y ∷ q → Under a p → a < y → Next (a ∷ t₀) (y ∷ (p ++ a ∷ q)) true
  step_found y p q e u l = inl (refl, record { has = (whole, after); least = least })
    where
      whole : Arranged (a ∷ t₀) (y ∷ (p ++ a ∷ q))
      whole = arranged_then (a ∷ t₀) (a ∷ t) (y ∷ (p ++ a ∷ q)) (arranged_cons a t₀ t n.first.has) (arranged_swap a y t p q e)

      after : Lex (y ∷ (p ++ a ∷ q)) (a ∷ t₀) → ⊥
      after (inl m) = omega arith
      after (inr m) = let z = m.0 in omega arith

      up : Ascending (p ++ y ∷ q)
      up = rw e at rises

      behind : (p : List ℕ) → Ascending (p ++ y ∷ q) → Over y q
      behind [] s = s.0
      behind (b ∷ p) s = behind p s.1

      low : (d : ℕ) → a < d → In d (p ++ y ∷ q) → y ≤ d
      low d m i = go (in_append d p (y ∷ q) i)
        where
          go : In d p ⊎ In d (y ∷ q) → y ≤ d
          go (inl j) = absurd (omega (arith, u d j))
          go (inr j) = ⊎_elim (λ (z : d ≡ y). omega arith) (λ k. behind p up d k) (in_cons d y q j)

      least : (w : List ℕ) → Behind (a ∷ t₀) w → Lex (y ∷ (p ++ a ∷ q)) w
      least [] b = absurd (arranged_some a t₀ b.0)
      least (d ∷ w) b = go (ℕ_discrete d y) (behind_above d w b)
        where
          go : Dec (d ≡ y) → (a < d) × In d t → (y < d) ⊎ ((y ≡ d) × Lex (p ++ a ∷ q) w)
          go (no m) z = inl (let k = low d z.0 (rw e at z.1) in omega arith)
          go (yes m) z =
              let f : Arranged (y ∷ (p ++ a ∷ q)) (y ∷ w) =
              arranged_then (y ∷ (p ++ a ∷ q)) (a ∷ t₀) (y ∷ w) (arranged_turn (a ∷ t₀) (y ∷ (p ++ a ∷ q)) whole) (rw m at b.0) in
              inr (sym m, ascending_lex (p ++ a ∷ q) w (ascending_swap a y p q up u l) (arranged_tail y (p ++ a ∷ q) w f))

-- ---- what `raise` does is the step

under_places : (a : ℕ) (t : List ℕ) → ((k : ℕ) → k < length t → a < get_or t k 0 → ⊥) → Under a t
under_places a t f d i = go (dec_lt a d) (in_place d t i)
  where
    go : Dec (a < d) → (k : ℕ) × (k < length t) × (get_or t k 0 ≡ d) → d ≤ a
    go (yes l) (k, h, e) = absurd (f k h (omega arith))
    go (no n) s = omega arith

pub raised_none : (l : List ℕ) → None (length l) (Above l) → 0 < length l → Raised l (drop 1 l ++ take 1 l) false
raised_none [] f k = absurd (omega arith)
raised_none (a ∷ t) f k = λ t₀ n.
    step_none a t₀ t (ended t₀ t n) (under_places a t (λ j b u. f (suc j) (omega arith) (omega arith, u)))

raised_swap : (l : List ℕ) (i : ℕ) → Least (Above l) i → i < length l → Raised l (set (set l 0 (get_or l i 0)) i (get_or l 0 0)) true
raised_swap [] i h m = absurd (omega arith)
raised_swap (a ∷ t) zero h m = absurd (let z = h.0.0 in omega arith)
raised_swap (a ∷ t) (suc j) h m = λ t₀ n.
    let b : j < length t = omega arith in
    rw (set_split t j a b)
    (step_found a t₀ t (ended t₀ t n) (get_or t j 0) (take j t) (drop (suc j) t) (split_at t j 0 b)
    (under_places a (take j t) (λ k c u. low k (omega (arith, length-take j t)) u)) h.0.1)
  where
    low : (k : ℕ) → k < j → a < get_or (take j t) k 0 → ⊥
    low k c u = h.1 (suc k) (omega arith) (omega arith, rw (get_or-take j t k 0 c) at u)

pub raised_found : (l : List ℕ) (i : ℕ) → Least (Above l) i → i < length l → Raised l (swap l 0 i) true
raised_found l i h m =
    subst (λ (w : List ℕ). Raised l w true) (swap_is l 0 i 0 (omega arith) m) (raised_swap l i h m)

-- ---- the numbers before stay

first_cons : (b : ℕ) (l m : List ℕ) → Firstly (Behind l) m → Firstly (Behind (b ∷ l)) (b ∷ m)
first_cons b l m f = record { has = (arranged_cons b l m f.has.0, after); least = least }
  where
    after : Lex (b ∷ m) (b ∷ l) → ⊥
    after (inl x) = omega arith
    after (inr x) = f.has.1 x.1

    least : (w : List ℕ) → Behind (b ∷ l) w → Lex (b ∷ m) w
    least [] g = absurd (arranged_some b l g.0)
    least (d ∷ w) g = go (dec_lt d b) (dec_lt b d)
      where
        go : Dec (d < b) → Dec (b < d) → (b < d) ⊎ ((b ≡ d) × Lex m w)
        go (yes x) v = absurd (g.1 (inl x))
        go (no x) (yes y) = inl y
        go (no x) (no y) =
            let e : d ≡ b = omega arith in
            inr (sym e, f.least w (arranged_tail b l w (rw e at g.0), λ z. g.1 (inr (e, z))))

first_front : (p l m : List ℕ) → Firstly (Behind l) m → Firstly (Behind (p ++ l)) (p ++ m)
first_front [] l m f = f
first_front (b ∷ p) l m f = first_cons b (p ++ l) (p ++ m) (first_front p l m f)

pub next_front : (p l m : List ℕ) → Next l m true → Next (p ++ l) (p ++ m) true
next_front p l m (inl n) = inl (n.0, first_front p l m n.1)
next_front p l m (inr n) = absurd (clash (sym n.0))

pub next_none : Next [] [] false
next_none = inr (refl, none, record { has = λ k. refl; least = λ w f. tt })
  where
    none : (w : List ℕ) → Behind [] w → ⊥
    none [] b = b.1 tt
    none (d ∷ w) b = in_none d (arranged_in [] (d ∷ w) d b.0 (in_here d w))

-- the numbers before k are as they were, and those from k on came to the end of their arrangements
pub record Rolled (l₀ l : List ℕ) (k : ℕ) : Type 0 where
  pub upto : k ≤ length l₀
  pub same : length l ≡ length l₀
  pub front : take k l ≡ take k l₀
  pub rest : Next (drop k l₀) (drop k l) false

pub rolled_none : (l : List ℕ) → Rolled l l (length l)
rolled_none l = record { upto = omega arith; same = refl; front = refl; rest = rw (drop-length l) next_none }

pub rolled_at : (l₀ l : List ℕ) (k : ℕ) → Rolled l₀ l k → 0 < k → Rolled l₀ l (suc (k - 1))
rolled_at l₀ l k s h = let e : k ≡ suc (k - 1) = omega arith in subst (λ (n : ℕ). Rolled l₀ l n) e s

module _ (l₀ l : List ℕ) (j : ℕ) (s : Rolled l₀ l (suc j)) where
  abbrev part : List ℕ
  part = mid_of j (length l - j) l

  part_is : part ≡ drop j l
  part_is = take_all (length l - j) (drop j l) (omega (arith, length-drop j l))

  same_front : take j l ≡ take j l₀
  same_front = sym (take-take j (suc j) l (omega arith)) ∙ ap (take j) s.front ∙ take-take j (suc j) l₀ (omega arith)

  same_here : get_or l₀ j 0 ≡ get_or l j 0
  same_here =
      sym (get_or-take (suc j) l₀ j 0 (omega arith)) ∙ ap (λ (x : List ℕ). get_or x j 0) (sym s.front) ∙ get_or-take (suc j) l j 0 (omega arith)

  whole : drop j l₀ ≡ get_or l j 0 ∷ drop (suc j) l₀
  whole = let u = s.upto in drop-cons l₀ j 0 (omega arith) ∙ ap (λ (x : ℕ). x ∷ drop (suc j) l₀) same_here

  -- what is lent comes back as m
  module _ (m : List ℕ) where
    abbrev back : List ℕ
    back = put_mid j (length l - j) l m

    pub back_length : length m ≡ length part → length back ≡ length l₀
    back_length e = same_len_mid j (length l - j) l m e ∙ s.same

    back_is : back ≡ take j l ++ m
    back_is =
        let h : length (drop j l) ≤ length l - j = omega (arith, length-drop j l) in
        let e : post_of j (length l - j) l ≡ [] = drop_of_length-le (drop j l) h in
        ap (λ (x : List ℕ). take j l ++ (m ++ x)) e ∙ ap (λ (x : List ℕ). take j l ++ x) (append-nil m)

    module _ (found : Bool) (d : Raised part m found) where
      stepped : Next (drop j l₀) m found
      stepped =
          let u = s.upto in
          let e = s.same in
          let q : part ≡ get_or l j 0 ∷ drop (suc j) l = part_is ∙ drop-cons l j 0 (omega arith) in
          let r : Raised (get_or l j 0 ∷ drop (suc j) l) m found = subst (λ (x : List ℕ). Raised x m found) q d in
          subst (λ (x : List ℕ). Next x m found) (sym whole) (r (drop (suc j) l₀) s.rest)

      pub rolled_found : found ≡ true → Next l₀ back true
      rolled_found e =
          let n : Next (take j l₀ ++ drop j l₀) (take j l₀ ++ m) true = next_front (take j l₀) (drop j l₀) m (rw e at stepped) in
          let f : Next l₀ (take j l₀ ++ m) true = rw (take-append-drop j l₀) at n in
          rw (back_is, same_front) f

      pub rolled_more : found ≡ false → length m ≡ length part → Rolled l₀ back j
      rolled_more e z =
          let u = s.upto in
          let v = s.same in
          let n : length (take j l) ≡ j = length-take-le j l (omega arith) in
          record {
            upto = omega arith;
            same = back_length z;
            front = ap (take j) back_is ∙ take_at (take j l) m j n ∙ same_front;
            rest = rw (back_is, drop_at (take j l) m j n) (rw e at stepped);
          }
