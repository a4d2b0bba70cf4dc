-- Sets: what the leaves make of their members, and how sets are put together.
use Prim.Native.Nat.{ℕ, ◌-◌, ◌/◌, ◌%◌, ◌^◌, ◌<◌, ◌≤◌, min}
use mathlib.Core.Path.{◌≡◌, refl, sym, ap, ap₂, ◌∙◌, subst}
use mathlib.Core.Logic.{◌⊎◌, inl, inr, ⊎_elim}
use native.Mathlib.Omega.{arith}
use native.Mathlib.Decide.{ℕ_discrete, dec_lt}
use native.Mathlib.Nat.{lt_of_le_of_lt, mod-lt}
use mathlib.Core.Bool.{not}
use lib.Dec.{eqb}
use borrow.Author.Tests.{eqb-true, eqb-false, not-true, not-false}
use lib.Pow.{ones_lt, pow_pos}
use lib.Bits.{bit_and, bit_or, bit_xor, differ, and_le_l, and_le_r}
use lib.Count.{ones, count_leading_zeros, count_trailing_zeros, trailing_le, trailing_of_zero}
use Rattle.order.specs.Decides.{Decides}
use Rattle.order.proofs.Searches.{found_less}
use Rattle.order.proofs.Tests.{by_as}
use Rattle.order.specs.Least.{Hit, Least, Counted}
use Rattle.order.proofs.Numbers.{counted_as}
use Rattle.rows.specs.Members.{bit, In, Is, Member, Meet, Greatest}
use Rattle.rows.specs.declared.Set.{Set}
use Rattle.rows.proofs.Bits.{On, bit_lt, bit_mod, bit_of_zero, dec_on, ext, bit_and_lem, bit_xor_lem, differ_zero, test_bit, bit_pow_same, trailing_first, ones_counted, on_pos, some_on, out_same, out_other, less_same, less_above, on_or, or_on, on_and, and_on, pow_on, on_full, on_lt, leading_last, mirror}

abbrev pub word : ℕ → Set
word w = record { word = w }

-- ---- laws for the crates above

pub in_low : (s : Set) (k : ℕ) → In s k → k < 64
unfolding In
in_low s k h = h.0

pub dec_in : (s : Set) (k : ℕ) → Dec (In s k)
unfolding In
dec_in s k = go (dec_lt k 64) (dec_on s.word k)
  where
    go : Dec (k < 64) → Dec (On s.word k) → Dec ((k < 64) × On s.word k)
    go (yes l) (yes p) = yes (l, p)
    go (yes l) (no p) = no (λ h. p h.1)
    go (no l) d = no (λ h. l h.0)

-- a set by another name for its property
pub is_as : (s : Set) (P Q : ℕ → Type 0) → ((k : ℕ) → P k → Q k) → ((k : ℕ) → Q k → P k) → Is s P → Is s Q
is_as s P Q f g p = record { says = λ k i. f k (p.says k i); has = λ k q. p.has k (g k q) }

-- two words for one property are one
pub is_unique : (x y : Set) (P : ℕ → Type 0) → x.word < 2 ^ 64 → y.word < 2 ^ 64 → Is x P → Is y P → x ≡ y
unfolding In
is_unique x y P hx hy p q = ap word (ext 64 x.word y.word hx hy (λ k l. go k l (dec_on x.word k) (dec_on y.word k)))
  where
    go : (k : ℕ) → k < 64 → Dec (On x.word k) → Dec (On y.word k) → bit x.word k ≡ bit y.word k
    go k l (yes i) (yes j) = i ∙ sym j
    go k l (yes i) (no g) = absurd (g (q.has k (p.says k (l, i))).1)
    go k l (no g) (yes j) = absurd (g (p.has k (q.says k (l, j))).1)
    go k l (no g) (no h) = omega (arith, bit_lt x.word k, bit_lt y.word k)

-- a number that falls when members are taken out
unfoldable pub value : Set → ℕ
value s = s.word % 2 ^ 64

-- a set with less in it has a smaller value
pub subset_less : (x y : Set) → ((k : ℕ) → In y k → In x k) → (m : ℕ) → In x m → (In y m → ⊥) → value y < value x
unfolding In value
subset_less x y f m i g =
    let e : bit_and Y X ≡ Y = ext 64 (bit_and Y X) Y (lt_of_le_of_lt (and_le_l Y X) low) low (λ k l. bit_and_lem Y X k ∙ both k l (dec_on Y k)) in
    let h : Y ≤ X = subst (λ (z : ℕ). z ≤ X) e (and_le_r Y X) in
    less h (ℕ_discrete Y X)
  where
    X : ℕ
    X = x.word % 2 ^ 64

    Y : ℕ
    Y = y.word % 2 ^ 64

    low : Y < 2 ^ 64
    low = mod-lt y.word (pow_pos 64)

    both : (k : ℕ) → k < 64 → Dec (On Y k) → min (bit Y k) (bit X k) ≡ bit Y k
    both k l (yes p) = let q : bit X k ≡ 1 = bit_mod x.word 64 k l ∙ (f k (l, sym (bit_mod y.word 64 k l) ∙ p)).1 in omega arith
    both k l (no p) = omega (arith, bit_lt Y k)

    less : Y ≤ X → Dec (Y ≡ X) → Y < X
    less h (yes e) = absurd (g (i.0, sym (bit_mod y.word 64 m i.0) ∙ ap (λ (z : ℕ). bit z m) e ∙ bit_mod x.word 64 m i.0 ∙ i.1))
    less h (no d) = omega arith

-- a set without a member that it had
pub rest_less : (s t : Set) (a : ℕ) → In s a → Is t (λ j. In s j × (j ≡ a → ⊥)) → t.word % 2 ^ 64 < s.word % 2 ^ 64
unfolding value
rest_less s t a m i = subset_less s t (λ k r. (i.says k r).0) a m (λ r. (i.says a r).1 refl)

-- a loop that takes out the least member, again and again
module _ (s : Set) (some : Member s) (a : ℕ) (f : Hit 64 (In s) a) where
  pub first_in : In s a
  first_in = f.hit (found_less 64 a some.0 (In s) f some.1 (in_low s some.0 some.1))

  pub taken_less : (rest : Set) → Is rest (λ j. In s j × (j ≡ a → ⊥)) → value rest < value s
  taken_less rest i = subset_less s rest (λ k r. (i.says k r).0) a first_in (λ r. (i.says a r).1 refl)

-- a word without a member is 0
pub none_zero : (s : Set) → s.word < 2 ^ 64 → ((k : ℕ) → In s k → ⊥) → s.word ≡ 0
unfolding In
none_zero s h f = go (ℕ_discrete s.word 0)
  where
    go : Dec (s.word ≡ 0) → s.word ≡ 0
    go (yes e) = e
    go (no g) = let i = some_on 64 s.word (omega arith) h in absurd (f i.0 (i.1, i.2))

-- ---- what the leaves make

pub is_none : Is (word 0) (λ k. ⊥)
unfolding In
is_none = record { says = λ k i. let e = i.1 in omega (arith, bit_of_zero k); has = λ k f. absurd f }

pub is_full : (n : ℕ) → n ≤ 64 → Is (word (2 ^ n - 1)) (λ k. k < n)
unfolding In
is_full n h = record { says = λ k i. on_lt n (2 ^ n - 1) k (ones_lt n) i.1; has = λ k l. (omega arith, on_full n k l) }

pub is_one : (k : ℕ) → k < 64 → Is (word (2 ^ k)) (λ j. j ≡ k)
unfolding In
is_one k h = record { says = λ j i. pow_on k j i.1; has = λ j e. (omega arith, rw e (bit_pow_same k)) }

module _ (x y : ℕ) where
  pub is_union : Is (word (bit_or x y)) (λ k. In (word x) k ⊎ In (word y) k)
  unfolding In
  is_union = record {
    says = λ k i. ⊎_elim (λ h. inl (i.0, h)) (λ h. inr (i.0, h)) (or_on x y k i.1);
    has = λ k s. ⊎_elim (λ h. (h.0, on_or x y k (inl h.1))) (λ h. (h.0, on_or x y k (inr h.1))) s;
  }

  pub is_common : Is (word (bit_and x y)) (λ k. In (word x) k × In (word y) k)
  unfolding In
  is_common = record {
    says = λ k i. let b = and_on x y k i.1 in ((i.0, b.0), (i.0, b.1));
    has = λ k s. (s.0.0, on_and x y k s.0.1 s.1.1);
  }

  -- x ^ (x & y)
  off : (k : ℕ) → On y k → On (bit_xor x (bit_and x y)) k → ⊥
  off k p h = go (dec_on x k)
    where
      go : Dec (On x k) → ⊥
      go (yes q) = let e : bit (bit_and x y) k ≡ 1 = bit_and_lem x y k ∙ omega arith in omega (arith, bit_xor_lem x (bit_and x y) k ∙ ap₂ differ q e)
      go (no q) = let z : bit x k ≡ 0 = omega (arith, bit_lt x k) in
          let e : bit (bit_and x y) k ≡ 0 = bit_and_lem x y k ∙ omega arith in omega (arith, bit_xor_lem x (bit_and x y) k ∙ ap₂ differ z e)

  kept : (k : ℕ) → (On y k → ⊥) → bit (bit_xor x (bit_and x y)) k ≡ bit x k
  kept k p =
      let z : bit (bit_and x y) k ≡ 0 = bit_and_lem x y k ∙ omega (arith, bit_lt y k) in
      bit_xor_lem x (bit_and x y) k ∙ ap (differ (bit x k)) z ∙ differ_zero (bit x k)

  pub is_minus : Is (word (bit_xor x (bit_and x y))) (λ k. In (word x) k × (In (word y) k → ⊥))
  unfolding In
  is_minus = record { says = λ k i. says k i.0 i.1; has = λ k s. (s.0.0, kept k (λ p. s.1 (s.0.0, p)) ∙ s.0.1) }
    where
      says : (k : ℕ) → k < 64 → On (bit_xor x (bit_and x y)) k → ((k < 64) × On x k) × ((k < 64) × On y k → ⊥)
      says k l i = ((l, sym (kept k (λ p. off k p i)) ∙ i), λ p. off k p.1 i)

-- a test of the word and 0
pub by_some : (w : ℕ) → w < 2 ^ 64 → Decides (not (eqb w 0)) (Member (word w))
unfolding In
by_some w h = record {
  holds = λ e. let s = some_on 64 w (positive (eqb-false w 0 (not-true _ e))) h in (s.0, (s.1, s.2));
  fails = λ e s. let z : w ≡ 0 = eqb-true w 0 (not-false _ e) in let p = on_pos w s.0 s.1.1 in omega arith;
}
  where
    positive : (w ≡ 0 → ⊥) → 0 < w
    positive f = omega arith

pub by_both : (x y : ℕ) → x < 2 ^ 64 → Decides (not (eqb (bit_and x y) 0)) (Meet (word x) (word y))
by_both x y h =
    let c = is_common x y in
    by_as _
    (λ s. let b = c.says s.0 s.1 in (s.0, b.0, b.1))
    (λ s. (s.0, c.has s.0 (s.1, s.2)))
    (by_some (bit_and x y) (lt_of_le_of_lt (and_le_l x y) h))

-- (w >> k) & 1 == 1
pub by_bit : (w k : ℕ) → k < 64 → Decides (eqb (bit_and (w / 2 ^ k) 1) 1) (In (word w) k)
unfolding In
by_bit w k l = record {
  holds = λ e. (l, sym (test_bit w k) ∙ eqb-true _ _ e);
  fails = λ e p. eqb-false _ _ e (test_bit w k ∙ p.1);
}

-- w ^ (1 << k), of a member k
module _ (w k : ℕ) (i : In (word w) k) where
  pub is_without : Is (word (bit_xor w (2 ^ k))) (λ j. In (word w) j × (j ≡ k → ⊥))
  unfolding In
  is_without = record { says = λ j h. says j h (ℕ_discrete j k); has = λ j s. (s.0.0, out_other w k j s.1 ∙ s.0.1) }
    where
      says : (j : ℕ) → (j < 64) × On (bit_xor w (2 ^ k)) j → Dec (j ≡ k) → ((j < 64) × On w j) × (j ≡ k → ⊥)
      says j h (yes e) = let q : On (bit_xor w (2 ^ k)) k = rw e at h.1 in absurd (omega (arith, out_same w k i.1))
      says j h (no g) = ((h.0, sym (out_other w k j g) ∙ h.1), g)

pub member_pos : (w : ℕ) → Member (word w) → 0 < w
unfolding In
member_pos w (k, p) = on_pos w k p.1

-- w & (w - 1), where k is the least member
module _ (w k : ℕ) (i : Least (In (word w)) k) where
  pub is_without_first : Is (word (bit_and w (w - 1))) (λ j. In (word w) j × (j ≡ k → ⊥))
  unfolding In
  is_without_first = record {
    says = λ j h. let b = and_on w (w - 1) j h.1 in
        ((h.0, b.0), λ e. let z : bit (w - 1) j ≡ 0 = rw e (less_same k w i.0.1 below) in omega (arith, b.1));
    has = λ j s. (s.0.0, on_and w (w - 1) j s.0.1 (less_above k w j i.0.1 below (after j s.0 s.1) ∙ s.0.1));
  }
    where
      below : (j : ℕ) → j < k → bit w j ≡ 0
      below j l = go (dec_on w j)
        where
          go : Dec (On w j) → bit w j ≡ 0
          go (yes p) = let b = i.0.0 in absurd (i.1 j l (omega arith, p))
          go (no g) = omega (arith, bit_lt w j)

      after : (j : ℕ) → (j < 64) × On w j → (j ≡ k → ⊥) → k < j
      after j m g = go (dec_lt j k)
        where
          go : Dec (j < k) → k < j
          go (yes l) = absurd (i.1 j l m)
          go (no h) = omega arith

pub size_counted : (w : ℕ) → w < 2 ^ 64 → Counted 64 (In (word w)) (ones w)
unfolding In
size_counted w h = counted_as 64 (On w) (In (word w)) (ones w) (λ k l p. (l, p)) (λ k l p. p.1) (ones_counted 64 w h)

pub none_in_zero : (w : ℕ) → w ≡ 0 → Member (word w) → ⊥
unfolding In
none_in_zero w e (k, p) = let q = on_pos w k p.1 in omega arith

pub first_found : (w : ℕ) → w < 2 ^ 64 → (w ≡ 0 → ⊥) → Least (In (word w)) (count_trailing_zeros 64 w)
unfolding In
first_found w h g = let f = trailing_first 64 w (omega arith) h in ((f.0, f.1), (λ k l p. let e = p.1 in omega (arith, f.2 k l)))

pub first_hit : (w : ℕ) → w < 2 ^ 64 → Hit 64 (In (word w)) (count_trailing_zeros 64 w)
unfolding In
first_hit w h = go (ℕ_discrete w 0)
  where
    go : Dec (w ≡ 0) → Hit 64 (In (word w)) (count_trailing_zeros 64 w)
    go (yes e) = record {
      most = trailing_le 64 w;
      none = λ k l p. let q = on_pos w k p.1 in omega arith;
      hit = λ l. let z : count_trailing_zeros 64 w ≡ 64 = ap (count_trailing_zeros 64) e ∙ trailing_of_zero 64 in absurd (omega arith);
    }
    go (no g) =
        let f = trailing_first 64 w (omega arith) h in record {
          most = trailing_le 64 w;
          none = λ k l p. let e = p.1 in omega (arith, f.2 k l);
          hit = λ l. (f.0, f.1);
        }

pub last_greatest : (w : ℕ) → w < 2 ^ 64 → Member (word w) → Greatest (word w) (bit_xor 63 (count_leading_zeros 64 w))
unfolding In
last_greatest w h (m, i) =
    let (j, e, p, f) = leading_last 64 w (on_pos w m i.1) h in
    let z : bit_xor 63 (count_leading_zeros 64 w) ≡ j = omega (arith, mirror (count_leading_zeros 64 w) (omega arith)) in
    rw z ((omega arith, p), λ k q. f k q.1)
