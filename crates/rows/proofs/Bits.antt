-- Bits of a word: what the operators make of them.
use Prim.Native.Nat.{ℕ, zero, suc, ◌+◌, ◌-◌, ◌*◌, ◌/◌, ◌%◌, ◌^◌, ◌<◌, ◌≤◌, min, max}
use mathlib.Core.Path.{◌≡◌, refl, sym, ap, ap₂, ◌∙◌, subst}
use mathlib.Core.Logic.{◌⊎◌, inl, inr}
use native.Mathlib.Omega.{arith}
use native.Mathlib.Decide.{ℕ_discrete, dec_lt}
use native.Mathlib.Nat.{div-eq_of_lt, div_self, div-one, pow-suc, mul-mod_left, zero-div, one-mul, div-add-mod'}
use native.Mathlib.Numerals.{one-add}
use lib.Pow.{pow_pos, pow-lt, pow-add, shl-shr, shr-shr, shl_exact}
use lib.Dec.{lit<}
use lib.Arith.{lt-one}
use lib.Bits.{bit_and, bit_or, and_shr, or_shr, and_step, or_step, bit_xor, differ, xor_step, xor_shr, xor_comm, xor_add_and, and_mask, block_half, block_odd}
use lib.Count.{ones, count_leading_zeros, count_trailing_zeros, under, ones_step, leading_top}
use Rattle.order.specs.Least.{Some, Counted}
use Rattle.rows.specs.Members.{bit}

-- bit k of w is set
abbrev pub On : ℕ → ℕ → Type 0
On w k = bit w k ≡ 1

half_lt : (w n : ℕ) → w < 2 ^ suc n → w / 2 < 2 ^ n
half_lt w n h = let e = pow-suc 2 n in omega arith

pub bit_lt : (w k : ℕ) → bit w k < 2
unfolding bit
bit_lt w k = omega arith

pub bit_of_zero : (k : ℕ) → bit 0 k ≡ 0
unfolding bit
bit_of_zero k = simp zero-div

pub dec_on : (w k : ℕ) → Dec (On w k)
dec_on w k = ℕ_discrete (bit w k) 1

or_low : (x y : ℕ) → bit_or x y % 2 ≡ max (x % 2) (y % 2)
or_low x y = omega (arith, or_step x y)

and_low : (x y : ℕ) → bit_and x y % 2 ≡ min (x % 2) (y % 2)
and_low x y = omega (arith, and_step x y)

differ_lt : (p q : ℕ) → p < 2 → q < 2 → differ p q < 2
differ_lt zero q hp hq = hq
differ_lt (suc p) zero hp hq = hp
differ_lt (suc p) (suc q) hp hq = differ_lt p q (omega arith) (omega arith)

pub differ_zero : (x : ℕ) → differ x 0 ≡ x
differ_zero zero = refl
differ_zero (suc x) = refl

xor_low : (x y : ℕ) → bit_xor x y % 2 ≡ differ (x % 2) (y % 2)
xor_low x y = omega (arith, xor_step x y, differ_lt (x % 2) (y % 2) (omega arith) (omega arith))

pub bit_or_lem : (x y k : ℕ) → bit (bit_or x y) k ≡ max (bit x k) (bit y k)
unfolding bit
bit_or_lem x y k = ap (λ (z : ℕ). z % 2) (or_shr x y k) ∙ or_low (x / 2 ^ k) (y / 2 ^ k)

pub bit_and_lem : (x y k : ℕ) → bit (bit_and x y) k ≡ min (bit x k) (bit y k)
unfolding bit
bit_and_lem x y k = ap (λ (z : ℕ). z % 2) (and_shr x y k) ∙ and_low (x / 2 ^ k) (y / 2 ^ k)

-- the lowest bit, and the others
pub bit_zero : (w : ℕ) → bit w 0 ≡ w % 2
unfolding bit
bit_zero w = ap (λ (z : ℕ). z % 2) (div-one w)

pub bit_suc : (w k : ℕ) → bit w (suc k) ≡ bit (w / 2) k
unfolding bit
bit_suc w k = ap (λ (z : ℕ). w / 2 ^ z % 2) (sym (one-add k)) ∙ ap (λ (z : ℕ). z % 2) (sym (shr-shr w 1 k))

pub bit_pow_same : (j : ℕ) → bit (2 ^ j) j ≡ 1
unfolding bit
bit_pow_same j = ap (λ (z : ℕ). z % 2) (div_self (pow_pos j))

pow_even : (d k : ℕ) → 2 ^ (suc d + k) / 2 ^ k % 2 ≡ 0
pow_even d k =
    ap (λ (z : ℕ). z / 2 ^ k % 2) (pow-add 2 (suc d) k) ∙ ap (λ (z : ℕ). z % 2) (shl-shr (2 ^ suc d) k)
    ∙ ap (λ (z : ℕ). z % 2) (pow-suc 2 d) ∙ mul-mod_left (2 ^ d) 2

pub bit_pow_other : (j k : ℕ) → (k ≡ j → ⊥) → bit (2 ^ j) k ≡ 0
unfolding bit
bit_pow_other j k ne = go (dec_lt j k)
  where
    go : Dec (j < k) → 2 ^ j / 2 ^ k % 2 ≡ 0
    go (yes l) = ap (λ (z : ℕ). z % 2) (div-eq_of_lt (pow-lt l))
    go (no g) =
        let e : suc (j - suc k) + k ≡ j = omega arith in
        subst (λ (z : ℕ). 2 ^ z / 2 ^ k % 2 ≡ 0) e (pow_even (j - suc k) k)

-- a word is its bits
pub ext : (n x y : ℕ) → x < 2 ^ n → y < 2 ^ n → ((k : ℕ) → k < n → bit x k ≡ bit y k) → x ≡ y
ext zero x y hx hy h = lt-one hx ∙ sym (lt-one hy)
ext (suc n) x y hx hy h =
    let low : x % 2 ≡ y % 2 = sym (bit_zero x) ∙ h 0 (omega arith) ∙ bit_zero y in
    let high : x / 2 ≡ y / 2 = ext n (x / 2) (y / 2) (half_lt x n hx) (half_lt y n hy)
    (λ k l. sym (bit_suc x k) ∙ h (suc k) (omega arith) ∙ bit_suc y k) in
    omega arith

-- ---- how many are set

abbrev count : (ℕ → ℕ) → ℕ → ℕ
count f zero = 0
count f (suc n) = count f n + f n

count_front : (f : ℕ → ℕ) (n : ℕ) → count f (suc n) ≡ f 0 + count (λ k. f (suc k)) n
count_front f zero = omega arith
count_front f (suc n) = omega (arith, count_front f n)

count_ext : (f g : ℕ → ℕ) (n : ℕ) → ((k : ℕ) → k < n → f k ≡ g k) → count f n ≡ count g n
count_ext f g zero h = refl
count_ext f g (suc n) h = omega (arith, count_ext f g n (λ k l. h k (omega arith)), h n (omega arith))

ones_count : (n w : ℕ) → w < 2 ^ n → ones w ≡ count (bit w) n
unfolding ones
ones_count zero w h = ap ones (lt-one h)
ones_count (suc n) w h =
    ones_step w ∙ ap₂ (λ (x y : ℕ). x + y) (sym (bit_zero w)) (ones_count n (w / 2) (half_lt w n h) ∙ count_ext _ _ n (λ k l. sym (bit_suc w k)))
    ∙ sym (count_front (bit w) n)

counted : (w n : ℕ) → Counted n (On w) (count (bit w) n)
unfolding Counted
counted w zero = refl
counted w (suc n) = go (dec_on w n) (counted w n)
  where
    go : Dec (On w n) → Counted n (On w) (count (bit w) n) → Counted (suc n) (On w) (count (bit w) n + bit w n)
    go (yes p) c = inl (p, (count (bit w) n, omega arith, c))
    go (no p) c = let z : count (bit w) n + bit w n ≡ count (bit w) n = omega (arith, bit_lt w n) in inr (p, rw z c)

pub ones_counted : (n w : ℕ) → w < 2 ^ n → Counted n (On w) (ones w)
ones_counted n w h = rw (ones_count n w h) (counted w n)

-- ---- the least member

abbrev pub FirstIn : ℕ → ℕ → ℕ → Type 0
FirstIn n w t = (t < n) × On w t × ((k : ℕ) → k < t → bit w k ≡ 0)

pub trailing_first : (n w : ℕ) → 0 < w → w < 2 ^ n → FirstIn n w (count_trailing_zeros n w)
unfolding count_trailing_zeros
trailing_first zero w p h = absurd (omega arith)
trailing_first (suc n) w p h = go (w % 2) refl (λ q. trailing_first n (w / 2) q (half_lt w n h))
  where
    below : {t : ℕ} → w % 2 ≡ 0 → ((k : ℕ) → k < t → bit (w / 2) k ≡ 0) → (k : ℕ) → k < suc t → bit w k ≡ 0
    below e f zero l = bit_zero w ∙ e
    below e f (suc k) l = bit_suc w k ∙ f k (omega arith)

    go : (d : ℕ) → w % 2 ≡ d → (0 < w / 2 → FirstIn n (w / 2) (count_trailing_zeros n (w / 2))) → FirstIn (suc n) w (under d (count_trailing_zeros n (w / 2)))
    go zero e ih =
        let r = ih (omega arith) in (omega arith, bit_suc w _ ∙ r.1, below e r.2)
    go (suc d) e ih = (omega arith, bit_zero w ∙ omega arith, λ k l. absurd (omega arith))

pub bit_xor_lem : (x y k : ℕ) → bit (bit_xor x y) k ≡ differ (bit x k) (bit y k)
unfolding bit
bit_xor_lem x y k = ap (λ (z : ℕ). z % 2) (xor_shr x y k) ∙ xor_low (x / 2 ^ k) (y / 2 ^ k)

-- 1 << k
pub shl_one : (k : ℕ) → k < 64 → (1 * 2 ^ k) % 2 ^ 64 ≡ 2 ^ k
shl_one k h = shl_exact {a = 1} 1 k 64 (lit< tt) (omega arith) ∙ one-mul (2 ^ k)

-- (w >> k) & 1
pub test_bit : (w k : ℕ) → bit_and (w / 2 ^ k) 1 ≡ bit w k
unfolding bit
test_bit w k = and_mask (w / 2 ^ k) 1

-- a word is not 0 exactly if it has a member
pub some_on : (n w : ℕ) → 0 < w → w < 2 ^ n → Some n (On w)
some_on n w p h = let t = trailing_first n w p h in (count_trailing_zeros n w, t.0, t.1)

pub on_pos : (w k : ℕ) → On w k → 0 < w
unfolding bit
on_pos zero k h = let z = simp zero-div at h in omega arith
on_pos (suc w) k h = omega arith

-- w ^ (1 << v), of a v in w: v is out, and the others stay
pub out_same : (w v : ℕ) → On w v → bit (bit_xor w (2 ^ v)) v ≡ 0
out_same w v h = bit_xor_lem w (2 ^ v) v ∙ ap₂ differ h (bit_pow_same v)

pub out_other : (w v k : ℕ) → (k ≡ v → ⊥) → bit (bit_xor w (2 ^ v)) k ≡ bit w k
out_other w v k ne = bit_xor_lem w (2 ^ v) k ∙ ap (differ (bit w k)) (bit_pow_other v k ne) ∙ differ_zero (bit w k)

-- w - 1, where v is the least in w: v is out, and those above stay
pub less_same : (v w : ℕ) → On w v → ((k : ℕ) → k < v → bit w k ≡ 0) → bit (w - 1) v ≡ 0
less_same zero w h f = bit_zero (w - 1) ∙ omega (arith, sym (bit_zero w) ∙ h)
less_same (suc v) w h f =
    let even : w % 2 ≡ 0 = sym (bit_zero w) ∙ f 0 (omega arith) in
    let half : (w - 1) / 2 ≡ w / 2 - 1 = omega (arith, on_pos w (suc v) h) in
    bit_suc (w - 1) v ∙ ap (λ (x : ℕ). bit x v) half ∙ less_same v (w / 2) (sym (bit_suc w v) ∙ h) (λ k l. sym (bit_suc w k) ∙ f (suc k) (omega arith))

pub less_above : (v w j : ℕ) → On w v → ((k : ℕ) → k < v → bit w k ≡ 0) → v < j → bit (w - 1) j ≡ bit w j
less_above v w zero h f l = absurd (omega arith)
less_above zero w (suc j) h f l =
    let odd : w % 2 ≡ 1 = sym (bit_zero w) ∙ h in
    let half : (w - 1) / 2 ≡ w / 2 = omega arith in
    bit_suc (w - 1) j ∙ ap (λ (x : ℕ). bit x j) half ∙ sym (bit_suc w j)
less_above (suc v) w (suc j) h f l =
    let even : w % 2 ≡ 0 = sym (bit_zero w) ∙ f 0 (omega arith) in
    let half : (w - 1) / 2 ≡ w / 2 - 1 = omega (arith, on_pos w (suc v) h) in
    bit_suc (w - 1) j ∙ ap (λ (x : ℕ). bit x j) half ∙ less_above v (w / 2) j (sym (bit_suc w v) ∙ h) (λ k m. sym (bit_suc w k) ∙ f (suc k) (omega arith)) (omega arith)
    ∙ sym (bit_suc w j)

-- a set with v in it too
pub on_or : (x y k : ℕ) → On x k ⊎ On y k → On (bit_or x y) k
on_or x y k (inl h) = omega (arith, bit_or_lem x y k, bit_lt y k)
on_or x y k (inr h) = omega (arith, bit_or_lem x y k, bit_lt x k)

pub or_on : (x y k : ℕ) → On (bit_or x y) k → On x k ⊎ On y k
or_on x y k h = go (dec_on x k)
  where
    go : Dec (On x k) → On x k ⊎ On y k
    go (yes p) = inl p
    go (no q) = inr (omega (arith, bit_or_lem x y k, bit_lt x k, bit_lt y k))

pub on_and : (x y k : ℕ) → On x k → On y k → On (bit_and x y) k
on_and x y k p q = omega (arith, bit_and_lem x y k)

pub and_on : (x y k : ℕ) → On (bit_and x y) k → On x k × On y k
and_on x y k h = (omega (arith, bit_and_lem x y k, bit_lt x k, bit_lt y k), omega (arith, bit_and_lem x y k, bit_lt x k, bit_lt y k))

pub pow_on : (j k : ℕ) → On (2 ^ j) k → k ≡ j
pow_on j k h = go (ℕ_discrete k j)
  where
    go : Dec (k ≡ j) → k ≡ j
    go (yes e) = e
    go (no g) = absurd (omega (arith, bit_pow_other j k g))

-- the numbers below n, as a set
ones_half : (n : ℕ) → (2 ^ suc n - 1) / 2 ≡ 2 ^ n - 1
ones_half n = omega (arith, pow-suc 2 n, pow_pos n)

ones_odd : (n : ℕ) → (2 ^ suc n - 1) % 2 ≡ 1
ones_odd n = omega (arith, pow-suc 2 n, pow_pos n)

pub on_full : (n k : ℕ) → k < n → On (2 ^ n - 1) k
on_full zero k h = absurd (omega arith)
on_full (suc n) zero h = bit_zero (2 ^ suc n - 1) ∙ ones_odd n
on_full (suc n) (suc k) h = bit_suc (2 ^ suc n - 1) k ∙ ap (λ (x : ℕ). bit x k) (ones_half n) ∙ on_full n k (omega arith)

-- a member of a set below 2 ^ n is below n
pub on_lt : (n w k : ℕ) → w < 2 ^ n → On w k → k < n
on_lt zero w k h i = absurd (omega (arith, on_pos w k i))
on_lt (suc n) w zero h i = omega arith
on_lt (suc n) w (suc k) h i = let r = on_lt n (w / 2) k (half_lt w n h) (sym (bit_suc w k) ∙ i) in omega arith

-- the bits above are cut off
bit_low : (w k hi lo : ℕ) → k < w → bit (hi * 2 ^ w + lo) k ≡ bit lo k
bit_low zero k hi lo h = absurd (omega arith)
bit_low (suc w) zero hi lo h = bit_zero (hi * 2 ^ suc w + lo) ∙ block_odd hi w lo ∙ sym (bit_zero lo)
bit_low (suc w) (suc k) hi lo h =
    bit_suc (hi * 2 ^ suc w + lo) k ∙ ap (λ (x : ℕ). bit x k) (block_half hi w lo) ∙ bit_low w k hi (lo / 2) (omega arith) ∙ sym (bit_suc lo k)

pub bit_mod : (w n k : ℕ) → k < n → bit (w % 2 ^ n) k ≡ bit w k
bit_mod w n k h = sym (bit_low n k (w / 2 ^ n) (w % 2 ^ n) h) ∙ ap (λ (x : ℕ). bit x k) (div-add-mod' w (2 ^ n))

-- ---- the greatest member

on_top : (j w : ℕ) → 2 ^ j ≤ w → w < 2 ^ suc j → On w j
on_top zero w l h = bit_zero w ∙ omega arith
on_top (suc j) w l h = bit_suc w j ∙ on_top j (w / 2) (omega (arith, pow-suc 2 j)) (half_lt w (suc j) h)

pub leading_last : (n w : ℕ) → 0 < w → w < 2 ^ n → (j : ℕ) × (count_leading_zeros n w + suc j ≡ n) × On w j × ((k : ℕ) → On w k → k ≤ j)
leading_last n w p h =
    let (j, e, l, u) = leading_top n w p h in
    (j, e, on_top j w l u, λ k i. let b = on_lt (suc j) w k u i in omega arith)

-- 63 ^ x
pub mirror : (x : ℕ) → x < 64 → bit_xor 63 x + x ≡ 63
mirror x h = omega (arith, xor_add_and x 63, xor_comm x 63, and_mask x 6)
