-- A section that is written into a list of bytes reads back.
use Prim.Native.Nat.{ℕ, zero, suc, ◌+◌, ◌*◌, ◌/◌, ◌<◌, ◌≤◌}
use mathlib.Core.Path.{◌≡◌, refl, sym, ap, ap₂, ◌∙◌}
use mathlib.Core.Logic.{◌⊎◌, inl, inr}
use mathlib.Core.List.{List, [], ◌∷◌, ◌++◌}
use native.Mathlib.Omega.{arith}
use native.Mathlib.Nat.{add-zero, add_assoc, mul_comm, mul-one}
use lib.ListN.{length, get_or, length-append, get_or-append}
use lib.Seq.{get_or-append-add}
use Rattle.form.specs.Bytes.{num, two_bytes, counted}
use Rattle.form.specs.Form.{Section, width, limit}
use Rattle.form.specs.Right.{Block}
use Rattle.form.specs.Seen.{Leading, Seen}
use Rattle.form.specs.declared.Counts.{Counts}
use Rattle.form.proofs.Numbers.{num_one, num_two}
use Rattle.form.proofs.Rights.{section_of_lem}
use Rattle.form.proofs.Seeing.{seen_numbers, seen_locks, seen_pairs}
use Rattle.record.specs.Execution.{Pair}
use Rattle.record.specs.Formed.{PairFormed}
use Rattle.record.specs.Says.{pair_at}
use Rattle.readoff.specs.Bytes.{pairs}

-- a byte of b, where b stands
byte_back : (a b w : List ℕ) (i : ℕ) → i < length b → num 1 (a ++ (b ++ w)) (length a + i) ≡ get_or b i 0
byte_back a b w i h = num_one _ _ ∙ get_or-append-add a (b ++ w) i 0 ∙ get_or-append b w 0 i h

pub count_back : (a w : List ℕ) (n : ℕ) → n < 65536 → num 2 (a ++ (two_bytes n ++ w)) (length a) ≡ n
count_back a w n h =
    let x = rw add-zero at (byte_back a (two_bytes n) w 0 (omega arith)) in
    let y = byte_back a (two_bytes n) w 1 (omega arith) in
    let e = num_two (a ++ (two_bytes n ++ w)) (length a) in
    omega arith

-- a count, then bytes
module _ (a b w : List ℕ) (m : ℕ) where
  abbrev whole : List ℕ
  whole = a ++ ((two_bytes m ++ b) ++ w)

  behind_count : (i : ℕ) → i < length b → num 1 whole (length a + 2 + i) ≡ get_or b i 0
  behind_count i h =
      let e : length a + 2 + i ≡ length a + suc (suc i) = omega arith in
      rw e (byte_back a (two_bytes m ++ b) w (suc (suc i)) (omega arith))

  fits : length a + 2 + length b ≤ length whole
  fits = omega (arith, length-append a ((two_bytes m ++ b) ++ w), length-append (two_bytes m ++ b) w)

  leading : (n : ℕ) → ((i : ℕ) → i < length b → get_or b i 0 < n) → Leading whole n (length a + 2) (length b) (length b)
  leading n f = record { most = omega arith; low = λ j h. (omega (arith, fits), rw (behind_count j h) (f j h)) }

  block : (c : Counts) (k : ℕ) → m < 65536 → m ≤ limit k → length b ≡ m * width k → Seen c whole k m (length a + 2) m
      → Block c whole k (length a) (length a + 2 + length b)
  block c k h g e s =
      let q : num 2 whole (length a) ≡ m = count_back a (b ++ w) m h in
      record { within = rw q g; ends = rw (q, e); fits = fits; each = rw q s.right }

-- ---- one-byte numbers

pub counted_item : (a l w : List ℕ) (i : ℕ) → i < length l → num 1 (a ++ (counted l ++ w)) (length a + 2 + i) ≡ get_or l i 0
counted_item a l w i h = behind_count a l w (length l) i h

one_table : (k : ℕ) → (k ≡ 6) ⊎ (k ≡ 9) → (limit k ≡ 64) × (1 ≡ width k) × Section k
unfolding limit width
one_table k (inl e) = (rw e, rw e, section_of_lem k (omega arith) (omega arith))
one_table k (inr e) = (rw e, rw e, section_of_lem k (omega arith) (omega arith))

-- sections 6 and 9: events
pub counted_block : (c : Counts) (k : ℕ) → (k ≡ 6) ⊎ (k ≡ 9) → (a l w : List ℕ) → length l ≤ 64
    → ((i : ℕ) → i < length l → get_or l i 0 < c.events) → Block c (a ++ (counted l ++ w)) k (length a) (length a + 2 + length l)
counted_block c k d a l w h f =
    let (x, y, s) = one_table k d in
    block a l w (length l) c k (omega arith) (omega arith) (sym (mul-one _) ∙ ap (λ (n : ℕ). length l * n) y)
    (seen_numbers c _ k _ _ s d _ (leading a l w (length l) c.events f))

-- section 7: locked entries
pub locks_block : (c : Counts) (a l w : List ℕ) → length l ≤ 16
    → ((i : ℕ) → i < length l → get_or l i 0 < c.locks) → Block c (a ++ (counted l ++ w)) 7 (length a) (length a + 2 + length l)
unfolding limit width
locks_block c a l w h f =
    block a l w (length l) c 7 (omega arith) h (sym (mul-one _))
    (seen_locks c _ 7 _ _ (section_of_lem 7 (omega arith) (omega arith)) refl _ (leading a l w (length l) c.locks f))

-- ---- pairs

abbrev pub none : Pair
none = record { from = 0; to = 0 }

pub pairs_length : (l : List Pair) → length (pairs l) ≡ 2 * length l
unfolding pairs
pairs_length [] = refl
pairs_length (p ∷ l) = let e = pairs_length l in omega arith

pair_bytes : (l : List Pair) (i : ℕ) → i < length l
    → (get_or (pairs l) (i * 2) 0 ≡ (get_or l i none).from) × (get_or (pairs l) (i * 2 + 1) 0 ≡ (get_or l i none).to)
unfolding pairs
pair_bytes [] i h = absurd (omega arith)
pair_bytes (p ∷ l) zero h = (refl, refl)
pair_bytes (p ∷ l) (suc i) h =
    let (x, y) = pair_bytes l i (omega arith) in
    let e : suc i * 2 ≡ suc (suc (i * 2)) = omega arith in
    let f : suc i * 2 + 1 ≡ suc (suc (i * 2 + 1)) = omega arith in
    (rw e x, rw f y)

pairs_low : (n : ℕ) (l : List Pair) → ((i : ℕ) → i < length l → PairFormed n (get_or l i none))
    → (j : ℕ) → j < length (pairs l) → get_or (pairs l) j 0 < n
unfolding pairs
pairs_low n [] f j h = absurd (omega arith)
pairs_low n (p ∷ l) f zero h = (f 0 (omega arith)).0
pairs_low n (p ∷ l) f (suc zero) h = (f 0 (omega arith)).1
pairs_low n (p ∷ l) f (suc (suc j)) h = pairs_low n l (λ i g. f (suc i) (omega arith)) j (omega arith)

pub pairs_item : (a w : List ℕ) (l : List Pair) (i : ℕ) → i < length l
    → pair_at (a ++ ((two_bytes (length l) ++ pairs l) ++ w)) (length a + 2 + i * 2) ≡ get_or l i none
pairs_item a w l i h =
    let n = pairs_length l in
    let (x, y) = pair_bytes l i h in
    let u = behind_count a (pairs l) w (length l) (i * 2) (omega arith) in
    let v = rw (← add_assoc) at (behind_count a (pairs l) w (length l) (i * 2 + 1) (omega arith)) in
    ap₂ (λ (p q : ℕ). record { from = p; to = q }) (u ∙ x) (v ∙ y)

-- section 8
pub pairs_block : (c : Counts) (a w : List ℕ) (l : List Pair) → length l ≤ 64 → ((i : ℕ) → i < length l → PairFormed c.events (get_or l i none))
    → Block c (a ++ ((two_bytes (length l) ++ pairs l) ++ w)) 8 (length a) (length a + 2 + 2 * length l)
unfolding limit width
pairs_block c a w l h f =
    let n = pairs_length l in
    let e : 2 * length l / 2 ≡ length l = omega arith in
    let s = seen_pairs c _ 8 _ (length l) (section_of_lem 8 (omega arith) (omega arith)) (inr refl) _
    (rw n at (leading a (pairs l) w (length l) c.events (pairs_low c.events l f))) in
    rw n at (block a (pairs l) w (length l) c 8 (omega arith) h (n ∙ mul_comm 2 (length l)) (rw e at s))
