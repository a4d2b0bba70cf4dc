-- Bytes and digits that are written behind one another, and how long a number's text is at most.
use Prim.Native.Nat.{ℕ, zero, suc, ◌+◌, ◌*◌, ◌/◌, ◌%◌, ◌<◌, ◌≤◌}
use mathlib.Core.Path.{◌≡◌, refl, ap, ◌∙◌}
use mathlib.Core.Bool.{Bool, true, false}
use mathlib.Core.List.{List, [], ◌∷◌, ◌++◌, append_assoc, append-nil}
use native.Mathlib.Omega.{arith}
use native.Mathlib.Numerals.{add-one}
use borrow.Author.Tests.{lt-ltb, le-ltb}
use lib.Dec.{ltb}
use lib.ListN.{length, take, set, get_or, length-append, length-set}
use lib.Seq.{length-take-le, take-suc}
use Rattle.lent.specs.Put.{PutTo}
use Rattle.lent.proofs.Puts.{put_nothing, put_next, put_then, put_length}
use Rattle.listing.specs.Text.{digit_by, digit_at, decimal, spaced}

pub to_then : (b m c x y : List ℕ) (at z k : ℕ) → PutTo b at x m z → PutTo m z y c k → PutTo b at (x ++ y) c k
to_then b m c x y at z k (p, e) (q, f) = (put_then b m c x y at z p q e, omega (arith, length-append x y))

pub to_byte : (b : List ℕ) (at x : ℕ) → at < length b → PutTo b at (x ∷ []) (set b at x) (at + 1)
to_byte b at x h = (put_next b b [] at at x (put_nothing b at (omega arith)) (omega arith) h, refl)

module _ (b : List ℕ) (at p x : ℕ) where
  pub digit_none : x < p → at < length b → PutTo b at (digit_at p x) b at
  digit_none l h = rw (lt-ltb x p l) (put_nothing b at (omega arith), omega arith)

  pub digit_put : p ≤ x → at < length b → PutTo b at (digit_at p x) (set b at (48 + x / p % 10)) (at + 1)
  digit_put l h = rw (le-ltb x p l) (to_byte b at (48 + x / p % 10) h)

digit_by_lem : (t : Bool) (p x : ℕ) → length (digit_by t p x) ≤ 1
digit_by_lem true p x = omega arith
digit_by_lem false p x = omega arith

pub digit_length : (p x : ℕ) → length (digit_at p x) ≤ 1
digit_length p x = digit_by_lem (ltb x p) p x

-- the digits of x at the powers of ten of a list
unfoldable pub digits : List ℕ → ℕ → List ℕ
digits [] x = []
digits (p ∷ l) x = digit_at p x ++ digits l x

digits_length : (l : List ℕ) (x : ℕ) → length (digits l x) ≤ length l
unfolding digits
digits_length [] x = omega arith
digits_length (p ∷ l) x = omega (arith, length-append (digit_at p x) (digits l x), digit_length p x, digits_length l x)

digits_more : (l : List ℕ) (p x : ℕ) → digits (l ++ p ∷ []) x ≡ digits l x ++ digit_at p x
unfolding digits
digits_more [] p x = append-nil (digit_at p x)
digits_more (q ∷ l) p x = rw (digits_more l p x) (simp append_assoc)

pub digits_next : (b m n l : List ℕ) (at z k i x : ℕ) → i < length l
    → PutTo b at (digits (take i l) x) m z → PutTo m z (digit_at (get_or l i 0) x) n k → PutTo b at (digits (take (i + 1) l) x) n k
digits_next b m n l at z k i x h p q = rw (add-one i, take-suc l i 0 h, digits_more (take i l) (get_or l i 0) x) (to_then b m n _ _ at z k p q)

pub digits_none : (b : List ℕ) (at x : ℕ) → at ≤ length b → PutTo b at (digits [] x) b at
unfolding digits
digits_none b at x h = (put_nothing b at h, omega arith)

abbrev pub powers : List ℕ
powers = 10000 ∷ 1000 ∷ 100 ∷ 10 ∷ []

pub powers_above : (i : ℕ) → i < 4 → 0 < get_or powers i 0
powers_above zero h = omega arith
powers_above (suc zero) h = omega arith
powers_above (suc (suc zero)) h = omega arith
powers_above (suc (suc (suc zero))) h = omega arith
powers_above (suc (suc (suc (suc i)))) h = absurd (omega arith)

pub digits_upto : (i x : ℕ) → i ≤ 4 → length (digits (take i powers) x) ≤ i
digits_upto i x h = omega (arith, digits_length (take i powers) x, length-take-le i powers h)

pub decimal_digits : (x : ℕ) → decimal x ≡ digits powers x ++ ((48 + x % 10) ∷ [])
unfolding decimal digits
decimal_digits x = simp append_assoc

pub decimal_length : (x : ℕ) → length (decimal x) ≤ 5
decimal_length x =
    let n = ap length (decimal_digits x) in
    omega (arith, length-append (digits powers x) ((48 + x % 10) ∷ []), digits_length powers x)

-- the place is at most j bytes behind `at`, in a buffer as long as b
pub record Room (b : List ℕ) (at j : ℕ) (m : List ℕ) (z : ℕ) : Type 0 where
  pub upto : z ≤ at + j
  pub same : length m ≡ length b

pub room_none : (b : List ℕ) (at : ℕ) → Room b at 0 b at
room_none b at = record { upto = omega arith; same = refl }

pub room_byte : (b : List ℕ) (at x : ℕ) → Room b at 1 (set b at x) (at + 1)
room_byte b at x = record { upto = omega arith; same = length-set b at x }

module _ {b m n : List ℕ} {at j z k : ℕ} where
  -- at most d bytes more
  pub room_then : (w : List ℕ) (d : ℕ) → length w ≤ d → Room b at j m z → PutTo m z w n k → Room b at (j + d) n k
  room_then w d h r (q, e) = record { upto = omega arith; same = put_length m n w z q ∙ r.same }

  pub room_digit : (p x : ℕ) → Room b at j m z → PutTo m z (digit_at p x) n k → Room b at (j + 1) n k
  room_digit p x r q = room_then (digit_at p x) 1 (digit_length p x) r q

pub spaced_length : (l : List ℕ) → length (spaced l) ≤ 6 * length l
unfolding spaced
spaced_length [] = omega arith
spaced_length (x ∷ l) = omega (arith, length-append (32 ∷ decimal x) (spaced l), decimal_length x, spaced_length l)

module _ {b m n : List ℕ} {at j z k : ℕ} where
  pub room_number : (x : ℕ) → Room b at j m z → PutTo m z (32 ∷ decimal x) n k → Room b at (j + 6) n k
  room_number x r q = room_then (32 ∷ decimal x) 6 (omega (arith, decimal_length x)) r q

  pub room_numbers : (l : List ℕ) (i : ℕ) → i ≤ length l → Room b at j m z → PutTo m z (spaced (take i l)) n k → Room b at (j + 6 * i) n k
  room_numbers l i h r q = room_then (spaced (take i l)) (6 * i) (omega (arith, spaced_length (take i l), length-take-le i l h)) r q

spaced_more : (l : List ℕ) (x : ℕ) → spaced (l ++ x ∷ []) ≡ spaced l ++ (32 ∷ decimal x)
unfolding spaced
spaced_more [] x = append-nil (32 ∷ decimal x)
spaced_more (y ∷ l) x = rw (spaced_more l x) (simp append_assoc)

pub numbers_next : (b m n l : List ℕ) (at z k i : ℕ) → i < length l
    → PutTo b at (spaced (take i l)) m z → PutTo m z (32 ∷ decimal (get_or l i 0)) n k → PutTo b at (spaced (take (i + 1) l)) n k
numbers_next b m n l at z k i h p q = rw (add-one i, take-suc l i 0 h, spaced_more (take i l) (get_or l i 0)) (to_then b m n _ _ at z k p q)
