-- Entries seen to be right, one after the other.
use Prim.Native.Nat.{ℕ, zero, suc, ◌+◌, ◌*◌, ◌/◌, ◌<◌, ◌≤◌}
use mathlib.Core.Path.{◌≡◌, sym, ap, ◌∙◌, subst}
use mathlib.Core.Logic.{◌⊎◌, inl, inr}
use mathlib.Core.List.{List}
use mathlib.Core.Bool.{Bool, true, ◌&&◌}
use native.Mathlib.Omega.{arith}
use native.Mathlib.Decide.{dec_lt}
use native.Mathlib.Nat.{mul_comm, zero-mul, suc-mul, mul-suc, add-zero, mul-one, add_assoc, mul-le-mul_left}
use native.Mathlib.Numerals.{add-one}
use lib.ListN.{length, get_or}
use borrow.Author.Tests.{le-leb}
use Rattle.std.specs.Prelude.{Ok}
use Rattle.form.specs.Bytes.{num}
use Rattle.form.specs.Steps.{upto}
use Rattle.form.specs.Form.{Section, width, due, fields, fields_from, entry, entries}
use Rattle.form.specs.Seen.{Leading, FieldsRight, Seen}
use Rattle.form.specs.declared.Counts.{Counts}
use Rattle.form.proofs.Flags.{both}
use Rattle.form.proofs.Numbers.{num_one}
use Rattle.form.proofs.Rights.{fields_end, sizes_width, entry_well}
use Rattle.form.proofs.Runs.{upto_next}
use Rattle.form.proofs.Branches.{pair_right, one_right, row_pair, row_locked, row_one}

-- bytes
module _ (s : List ℕ) (at m : ℕ) where
  -- the first i of them are at most w
  pub record Topped (w i : ℕ) : Type 0 where
    pub most : i ≤ m
    pub small : w < 256
    pub low : (j : ℕ) → j < i → num 1 s (at + j) ≤ w

  pub topped_more : (w v i : ℕ) → Topped w i → i < m → v < 256 → w ≤ v → get_or s (at + i) 0 ≤ v → Topped v (i + 1)
  topped_more w v i p l b g h = record { most = omega arith; small = b; low = λ j d. go j d (dec_lt j i) }
    where
      go : (j : ℕ) → j < i + 1 → Dec (j < i) → num 1 s (at + j) ≤ v
      go j d (yes q) = let e = p.low j q in omega arith
      go j d (no q) = let e : j ≡ i = omega arith in rw (e, num_one) h

module _ (c : Counts) (s : List ℕ) (k at m : ℕ) where
  pub seen_none : Seen c s k m at 0
  seen_none = record { most = omega arith; right = λ j h. absurd (omega arith) }

  pub seen_more : (i : ℕ) → Seen c s k m at i → i < m → entry c s k (at + i * width k) ≡ Ok (at + (i + 1) * width k) → Seen c s k m at (i + 1)
  seen_more i p l e = record { most = omega arith; right = λ j g. go j g (dec_lt j i) }
    where
      go : (j : ℕ) → j < i + 1 → Dec (j < i) → entry c s k (at + j * width k) ≡ Ok (at + (j + 1) * width k)
      go j g (yes d) = p.right j d
      go j g (no d) = let q : j ≡ i = omega arith in rw q e

  -- the first i are right where the flag `a` says so
  pub record Flagged (a : Bool) (i : ℕ) : Type 0 where
    pub most : i ≤ m
    pub right : a ≡ true → Seen c s k m at i

  pub flagged_more : (a b : Bool) (i : ℕ) → Flagged a i → i < m → (b ≡ true → Seen c s k m at i → Seen c s k m at (i + 1)) → Flagged (a && b) (i + 1)
  flagged_more a b i p l f = record { most = omega arith; right = λ h. let (x, y) = both a b h in f y (p.right x) }

  -- an entry that is there whole and whose fields are right
  pub right_entry : Section k → (a z : ℕ) → a + width k ≤ length s → fields_from k (fields c s k a) a ≡ Ok z → entry c s k a ≡ Ok (a + width k)
  unfolding entry due
  right_entry sec a z h e =
      let f = fields_end k (fields c s k a) a z e in
      let g = sizes_width c s k a sec in
      let q : z ≡ a + width k = omega arith in
      simp (le-leb _ _ h) (e ∙ ap Ok q)

  next_place : (i : ℕ) → at + i * width k + width k ≡ at + (i + 1) * width k
  next_place i = simp (add-one, suc-mul, add_assoc)

  pub seen_entry : Section k → (i z : ℕ) → at + i * width k + width k ≤ length s
      → fields_from k (fields c s k (at + i * width k)) (at + i * width k) ≡ Ok z → entry c s k (at + i * width k) ≡ Ok (at + (i + 1) * width k)
  seen_entry sec i z h e = right_entry sec (at + i * width k) z h e ∙ ap Ok (next_place i)

  -- what is seen ends within the record
  pub seen_fits : Section k → at ≤ length s → (i : ℕ) → Seen c s k m at i → at + i * width k ≤ length s
  seen_fits sec h zero p = let z : zero * width k ≡ 0 = zero-mul _ in omega arith
  seen_fits sec h (suc i) p =
      let w = (entry_well c s k _ _ sec (p.right i (omega arith))).0 in
      let q : suc i * width k ≡ i * width k + width k = suc-mul _ _ in
      omega arith

  -- reading goes on after what is seen
  pub seen_on : (i : ℕ) → Seen c s k m at i → upto (λ j b. entry c s k b) i m (at + i * width k) ≡ entries c s k m at
  unfolding entries
  seen_on zero p = let z : at + zero * width k ≡ at = ap (λ (x : ℕ). at + x) (zero-mul _) ∙ add-zero at in rw z
  seen_on (suc i) p =
      let q : Seen c s k m at i = record { most = let h = p.most in omega arith; right = λ j h. p.right j (omega arith) } in
      let l = p.most in
      rw (sym (add-one i)) (upto_next _ i m _ _ (seen_on i q) _ (omega arith) (p.right i (omega arith)))

-- entry i of m entries of w bytes ends within them
pub next_within : (w i m : ℕ) → i < m → w * i + w ≤ w * m
next_within w i m l =
    let n : w * suc i ≤ w * m = mul-le-mul_left w (omega arith) in
    let o : w * suc i ≡ w * i + w = mul-suc w i in
    omega arith

-- one more entry, of w bytes, whose fields are right
pub seen_next : (c : Counts) (s : List ℕ) (k at m i w : ℕ) → Section k → w ≡ width k → Seen c s k m at i → i < m
    → at + w * i + w ≤ length s → FieldsRight c s k (at + w * i) → Seen c s k m at (i + 1)
seen_next c s k at m i w sec wide p l f e =
    let q : w * i ≡ i * width k = mul_comm w i ∙ ap (λ (x : ℕ). i * x) wide in
    seen_more c s k at m i p l (seen_entry c s k at m sec i _ (omega arith) (rw q at (sym e)))

one_wide : (k : ℕ) → (k ≡ 6) ⊎ (k ≡ 9) → 1 ≡ width k
unfolding width
one_wide k (inl e) = rw e
one_wide k (inr e) = rw e

lock_wide : (k : ℕ) → k ≡ 7 → 1 ≡ width k
unfolding width
lock_wide k e = rw e

two_wide : (k : ℕ) → (k ≡ 3) ⊎ (k ≡ 8) → 2 ≡ width k
unfolding width
two_wide k (inl e) = rw e
two_wide k (inr e) = rw e

-- entries of one number, and of two
module _ (c : Counts) (s : List ℕ) (k at m : ℕ) (sec : Section k) where
  ones : (n : ℕ) → 1 ≡ width k → ((a : ℕ) → num 1 s a < n → Ok (a + 1) ≡ fields_from k (fields c s k a) a) → (r : ℕ) → Leading s n at m r → Seen c s k m at r
  ones n w g r p = record { most = p.most; right = λ j h. go j h }
    where
      go : (j : ℕ) → j < r → entry c s k (at + j * width k) ≡ Ok (at + (j + 1) * width k)
      go j h =
          let q : j ≡ j * width k = sym (mul-one j) ∙ ap (λ (x : ℕ). j * x) w in
          let a = p.low j h in
          let f = a.0 in
          seen_entry c s k at m sec j (at + j * width k + 1) (omega arith) (rw q at (sym (g (at + j) a.1)))

  pub seen_numbers : (k ≡ 6) ⊎ (k ≡ 9) → (r : ℕ) → Leading s c.events at m r → Seen c s k m at r
  seen_numbers d = ones c.events (one_wide k d) (λ a h. row_one c s k a d _ (one_right c.events k s a h))

  pub seen_locks : k ≡ 7 → (r : ℕ) → Leading s c.locks at m r → Seen c s k m at r
  seen_locks d = ones c.locks (lock_wide k d) (λ a h. row_locked c s k a d _ (one_right c.locks k s a h))

  pub seen_pairs : (k ≡ 3) ⊎ (k ≡ 8) → (r : ℕ) → Leading s c.events at (2 * m) r → Seen c s k m at (r / 2)
  seen_pairs d r p = record { most = let h = p.most in omega arith; right = λ j h. go j h }
    where
      go : (j : ℕ) → j < r / 2 → entry c s k (at + j * width k) ≡ Ok (at + (j + 1) * width k)
      go j h =
          let q : 2 * j ≡ j * width k = mul_comm 2 j ∙ ap (λ (x : ℕ). j * x) (two_wide k d) in
          let a = p.low (2 * j) (omega arith) in
          let b = p.low (2 * j + 1) (omega arith) in
          let g = b.0 in
          let w = two_wide k d in
          let y = subst (λ (x : ℕ). num 1 s x < c.events) (sym (add_assoc at (2 * j) 1)) b.1 in
          seen_entry c s k at m sec j (at + j * width k + 2) (omega arith) (rw q at (sym (row_pair c s k (at + 2 * j) d _ (pair_right c s (at + 2 * j) k a.1 y))))
