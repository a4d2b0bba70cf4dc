-- No entry hides another: read at its own place, each entry is the one that is given, whatever the bytes; and none is given that stands before the place.
-- Assumes nothing.
use Prim.Native.Nat.{ℕ, zero, suc, ◌+◌, ◌-◌, ◌≤◌, ◌<◌}
use mathlib.Core.Path.{◌≡◌, refl}
use mathlib.Core.List.{List}
use mathlib.Core.Bool.{Bool, true, false}
use native.Mathlib.Nat.{add-zero, mul-lt-mul_of_pos_right, le_refl}
use native.Mathlib.Omega.{arith}
use lib.Dec.{leb}
use borrow.Author.Tests.{leb-true}
use Rattle.std.specs.Prelude.{Some, None}
use Rattle.form.specs.Bytes.{num}
use Rattle.form.specs.Form.{width}
use Rattle.form.specs.Place.{start, count, entry_at, view_start}
use Rattle.form.specs.Steps.{pick}
use Rattle.form.proofs.Starts.{start_more, view_start_next}
use Rattle.reader.specs.Entries.{Item, or_else, first_of, after, entry_of, view_of, entry_from, view_from, item_at}
use Rattle.reader.proofs.Firsts.{none_first, first_at, passed, stays}
use Rattle.reader.proofs.Spaced.{width_pos}

-- ---- places
module _ (s : List ℕ) where
  start_less : (k : ℕ) → 2 ≤ k → start s k + 2 ≤ start s (k + 1)
  start_less k h = let e = start_more s k h in omega arith

  start_up : (k m : ℕ) → 2 ≤ k → start s k ≤ start s (k + m)
  start_up k zero h = rw add-zero (le_refl _)
  start_up k (suc m) h =
      let a = start_up k m h in
      let b = start_less (k + m) (omega arith) in
      let e : k + suc m ≡ k + m + 1 = omega arith in
      rw e (omega arith)

  starts : (j k : ℕ) → 2 ≤ j → j < k → start s (j + 1) ≤ start s k
  starts j k h g =
      let e : k ≡ j + 1 + (k - (j + 1)) = omega arith in
      rw e (start_up (j + 1) (k - (j + 1)) (omega arith))

  entry_less : (k i j : ℕ) → 0 < width k → i < j → entry_at s k i < entry_at s k j
  unfolding entry_at
  entry_less k i j w h = let e = mul-lt-mul_of_pos_right {k = width k} h w in omega arith

  -- an entry of section k stands before the next section
  entry_within : (k i : ℕ) → 2 ≤ k → 0 < width k → i < count s k → entry_at s k i < start s (k + 1)
  unfolding entry_at count
  entry_within k i g w h =
      let e = mul-lt-mul_of_pos_right {k = width k} h w in
      let f = start_more s k g in
      omega arith

  view_up : (p m : ℕ) → view_start s p + m ≤ view_start s (p + m)
  view_up p zero = rw (add-zero p, add-zero (view_start s p)) (le_refl _)
  view_up p (suc m) =
      let a = view_up p m in
      let b = view_start_next s (p + m) in
      let e : p + suc m ≡ p + m + 1 = omega arith in
      rw e (omega arith)

  view_less : (p q : ℕ) → p < q → view_start s p < view_start s q
  view_less p q h =
      let e : q ≡ p + (q - p) = omega arith in
      let v = view_up p (q - p) in
      rw e (omega arith)

  -- from the next section on, none of section k is given
  pub section_passed : (k at : ℕ) → 2 ≤ k → k < 9 → start s (k + 1) ≤ at → entry_from s at k ≡ None
  unfolding entry_from entry_of
  section_passed k at g l h =
      none_first (λ i. after at (entry_of s k i)) 0 (count s k)
      (λ i a b. let e = entry_within k i g (width_pos k g l) (omega arith) in passed at _ (omega arith))

  module _ (k i : ℕ) (g : 2 ≤ k) (l : k < 9) (h : i < count s k) where
    entry_found : entry_from s (entry_at s k i) k ≡ entry_of s k i
    unfolding entry_from entry_of
    entry_found =
        first_at (λ j. after (entry_at s k i) (entry_of s k j)) 0 (count s k) i _ (omega arith) (omega arith)
        (λ j a b. passed _ _ (entry_less k j i (width_pos k g l) b)) (stays _ _ (le_refl _))

    before_entry : (j : ℕ) → j < k → 2 ≤ j → start s (j + 1) ≤ entry_at s k i
    unfolding entry_at
    before_entry j b a = let e = starts j k a b in omega arith

    section_found : first_of (entry_from s (entry_at s k i)) 2 7 ≡ entry_of s k i
    unfolding entry_of
    section_found = first_at (entry_from s (entry_at s k i)) 2 7 k _ g (omega arith) (λ j a b. section_passed j _ a (omega arith) (before_entry j b a)) entry_found

    pub entry_read : item_at s (entry_at s k i) ≡ entry_of s k i
    unfolding item_at entry_of
    entry_read = rw section_found refl

  before_view : (p j : ℕ) → j < 9 → 2 ≤ j → start s (j + 1) ≤ view_start s p
  unfolding view_start
  before_view p j b a =
      let e = starts j 9 a b in
      let z : 0 + p ≡ p = omega arith in
      let v : start s 9 + 2 + p ≤ view_start s p = rw z at (view_up 0 p) in
      omega arith

  view_found : (p : ℕ) → p < num 1 s 1 → view_from s (view_start s p) ≡ view_of s p
  unfolding view_from view_of
  view_found p h =
      first_at (λ q. after (view_start s p) (view_of s q)) 0 (num 1 s 1) p _ (omega arith) (omega arith)
      (λ q a b. passed _ _ (view_less q p b)) (stays _ _ (le_refl _))

  pub view_read : (p : ℕ) → p < num 1 s 1 → item_at s (view_start s p) ≡ view_of s p
  unfolding item_at
  view_read p h =
      let e = none_first (entry_from s (view_start s p)) 2 7 (λ k a b. section_passed k _ a (omega arith) (before_view p k (omega arith) a)) in
      rw e (view_found p h)

-- ---- never an entry before the place
abbrev pub Past : ℕ → Item → Type 0
Past at (Some e) = at ≤ e.at
Past at None = Unit {0}

module _ (at : ℕ) where
  past_else : (x y : Item) → Past at x → Past at y → Past at (or_else x y)
  past_else (Some e) y h g = h
  past_else None y h g = g

  past_first : (f : ℕ → Item) → ((j : ℕ) → Past at (f j)) → (i m : ℕ) → Past at (first_of f i m)
  unfolding first_of
  past_first f h i zero = tt
  past_first f h i (suc m) = past_else (f i) _ (h i) (past_first f h (i + 1) m)

  past_after : (x : Item) → Past at (after at x)
  past_after (Some e) = go (leb at e.at) refl
    where
      go : (b : Bool) → leb at e.at ≡ b → Past at (pick b (Some e) None)
      go true q = leb-true _ _ q
      go false q = tt
  past_after None = tt

  module _ (s : List ℕ) where
    past_entry : (k : ℕ) → Past at (entry_from s at k)
    unfolding entry_from
    past_entry k = past_first (λ i. after at (entry_of s k i)) (λ i. past_after (entry_of s k i)) 0 (count s k)

    past_view : Past at (view_from s at)
    unfolding view_from
    past_view = past_first (λ p. after at (view_of s p)) (λ p. past_after (view_of s p)) 0 (num 1 s 1)

    pub never_before : Past at (item_at s at)
    unfolding item_at
    never_before = past_else (first_of (entry_from s at) 2 7) (view_from s at) (past_first (entry_from s at) past_entry 2 7) past_view
