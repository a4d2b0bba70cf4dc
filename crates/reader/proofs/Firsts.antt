-- The first entry of a run, case by case, for the loops that look for it; and the definitions of opening, branch by branch.
-- Assumes nothing.
use Prim.Native.Nat.{ℕ, zero, suc, ◌+◌, ◌*◌, ◌-◌, ◌≤◌, ◌<◌}
use mathlib.Core.Path.{◌≡◌, refl}
use mathlib.Core.List.{List}
use native.Mathlib.Decide.{dec_lt}
use native.Mathlib.Omega.{arith}
use borrow.Author.Tests.{le-leb, lt-leb}
use Rattle.std.specs.Prelude.{Some, None, Ok}
use Rattle.form.specs.Bytes.{num}
use Rattle.form.specs.Place.{view_start}
use Rattle.form.specs.Whole.{whole}
use Rattle.reader.specs.Entries.{Item, or_else, first_of, after, view_of, open_answer, open_part}
use Rattle.reader.specs.declared.Entry.{Entry}

-- the entry of section k at place p, of n bytes
abbrev pub found : ℕ → ℕ → ℕ → Item
found k p n = Some (record { section = k; at = p; len = n })

-- numbers i to e - 1 of a run, then t: what is left gives r
module _ (f : ℕ → Item) (t : Item) (i e : ℕ) (r : Item) (left : or_else (first_of f i (e - i)) t ≡ r) where
  pub first_none : e ≤ i → t ≡ r
  unfolding first_of
  first_none h = let z : e - i ≡ 0 = omega arith in rw z at left

  more : i < e → or_else (or_else (f i) (first_of f (i + 1) (e - (i + 1)))) t ≡ r
  unfolding first_of
  more h = let z : e - i ≡ suc (e - (i + 1)) = omega arith in rw z at left

  pub first_found : (x : Entry) → i < e → f i ≡ Some x → Some x ≡ r
  first_found x h q = rw q at (more h)

  pub first_next : i < e → f i ≡ None → or_else (first_of f (i + 1) (e - (i + 1))) t ≡ r
  first_next h q = rw q at (more h)

-- no number gives an entry
pub none_first : (f : ℕ → Item) (i m : ℕ) → ((j : ℕ) → i ≤ j → j < i + m → f j ≡ None) → first_of f i m ≡ None
unfolding first_of
none_first f i zero none = refl
none_first f i (suc m) none = rw (none i (omega arith) (omega arith)) (none_first f (i + 1) m (λ j h g. none j (omega arith) (omega arith)))

-- number b is the first that gives an entry
pub first_at : (f : ℕ → Item) (i m b : ℕ) (x : Entry) → i ≤ b → b < i + m → ((j : ℕ) → i ≤ j → j < b → f j ≡ None) → f b ≡ Some x → first_of f i m ≡ Some x
unfolding first_of
first_at f i zero b x h g none e = absurd (omega arith)
first_at f i (suc m) b x h g none e = go (dec_lt i b) (λ l. first_at f (i + 1) m b x l (omega arith) (λ j y z. none j (omega arith) z) e)
  where
    go : Dec (i < b) → (i + 1 ≤ b → first_of f (i + 1) m ≡ Some x) → or_else (f i) (first_of f (i + 1) m) ≡ Some x
    go (yes l) more = rw (none i (omega arith) l) (more (omega arith))
    go (no l) more = let z : b ≡ i = omega arith in rw (rw z at e) refl

-- an entry by its place
module _ (at : ℕ) (x : Entry) where
  pub passed : x.at < at → after at (Some x) ≡ None
  passed h = simp (lt-leb _ _ h)

  pub stays : at ≤ x.at → after at (Some x) ≡ Some x
  stays h = simp (le-leb _ _ h)

-- a loop over entries 0 to m - 1, which stand at P 0, P 1, ..: it is at number i and place a, no place grows by more than w,
-- and what is left gives the first entry at or after `at`
pub record Looking (f : ℕ → Item) (P : ℕ → ℕ) (w at m i a : ℕ) (r : Item) : Type 0 where
  pub upto : i ≤ m
  pub here : a ≡ P i
  pub small : a ≤ 8000000 + i * w
  pub left : or_else (first_of (λ j. after at (f j)) i (m - i)) None ≡ r

or_none : (x : Item) → or_else x None ≡ x
or_none (Some e) = refl
or_none None = refl

pub looking : (f : ℕ → Item) (P : ℕ → ℕ) (w at m n a : ℕ) → a ≡ P 0 → a ≤ 8000000 → m ≡ n → Looking f P w at m 0 a (first_of (λ j. after at (f j)) 0 n)
looking f P w at m n a e h q =
    let z : m - 0 ≡ n = omega arith in
    record { upto = omega arith; here = e; small = omega arith; left = rw z (or_none _) }

module _ {f : ℕ → Item} {P : ℕ → ℕ} {w at m i a : ℕ} {r : Item} (l : Looking f P w at m i a r) where
  pub look_none : m ≤ i → None ≡ r
  look_none h = first_none _ _ _ _ _ l.left h

  module _ (k n : ℕ) (is : f i ≡ found k a n) (h : i < m) where
    pub look_found : at ≤ a → found k a n ≡ r
    look_found g = first_found _ _ _ _ _ l.left _ h (rw is (stays _ _ g))

    pub look_next : (b : ℕ) → a < at → b ≡ P (i + 1) → b ≤ a + w → Looking f P w at m (i + 1) b r
    look_next b g e s = let t = l.small in record { upto = omega arith; here = e; small = omega arith; left = first_next _ _ _ _ _ l.left h (rw is (passed _ _ g)) }

-- a view, as the loop meets it
pub view_is : (s : List ℕ) (p at n : ℕ) → at ≡ view_start s p → n ≡ num 2 s at → view_of s p ≡ found 9 at (2 + n)
unfolding view_of
view_is s p at n e w = cc

module _ (s : List ℕ) where
  pub open_right : (z : ℕ) → whole s ≡ Ok z → (0 ≡ open_answer s) × (s ≡ open_part s)
  unfolding open_answer open_part
  open_right z e = (simp e, simp e)
