-- The walk over sections 2 to 8: where it stands, and what is left of it.
-- Assumes nothing.
use Prim.Native.Nat.{ℕ, ◌+◌, ◌*◌, ◌-◌, ◌≤◌, ◌<◌}
use mathlib.Core.Path.{◌≡◌, refl}
use mathlib.Core.List.{List}
use native.Mathlib.Omega.{arith}
use Rattle.std.specs.Prelude.{None}
use Rattle.form.specs.Bytes.{num}
use Rattle.form.specs.Form.{width}
use Rattle.form.specs.Place.{start}
use Rattle.form.proofs.Starts.{start_more}
use Rattle.reader.specs.Entries.{or_else, first_of, entry_from, view_from, item_at}
use Rattle.reader.proofs.Firsts.{found, first_none, first_found, first_next}
use Rattle.reader.proofs.Passed.{section_passed}
use Rattle.reader.proofs.Spaced.{entry_found, entry_none, entries_small}

-- sections k to 8 and then the views are left, and give the first entry at or after `at`; section k starts at `first`
pub record Walking (s : List ℕ) (at k first : ℕ) : Type 0 where
  pub low : 2 ≤ k
  pub high : k ≤ 9
  pub here : first ≡ start s k
  pub small : first ≤ k * 786422
  pub left : or_else (first_of (entry_from s at) k (9 - k)) (view_from s at) ≡ item_at s at

pub walking : (s : List ℕ) (at : ℕ) → Walking s at 2 2
unfolding start item_at
walking s at = record { low = omega arith; high = omega arith; here = refl; small = omega arith; left = refl }

module _ {s : List ℕ} {at k first : ℕ} (l : Walking s at k first) where
  pub walk_none : 9 ≤ k → view_from s at ≡ item_at s at
  walk_none h = first_none _ _ _ _ _ l.left h

  -- section k has m entries of w bytes
  module _ (h : k < 9) {m w : ℕ} (all : m ≡ num 2 s first) (few : m < 65536) (wide : w ≡ width k) where
    next_here : first + 2 + m * w ≡ start s (k + 1)
    next_here = let e = l.here in cc (start_more s k l.low)

    walk_next : entry_from s at k ≡ None → Walking s at (k + 1) (first + 2 + m * w)
    walk_next e =
        let p = entries_small k m w few wide in
        let b = l.small in
        let g = l.low in
        record { low = omega arith; high = omega arith; here = next_here; small = omega arith; left = first_next _ _ _ _ _ l.left h e }

    -- it ends at or before the place
    pub walk_past : first + 2 + m * w ≤ at → Walking s at (k + 1) (first + 2 + m * w)
    walk_past g = walk_next (section_passed s k at l.low h (rw next_here at g))

    -- those before number i stand before the place
    module _ {i : ℕ} (before : (j : ℕ) → j < i → first + 2 + j * w < at) where
      pub walk_found : at ≤ first + 2 + i * w → i < m → found k (first + 2 + i * w) w ≡ item_at s at
      walk_found reached g = first_found _ _ _ _ _ l.left _ h (entry_found s k at first w m i l.here wide all before reached g)

      pub walk_over : m ≤ i → Walking s at (k + 1) (first + 2 + m * w)
      walk_over g = walk_next (entry_none s k at first w m i l.here wide all before g)
