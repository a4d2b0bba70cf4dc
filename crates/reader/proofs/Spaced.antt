-- Entries of one width that stand one after the other: the first at or after a place, by its number; so of a section's entries.
-- Assumes nothing.
use Prim.Native.Nat.{ℕ, zero, suc, ◌+◌, ◌*◌, ◌≤◌, ◌<◌}
use mathlib.Core.Path.{◌≡◌}
use mathlib.Core.List.{List}
use native.Mathlib.Omega.{arith}
use lib.Dec.{lit<}
use Rattle.std.specs.Prelude.{None}
use Rattle.form.specs.Bytes.{num}
use Rattle.form.specs.Form.{width}
use Rattle.form.specs.Place.{start, count, entry_at}
use Rattle.form.proofs.Branches.{small_product, width_le}
use Rattle.reader.specs.Entries.{first_of, after, entry_of, entry_from}
use Rattle.reader.proofs.Firsts.{found, none_first, first_at, passed, stays}

-- those before number i stand before `at`
module _ (k at base w m i : ℕ) (before : (j : ℕ) → j < i → base + j * w < at) where
  spaced_found : at ≤ base + i * w → i < m → first_of (λ j. after at (found k (base + j * w) w)) 0 m ≡ found k (base + i * w) w
  spaced_found reached h =
      first_at (λ j. after at (found k (base + j * w) w)) 0 m i _ (omega arith) (omega arith)
      (λ j a b. passed at _ (before j b)) (stays at _ reached)

  spaced_none : m ≤ i → first_of (λ j. after at (found k (base + j * w) w)) 0 m ≡ None
  spaced_none h = none_first (λ j. after at (found k (base + j * w) w)) 0 m (λ j a b. passed at _ (before j (omega arith)))

-- the same of section k, which starts at `first`
module _ (s : List ℕ) (k at first w m i : ℕ) (here : first ≡ start s k) (wide : w ≡ width k) (all : m ≡ num 2 s first) (before : (j : ℕ) → j < i → first + 2 + j * w < at) where
  pub entry_found : at ≤ first + 2 + i * w → i < m → entry_from s at k ≡ found k (first + 2 + i * w) w
  unfolding entry_from entry_of entry_at count
  entry_found reached h = rw (← here, ← wide, ← all) (spaced_found k at (first + 2) w m i before reached h)

  pub entry_none : m ≤ i → entry_from s at k ≡ None
  unfolding entry_from entry_of entry_at count
  entry_none h = rw (← here, ← wide, ← all) (spaced_none k at (first + 2) w m i before h)

-- a section's entries are not empty
pub width_pos : (k : ℕ) → 2 ≤ k → k < 9 → 0 < width k
unfolding width
width_pos zero h g = absurd (omega arith)
width_pos (suc zero) h g = absurd (omega arith)
width_pos (suc (suc zero)) h g = lit< tt
width_pos (suc (suc (suc zero))) h g = lit< tt
width_pos (suc (suc (suc (suc zero)))) h g = lit< tt
width_pos (suc (suc (suc (suc (suc zero))))) h g = lit< tt
width_pos (suc (suc (suc (suc (suc (suc zero)))))) h g = lit< tt
width_pos (suc (suc (suc (suc (suc (suc (suc zero))))))) h g = lit< tt
width_pos (suc (suc (suc (suc (suc (suc (suc (suc zero)))))))) h g = lit< tt
width_pos (suc (suc (suc (suc (suc (suc (suc (suc (suc j))))))))) h g = absurd (omega arith)

-- as many of them as a section can count
pub entries_small : (k m w : ℕ) → m < 65536 → w ≡ width k → m * w ≤ 786420
entries_small k m w h e = small_product m w h (rw e (width_le k))
