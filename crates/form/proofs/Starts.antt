-- Where sections and views start, one after the other.
use Prim.Native.Nat.{ℕ, zero, suc, ◌+◌, ◌*◌, ◌≤◌}
use mathlib.Core.Path.{◌≡◌, refl, ◌∙◌}
use mathlib.Core.List.{List}
use native.Mathlib.Omega.{arith}
use native.Mathlib.Nat.{mul-one}
use native.Mathlib.Numerals.{add-one}
use Rattle.form.specs.Bytes.{num}
use Rattle.form.specs.Form.{width}
use Rattle.form.specs.Place.{start, view_start}

pub view_start_more : (s : List ℕ) (p : ℕ) → view_start s (p + 1) ≡ view_start s p + 2 + num 2 s (view_start s p) * width 9
unfolding view_start
view_start_more s p = rw add-one

pub view_start_next : (s : List ℕ) (p : ℕ) → view_start s (p + 1) ≡ view_start s p + 2 + num 2 s (view_start s p)
unfolding width
view_start_next s p = view_start_more s p ∙ simp mul-one

pub start_more : (s : List ℕ) (k : ℕ) → 2 ≤ k → start s (k + 1) ≡ start s k + 2 + num 2 s (start s k) * width k
unfolding start
start_more s k h = rw add-one (go k h)
  where
    go : (k : ℕ) → 2 ≤ k → start s (suc k) ≡ start s k + 2 + num 2 s (start s k) * width k
    go zero h = omega arith
    go (suc zero) h = omega arith
    go (suc (suc j)) h = refl
