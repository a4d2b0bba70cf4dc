-- Numbers of two and four bytes, put together from shorter ones.
use Prim.Native.Nat.{ℕ, ◌+◌, ◌*◌, ◌/◌, ◌%◌, ◌<◌}
use mathlib.Core.Path.{◌≡◌}
use mathlib.Core.List.{List}
use lib.ListN.{get_or}
use native.Mathlib.Nat.{add-zero, add_assoc}
use native.Mathlib.Omega.{arith}
use Rattle.form.specs.Bytes.{num}

pub num_one : (s : List ℕ) (at : ℕ) → num 1 s at ≡ get_or s at 0
unfolding num
num_one s at = add-zero _

pub num_two : (s : List ℕ) (at : ℕ) → num 2 s at ≡ num 1 s at + 256 * num 1 s (at + 1)
unfolding num
num_two s at = simp add-zero

-- the number of four bytes, and what its parts are
pub num_parts : (s : List ℕ) (at : ℕ) → ((i : ℕ) → get_or s i 0 < 256)
    → let r = get_or s at 0 + 256 * get_or s (at + 1) 0 + 65536 * get_or s (at + 2) 0 + 16777216 * get_or s (at + 3) 0 in
    (r ≡ num 4 s at) × ((r % 256 ≡ num 1 s at) × ((r / 256 % 256 ≡ num 1 s (at + 1)) × (r / 65536 ≡ num 2 s (at + 2))))
unfolding num
num_parts s at h =
    let b0 = h at in
    let b1 = h (at + 1) in
    let b2 = h (at + 2) in
    let b3 = h (at + 3) in
    simp (add-zero, add_assoc) (omega arith, (omega arith, (omega arith, omega arith)))
