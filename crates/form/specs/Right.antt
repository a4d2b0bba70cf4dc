-- What reading promises of a record that has the form.
use Rattle.std.specs.Prelude.{ℕ, ◌+◌, ◌*◌, ◌≤◌, ◌<◌, ◌≡◌, List, length, Ok}
use Rattle.form.specs.Bytes.{num}
use Rattle.form.specs.Form.{width, limit, entry}
use Rattle.form.specs.Place.{start, view_start, counts}
use Rattle.form.specs.declared.Counts.{Counts}

-- a count with its entries that went well
pub record Block (c : Counts) (s : List ℕ) (k at z : ℕ) : Type 0 where
  pub within : num 2 s at ≤ limit k
  pub ends : z ≡ at + 2 + num 2 s at * width k
  pub fits : z ≤ length s
  pub each : (i : ℕ) → i < num 2 s at → entry c s k (at + 2 + i * width k) ≡ Ok (at + 2 + (i + 1) * width k)

-- a record that has the form
pub record Right (s : List ℕ) : Type 0 where
  pub form : num 1 s 0 ≡ 1
  pub processors : num 1 s 1 ≤ 4
  pub section : (k : ℕ) → 2 ≤ k → k < 9 → Block (counts s) s k (start s k) (start s (k + 1))
  pub views : num 2 s (start s 9) ≡ num 1 s 1
  pub view : (p : ℕ) → p < num 1 s 1 → Block (counts s) s 9 (view_start s p) (view_start s (p + 1))
  pub ends : view_start s (num 1 s 1) ≡ length s
