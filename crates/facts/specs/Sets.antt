-- The members of a set that pass a test.
use Rattle.std.specs.Prelude.{ℕ, Bool, true, false}
use Rattle.rows.specs.Members.{In}
use Rattle.rows.specs.declared.Set.{Set}

-- r has members of s at which the test says true; at the others it says false
pub record Kept (Says : ℕ → Bool → Type 0) (s r : Set) : Type 0 where
  pub kept : (e : ℕ) → In r e → In s e × Says e true
  pub left : (e : ℕ) → In s e → (In r e → ⊥) → Says e false
