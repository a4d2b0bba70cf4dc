-- Two results that one call may have: each a value or a refusal.
use Rattle.std.specs.Prelude.{◌≡◌, Result, Ok, Err}

-- one refusal, or two values with P
abbrev pub Same : {X F : Type 0} → (X → X → Type 0) → Result X F → Result X F → Type 0
Same P (Ok x) (Ok y) = P x y
Same P (Err e) (Err f) = e ≡ f
Same P (Ok x) (Err f) = ⊥
Same P (Err e) (Ok y) = ⊥
