-- Opening answers 0 or 2 to 5, whatever the bytes.
-- Assumes nothing.
use Prim.Native.Nat.{ℕ, ◌≤◌}
use mathlib.Core.Path.{◌≡◌, refl}
use mathlib.Core.List.{List}
use mathlib.Core.Logic.{◌⊎◌, inl, inr}
use Rattle.std.specs.Prelude.{Ok, Err}
use Rattle.form.specs.Whole.{whole}
use Rattle.form.specs.Steps.{Step}
use Rattle.form.proofs.Answers.{Fair, fair_whole}
use Rattle.reader.specs.Entries.{answer_of, open_answer}

abbrev pub Answer : ℕ → Type 0
Answer n = (n ≡ 0) ⊎ ((2 ≤ n) × (n ≤ 5))

answer : (x : Step) → Fair x → Answer (answer_of x)
answer (Ok at) h = inl refl
answer (Err f) h = inr h

pub answers : (s : List ℕ) → Answer (open_answer s)
unfolding open_answer
answers s = answer (whole s) (fair_whole s)
