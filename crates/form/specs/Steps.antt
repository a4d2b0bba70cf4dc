-- Checks one after another: each gives the place after what it read, or the first fault, with which it ends.
use Rattle.std.specs.Prelude.{ℕ, zero, suc, ◌+◌, ◌-◌, Bool, true, false, Result, Ok, Err}
use Rattle.form.specs.declared.Fault.{Fault}

-- what a check gives: the place after what it read, or the first fault
abbrev pub Step : Type 0
Step = Result ℕ Fault

abbrev pub pick {ℓ} : {X : Type ℓ} → Bool → X → X → X
pick true x y = x
pick false x y = y

abbrev pub stop : ℕ → ℕ → ℕ → Step
stop answer section at = Err (record { answer = answer; section = section; at = at })

abbrev pub and_then : Step → (ℕ → Step) → Step
and_then (Ok at) f = f at
and_then (Err x) f = Err x

-- m checks f i, f (i + 1), .., each where the one before it ended
unfoldable pub run : (ℕ → ℕ → Step) → ℕ → ℕ → ℕ → Step
run f i zero at = Ok at
run f i (suc m) at = and_then (f i at) (λ after. run f (i + 1) m after)

-- the checks from number i up to number e
unfoldable pub upto : (ℕ → ℕ → Step) → ℕ → ℕ → ℕ → Step
upto f i e at = run f i (e - i) at
