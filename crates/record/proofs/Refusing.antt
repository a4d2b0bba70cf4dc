-- A judgement as a Result.
use mathlib.Core.Path.{◌≡◌, refl}
use Rattle.std.proofs.Common.{rules}
use Rattle.std.specs.Prelude.{Result, Ok, Err, IfOk}
use Rattle.record.specs.declared.refusal.Refusal.{Refusal}
use Rattle.record.specs.Refusals.{answer_of}

-- what holds at answer 0 holds where nothing is refused
pub ok_at_zero : {A : Type 0} (r : Result A Refusal) (S : Type 0) → (answer_of r ≡ 0 → S) → IfOk r (λ a. S)
ok_at_zero (Ok a) S f = f refl
ok_at_zero (Err r) S f = search rules
