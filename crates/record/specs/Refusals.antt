-- What a judgement says as a Result: nothing where it refuses nothing, answer 0 without evidence; or the refusal.
use Rattle.std.specs.Prelude.{ℕ, Result, Ok, Err}
use Rattle.record.specs.declared.refusal.Refusal.{Refusal}

abbrev pub answer_of : {A : Type 0} → Result A Refusal → ℕ
answer_of (Ok a) = 0
answer_of (Err r) = r.answer

abbrev pub count_of : {A : Type 0} → Result A Refusal → ℕ
count_of (Ok a) = 0
count_of (Err r) = r.count
