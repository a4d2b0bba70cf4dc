-- The view question.
use Rattle.std.specs.Prelude.{ℕ, ◌+◌, ◌≤◌, ◌≡◌, List, Bool, true, false, take, drop, ltb, Ok, Err}
use Rattle.std.specs.Borrow.{Bor}
use Rattle.lent.specs.Part.{PartAt}
use Rattle.form.specs.Bytes.{num}
use Rattle.form.specs.Place.{start, view_start}
use Rattle.form.specs.Steps.{Step, and_then}
use Rattle.form.specs.Whole.{whole}
use Rattle.record.specs.declared.Part.{Part}
use Rattle.record.specs.declared.Unseen.{Unseen}
use Rattle.record.specs.declared.Unseen.TheVariants.{Unread, NoProcessor}

-- the refusal of reading; else 4 where there is no such processor
abbrev pub answer_by : Step → Bool → ℕ
answer_by (Err f) known = f.answer
answer_by (Ok z) true = 0
answer_by (Ok z) false = 4

unfoldable pub view_answer : List ℕ → ℕ → ℕ
view_answer s p = answer_by (whole s) (ltb p (num 1 s 1))

-- a number of the view; 0 where the record is refused or has no such processor
abbrev pub found_by : Step → Bool → ℕ → ℕ
found_by (Err f) known x = 0
found_by (Ok z) true x = x
found_by (Ok z) false x = 0

-- where the first event number of p's view stands
unfoldable pub part_from : List ℕ → ℕ → ℕ
part_from s p = found_by (whole s) (ltb p (num 1 s 1)) (view_start s p + 2)

-- how many event numbers p's view has
unfoldable pub part_count : List ℕ → ℕ → ℕ
part_count s p = found_by (whole s) (ltb p (num 1 s 1)) (num 2 s (view_start s p))

-- the part of the record; empty on a refusal
unfoldable pub view_part : List ℕ → ℕ → List ℕ
view_part s p = take (part_count s p) (drop (part_from s p) s)

-- where section 9 of a record that has the form starts; else the refusal of reading
unfoldable pub views_at : List ℕ → Step
views_at s = and_then (whole s) (λ z. Ok (start s 9))

-- ---- what the question is answered with

-- the number of a refusal
abbrev pub number_of : Unseen → ℕ
number_of (Unread f) = f.answer
number_of NoProcessor = 4

-- the answer is 0, and v has where the event numbers stand and how many there are
abbrev pub Located : List ℕ → ℕ → Part → Type 0
Located s p v = (view_answer s p ≡ 0) × (v.at ≡ part_from s p) × (v.count ≡ part_count s p)

-- the answer is 0, and v is the part of the lent record itself
abbrev pub Seen : Bor (List ℕ) → ℕ → Bor (List ℕ) → Type 0
Seen lent p v = (view_answer lent.now p ≡ 0) × (v.now ≡ view_part lent.now p) × PartAt lent (part_from lent.now p) v

-- why nothing is handed out: reading meets this fault; or it meets none, and there is no such processor. The answer is the refusal's number
abbrev pub Refused : List ℕ → ℕ → Unseen → Type 0
Refused s p (Unread f) = (whole s ≡ Err f) × (f.answer ≡ view_answer s p) × (part_from s p ≡ 0) × (part_count s p ≡ 0)
Refused s p NoProcessor = ((z : ℕ) × (whole s ≡ Ok z)) × (num 1 s 1 ≤ p) × (4 ≡ view_answer s p) × (part_from s p ≡ 0) × (part_count s p ≡ 0)
