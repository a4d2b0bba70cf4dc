-- The entries of a record one by one, for any list of bytes: what the display is given from a place on, and what opening answers.
use Rattle.std.specs.Prelude.{ℕ, zero, suc, ◌+◌, ◌≡◌, List, [], leb, Option, Some, None, Ok, Err}
use Rattle.std.specs.Borrow.{Bor}
use Rattle.lent.specs.Part.{PartAt}
use Rattle.form.specs.Bytes.{num}
use Rattle.form.specs.Form.{width}
use Rattle.form.specs.Place.{count, entry_at, view_start}
use Rattle.form.specs.Steps.{Step, pick}
use Rattle.form.specs.Whole.{whole}
use Rattle.form.specs.declared.Fault.{Fault}
use Rattle.reader.specs.declared.Entry.{Entry}

-- what is found: an entry, or none
abbrev pub Item : Type 0
Item = Option Entry

-- the first of two that is an entry
abbrev pub or_else : Item → Item → Item
or_else (Some e) i = Some e
or_else None i = i

-- the first entry among f i, f (i + 1), .., m of them
unfoldable pub first_of : (ℕ → Item) → ℕ → ℕ → Item
first_of f i zero = None
first_of f i (suc m) = or_else (f i) (first_of f (i + 1) m)

-- an entry, if its place is at or after `at`
abbrev pub after : ℕ → Item → Item
after at (Some e) = pick (leb at e.at) (Some e) None
after at None = None

-- entry i of section k
unfoldable pub entry_of : List ℕ → ℕ → ℕ → Item
entry_of s k i = Some (record { section = k; at = entry_at s k i; len = width k })

-- the view of processor p: its two-byte count and as many event numbers
unfoldable pub view_of : List ℕ → ℕ → Item
view_of s p = Some (record { section = 9; at = view_start s p; len = 2 + num 2 s (view_start s p) })

-- the first entry of section k at or after `at`
unfoldable pub entry_from : List ℕ → ℕ → ℕ → Item
entry_from s at k = first_of (λ i. after at (entry_of s k i)) 0 (count s k)

-- the first view at or after `at`
unfoldable pub view_from : List ℕ → ℕ → Item
view_from s at = first_of (λ p. after at (view_of s p)) 0 (num 1 s 1)

-- the first entry at or after `at`: of sections 2 to 8 in order, then of the views
unfoldable pub item_at : List ℕ → ℕ → Item
item_at s at = or_else (first_of (entry_from s at) 2 7) (view_from s at)

-- the number of what reading finds: 0, or that of the first fault
abbrev pub answer_of : Step → ℕ
answer_of (Ok z) = 0
answer_of (Err f) = f.answer

-- what opening answers
unfoldable pub open_answer : List ℕ → ℕ
open_answer s = answer_of (whole s)

-- the list itself where reading finds no fault, else nothing
abbrev pub part_of : List ℕ → Step → List ℕ
part_of s (Ok z) = s
part_of s (Err f) = []

-- the bytes that a reader is opened over
unfoldable pub open_part : List ℕ → List ℕ
open_part s = part_of s (whole s)

-- the answer is 0, and `part` is that part of the lent bytes themselves
abbrev pub Opened : Bor (List ℕ) → Bor (List ℕ) → Type 0
Opened lent part = (open_answer lent.now ≡ 0) × (part.now ≡ open_part lent.now) × PartAt lent 0 part

-- the answer is that of the first fault, and there are no bytes
abbrev pub Refused : List ℕ → Fault → Type 0
Refused s f = (whole s ≡ Err f) × (f.answer ≡ open_answer s) × (open_part s ≡ [])
