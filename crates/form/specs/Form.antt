-- The form of a record, form 1, as reading meets it: each check gives the place after what it read, or the first fault.
use Rattle.std.specs.Prelude.{ℕ, ◌+◌, ◌%◌, ◌≤◌, List, [], ◌∷◌, Bool, true, false, length, get_or, leb, ltb, eqb, Ok}
use Rattle.form.specs.Bytes.{num}
use Rattle.form.specs.Steps.{Step, pick, stop, and_then, upto}
use Rattle.form.specs.declared.Counts.{Counts}

-- ---- the table, by section from 0 on. Of section 9 it has a view, which is a section of its own; how many views there are is P.

-- bytes of an entry
unfoldable pub width : ℕ → ℕ
width k = get_or (1 ∷ 1 ∷ 12 ∷ 2 ∷ 4 ∷ 12 ∷ 1 ∷ 1 ∷ 2 ∷ 1 ∷ []) k 0

-- most entries
unfoldable pub limit : ℕ → ℕ
limit k = get_or (0 ∷ 4 ∷ 64 ∷ 128 ∷ 16 ∷ 64 ∷ 64 ∷ 16 ∷ 64 ∷ 64 ∷ []) k 0

-- the sections that have entries
pub record Section (k : ℕ) : Type 0 where
  pub from : 2 ≤ k
  pub to : k ≤ 9

-- w bytes of section k are due at `at`
unfoldable pub due : List ℕ → ℕ → ℕ → ℕ → Step
due s k w at = pick (leb (at + w) (length s)) (Ok (at + w)) (stop 2 k at)

-- ---- the fields of an entry: how many bytes, and whether in range
pub record Field : Type 0 where
  pub size : ℕ
  pub right : Bool

abbrev pub field : ℕ → Bool → Field
field n b = record { size = n; right = b }

abbrev pub fields_from : ℕ → List Field → ℕ → Step
fields_from k [] at = Ok at
fields_from k (f ∷ fs) at = pick f.right (fields_from k fs (at + f.size)) (stop 4 k at)

-- an address divisible by 4, or a register 0 to 14
unfoldable pub place_right : Bool → ℕ → Bool
place_right true place = leb place 14
place_right false place = eqb (place % 4) 0

-- the processor of an initial value: 0 where the class is memory, else below P
unfoldable pub owner_right : ℕ → ℕ → ℕ → Bool
owner_right class proc processors = pick (eqb class 0) (eqb proc 0) (ltb proc processors)

-- processor, kind, instruction index, place, value
unfoldable pub event_fields : Counts → List ℕ → ℕ → List Field
event_fields c s at =
    field 1 (ltb (num 1 s at) c.processors)
    ∷ field 1 (leb (num 1 s (at + 1)) 3)
    ∷ field 2 true
    ∷ field 4 (place_right (leb 2 (num 1 s (at + 1))) (num 4 s (at + 4)))
    ∷ field 4 true
    ∷ []

-- an event, an event
unfoldable pub pair_fields : Counts → List ℕ → ℕ → List Field
pair_fields c s at = field 1 (ltb (num 1 s at) c.events) ∷ field 1 (ltb (num 1 s (at + 1)) c.events) ∷ []

-- processor, zero, instruction index
unfoldable pub lock_fields : Counts → List ℕ → ℕ → List Field
lock_fields c s at = field 1 (ltb (num 1 s at) c.processors) ∷ field 1 (eqb (num 1 s (at + 1)) 0) ∷ field 2 true ∷ []

-- processor, class, zero, place, value
unfoldable pub initial_fields : Counts → List ℕ → ℕ → List Field
initial_fields c s at =
    field 1 (owner_right (num 1 s (at + 1)) (num 1 s at) c.processors)
    ∷ field 1 (leb (num 1 s (at + 1)) 1)
    ∷ field 2 (eqb (num 2 s (at + 2)) 0)
    ∷ field 4 (place_right (eqb (num 1 s (at + 1)) 1) (num 4 s (at + 4)))
    ∷ field 4 true
    ∷ []

-- one number below n
unfoldable pub one_field : ℕ → List ℕ → ℕ → List Field
one_field n s at = field 1 (ltb (num 1 s at) n) ∷ []

unfoldable pub fields : Counts → List ℕ → ℕ → ℕ → List Field
fields c s k at =
    get_or
    ([]
    ∷ []
    ∷ event_fields c s at
    ∷ pair_fields c s at
    ∷ lock_fields c s at
    ∷ initial_fields c s at
    ∷ one_field c.events s at
    ∷ one_field c.locks s at
    ∷ pair_fields c s at
    ∷ one_field c.events s at
    ∷ [])
    k
    []

-- an entry, whole before its fields
unfoldable pub entry : Counts → List ℕ → ℕ → ℕ → Step
entry c s k at = and_then (due s k (width k) at) (λ after. fields_from k (fields c s k at) at)

-- m entries
unfoldable pub entries : Counts → List ℕ → ℕ → ℕ → ℕ → Step
entries c s k m at = upto (λ i a. entry c s k a) 0 m at

-- a count, its limit, its entries
unfoldable pub block : Counts → List ℕ → ℕ → ℕ → Step
block c s k at =
    and_then (due s k 2 at)
    (λ after. pick (leb (num 2 s at) (limit k)) (entries c s k (num 2 s at) after) (stop 3 k at))

-- sections 2 to 8
unfoldable pub sections : Counts → List ℕ → ℕ → Step
sections c s at = upto (block c s) 2 9 at

-- m views
unfoldable pub views : Counts → List ℕ → ℕ → ℕ → Step
views c s m at = upto (λ i a. block c s 9 a) 0 m at
