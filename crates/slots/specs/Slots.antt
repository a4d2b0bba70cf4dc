-- The starred slot cases as one table: a record, an operation, its answer and its evidence.
use Rattle.std.specs.Prelude.{ℕ, ◌/◌, ◌%◌, List, [], ◌∷◌, ◌++◌, length}
use Rattle.order.specs.Rule.{Rule}
use Rattle.form.specs.Bytes.{two_bytes, counted}
use Rattle.record.specs.Execution.{Execution}
use Rattle.record.specs.Says.{execution_of}
use Rattle.structure.specs.Examined.{examination}
use Rattle.model.specs.Rules.{check_rules}
use Rattle.sequences.specs.Sequence.{replay_rules}

-- ---- bytes

abbrev pub four : ℕ → List ℕ
four n = two_bytes (n % 65536) ++ two_bytes (n / 65536)

abbrev pub joined : List (List ℕ) → List ℕ
joined [] = []
joined (x ∷ l) = x ++ joined l

-- a section: its count, then its entries
abbrev pub section : List (List ℕ) → List ℕ
section l = two_bytes (length l) ++ joined l

-- processor, instruction index, address, value
abbrev pub store : ℕ → ℕ → ℕ → ℕ → List ℕ
store p i a v = p ∷ 1 ∷ two_bytes i ++ (four a ++ four v)

abbrev pub load : ℕ → ℕ → ℕ → ℕ → List ℕ
load p i a v = p ∷ 0 ∷ two_bytes i ++ (four a ++ four v)

-- a locked instruction: processor, index
abbrev pub locked : ℕ → ℕ → List ℕ
locked p i = p ∷ 0 ∷ two_bytes i

-- an initial value of an address
abbrev pub initial : ℕ → ℕ → List ℕ
initial a v = 0 ∷ 0 ∷ 0 ∷ 0 ∷ four a ++ four v

-- a record without section 3: its processors; events, locked instructions, initial values; store order, locked order, reads-from; views
abbrev pub spelled : ℕ → List (List ℕ) → List (List ℕ) → List (List ℕ) → List ℕ → List ℕ → List (List ℕ) → List (List ℕ) → List ℕ
spelled p events locks initials stores lock_order sources views =
    1 ∷ p ∷ section events
    ++ (section []
    ++ (section locks
    ++ (section initials
    ++ (counted stores ++ (counted lock_order ++ (section sources ++ section views))))))

-- ---- the records

-- S1, but for section 6, section 8 and the views
abbrev pub s1_with : List ℕ → List (List ℕ) → List (List ℕ) → List ℕ
s1_with stores sources views =
    spelled 2
    (store 0 0 100 1 ∷ load 0 1 200 0 ∷ store 1 0 200 1 ∷ load 1 1 100 0 ∷ [])
    []
    (initial 100 0 ∷ initial 200 0 ∷ [])
    stores
    []
    sources
    views

abbrev pub view₀ : List ℕ
view₀ = counted (0 ∷ 1 ∷ 2 ∷ [])

abbrev pub view₁ : List ℕ
view₁ = counted (2 ∷ 3 ∷ 0 ∷ [])

abbrev pub s1 : List ℕ
s1 = s1_with (0 ∷ 2 ∷ []) [] (view₀ ∷ view₁ ∷ [])

-- S2, with a view of processor 1
abbrev pub s2_with : List ℕ → List ℕ
s2_with view =
    spelled 2
    (store 0 0 100 1 ∷ load 0 1 200 0 ∷ store 1 0 200 1 ∷ load 1 1 100 0 ∷ [])
    (locked 0 0 ∷ locked 1 0 ∷ [])
    (initial 100 0 ∷ initial 200 0 ∷ [])
    (0 ∷ 2 ∷ [])
    (0 ∷ 1 ∷ [])
    []
    (view₀ ∷ view ∷ [])

abbrev pub s2 : List ℕ
s2 = s2_with view₁

-- one processor, two stores and a load of one address, which takes the first
abbrev pub overwritten : List ℕ
overwritten =
    spelled 1
    (store 0 0 100 1 ∷ store 0 1 100 1 ∷ load 0 2 100 1 ∷ [])
    []
    []
    (0 ∷ 1 ∷ [])
    []
    ((0 ∷ 2 ∷ []) ∷ [])
    (view₀ ∷ [])

-- a locked instruction of two stores, seen by another processor with its own store between them
abbrev pub torn : List ℕ
torn =
    spelled 2
    (store 0 0 100 1 ∷ store 0 0 104 1 ∷ store 1 0 108 1 ∷ [])
    (locked 0 0 ∷ [])
    []
    (0 ∷ 1 ∷ 2 ∷ [])
    (0 ∷ [])
    []
    (view₀ ∷ counted (0 ∷ 2 ∷ 1 ∷ []) ∷ [])

-- a 1 and seventeen zeros
abbrev pub zeros : List ℕ
zeros = 1 ∷ 0 ∷ 0 ∷ 0 ∷ 0 ∷ 0 ∷ 0 ∷ 0 ∷ 0 ∷ 0 ∷ 0 ∷ 0 ∷ 0 ∷ 0 ∷ 0 ∷ 0 ∷ 0 ∷ 0 ∷ []

-- ---- the table

pub data Operation : Type 0 where
  Check : Operation
  Replay : List ℕ → Operation

-- the rules of an operation, behind form and structure
abbrev pub rules_of : Operation → Execution → List Rule
rules_of Check z = check_rules z
rules_of (Replay l) z = replay_rules z l

pub record Case : Type 0 where
  pub bytes : List ℕ
  pub operation : Operation
  pub answer : ℕ
  pub evidence : List ℕ

abbrev pub case : List ℕ → Operation → ℕ → List ℕ → Case
case s o a e = record { bytes = s; operation = o; answer = a; evidence = e }

abbrev pub slot_cases : List Case
slot_cases =
    case s1 Check 0 []
    ∷ case (s1_with (0 ∷ 2 ∷ []) [] (counted (0 ∷ 1 ∷ []) ∷ view₁ ∷ [])) Check 20 (0 ∷ 2 ∷ [])
    ∷ case (s1_with (0 ∷ []) [] (view₀ ∷ view₁ ∷ [])) Check 21 (2 ∷ [])
    ∷ case (s1_with (0 ∷ 2 ∷ []) ((0 ∷ 3 ∷ []) ∷ []) (view₀ ∷ view₁ ∷ [])) Check 23 (0 ∷ 3 ∷ [])
    ∷ case s2 Check 24 (1 ∷ 0 ∷ 2 ∷ [])
    ∷ case (s2_with (counted (3 ∷ 0 ∷ 2 ∷ []))) Check 24 (1 ∷ 2 ∷ 3 ∷ [])
    ∷ case (s2_with (counted (0 ∷ 2 ∷ 3 ∷ []))) Check 26 (1 ∷ 3 ∷ 2 ∷ 0 ∷ [])
    ∷ case overwritten Check 25 (0 ∷ 0 ∷ 2 ∷ 1 ∷ [])
    ∷ case torn Check 27 (1 ∷ 0 ∷ 2 ∷ 1 ∷ [])
    ∷ case s1 (Replay (1 ∷ 3 ∷ 0 ∷ 2 ∷ [])) 0 []
    ∷ case s1 (Replay (0 ∷ 1 ∷ 2 ∷ 3 ∷ [])) 33 (3 ∷ [])
    ∷ case s2 (Replay (1 ∷ 3 ∷ 0 ∷ 2 ∷ [])) 32 (0 ∷ 1 ∷ [])
    ∷ case zeros Check 0 []
    ∷ []

-- the row is the judgement of its record by the rules of its operation
abbrev pub Right : Case → Type 0
Right c = examination c.bytes (rules_of c.operation (execution_of c.bytes)) c.answer c.evidence

abbrev pub AllRight : List Case → Type 0
AllRight [] = Unit {0}
AllRight (c ∷ l) = Right c × AllRight l
