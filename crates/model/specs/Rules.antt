-- The rules 20 to 27.
use Rattle.std.specs.Prelude.{ℕ, ◌<◌, ◌≡◌, ◌⊎◌, List, [], ◌∷◌, ◌++◌}
use Rattle.order.specs.Least.{Some, None}
use Rattle.order.specs.Rule.{Rule, rule, entry_rule, cycles_rule}
use Rattle.record.specs.Execution.{Items, Execution}
use Rattle.record.specs.Words.{SamePlace, SameInstruction, InitialFor}
use Rattle.record.specs.declared.Event.{Event}
use Rattle.model.specs.Model.{Reads, Writes, Store, Locked, Before, Source, Sees, ViewOrder, OrderFor}

-- e stands in the list
abbrev pub Stands : Items ℕ → ℕ → Type 0
Stands l e = Some l.size (λ i. l.item i ≡ e)

-- e appears in the list a wrong number of times: it is due and does not, it is not due and does, or it does twice
unfoldable pub Misplaced : Type 0 → Items ℕ → ℕ → Type 0
Misplaced Due l e = (Due × (Stands l e → ⊥)) ⊎ (((Due → ⊥) × Stands l e) ⊎ Before l e e)

-- 20: a view is not the events seen, each once
unfoldable pub WrongView : Execution → ℕ → ℕ → Type 0
WrongView z p e = (p < z.processors) × Misplaced (Sees z p e) (z.view p) e

-- 21: section 6 is not the memory stores, each once
unfoldable pub WrongStore : Execution → ℕ → Type 0
WrongStore z e = Misplaced ((e < z.events.size) × Store (z.events.item e)) z.stores e

-- 22: section 7 is not the locked entries, each once
unfoldable pub WrongLock : Execution → ℕ → Type 0
WrongLock z i = Misplaced (i < z.locks.size) z.lock_order i

-- a write and a read of one place and value
abbrev pub WriteAndRead : Event → Event → Type 0
WriteAndRead w r = Writes w × (Reads r × (SamePlace w r × (w.value ≡ r.value)))

-- 23: section 8 pair i is not a write and a read of one place and value
unfoldable pub WrongSource : Execution → ℕ → Type 0
WrongSource z i =
    (i < z.sources.size) × (WriteAndRead (z.events.item (z.sources.item i).from) (z.events.item (z.sources.item i).to) → ⊥)

abbrev pub source_of : Execution → ℕ → List ℕ
source_of z i = (z.sources.item i).from ∷ (z.sources.item i).to ∷ []

-- x is a write of r's place
abbrev pub WritesPlace : Execution → ℕ → ℕ → Type 0
WritesPlace z x r = Writes (z.events.item x) × SamePlace (z.events.item x) (z.events.item r)

-- 25: pair (w, r) of section 8 seen by p; another write x of that place stands after w and before r in p's view
unfoldable pub Overwritten : Execution → ℕ → ℕ → ℕ → ℕ → Type 0
Overwritten z p w r x =
    (p < z.processors)
    × Source z w r
    × (Sees z p w × Sees z p r)
    × (x ≡ w → ⊥)
    × WritesPlace z x r
    × ViewOrder z p w x
    × ViewOrder z p x r

-- read r, seen by p, without a source
abbrev pub Unsourced : Execution → ℕ → ℕ → Type 0
Unsourced z p r = (p < z.processors) × Sees z p r × Reads (z.events.item r) × ((w : ℕ) → Source z w r → ⊥)

-- the place has no initial value
abbrev pub NoInitial : Execution → Event → Type 0
NoInitial z x = None z.initials.size (λ i. InitialFor x (z.initials.item i))

-- the place's initial value is v: the first entry of section 5 for it counts
abbrev pub Initially : Execution → Event → ℕ → Type 0
Initially z x v =
    Some z.initials.size
    (λ i. InitialFor x (z.initials.item i) × None i (λ j. InitialFor x (z.initials.item j)) × ((z.initials.item i).value ≡ v))

-- 26: the place has no initial value (code 0), another value (1), or a write x of that place stands before r in p's view (2)
unfoldable pub WrongInitial : Execution → List ℕ → Type 0
WrongInitial z (p ∷ r ∷ code ∷ []) =
    Unsourced z p r
    × (((code ≡ 0) × NoInitial z (z.events.item r))
    ⊎ ((code ≡ 1) × ((v : ℕ) × Initially z (z.events.item r) v × (v ≡ (z.events.item r).value → ⊥))))
WrongInitial z (p ∷ r ∷ code ∷ x ∷ []) = Unsourced z p r × (code ≡ 2) × WritesPlace z x r × ViewOrder z p x r
WrongInitial z [] = ⊥
WrongInitial z (p ∷ []) = ⊥
WrongInitial z (p ∷ r ∷ []) = ⊥
WrongInitial z (p ∷ r ∷ code ∷ x ∷ y ∷ w) = ⊥

-- x, not of the locked instruction of a and b, stands after a and before b in the list
unfoldable pub BreaksUp : Execution → Items ℕ → ℕ → ℕ → ℕ → Type 0
BreaksUp z l a x b =
    Locked z a
    × SameInstruction (z.events.item a) (z.events.item b)
    × (SameInstruction (z.events.item a) (z.events.item x) → ⊥)
    × Before l a x
    × Before l x b

-- 27: x, not of the locked instruction of a and b, stands after a and before b in p's view
unfoldable pub Torn : Execution → ℕ → ℕ → ℕ → ℕ → Type 0
Torn z p a x b = (p < z.processors) × BreaksUp z (z.view p) a x b

-- the rules about the lists of the witness
abbrev pub witness_rules : Execution → List Rule
witness_rules z =
    rule 20 2 (WrongView z)
    ∷ rule 21 1 (WrongStore z)
    ∷ rule 22 1 (WrongLock z)
    ∷ entry_rule 23 (WrongSource z) (source_of z)
    ∷ []

-- 24: for some p, p's view order and happens-before together have a cycle
abbrev pub rule24 : Execution → Rule
rule24 z = cycles_rule 24 z.processors (OrderFor z)

abbrev pub rule25 : Execution → Rule
rule25 z = rule 25 4 (Overwritten z)

abbrev pub rule26 : Execution → Rule
rule26 z = record { number = 26; Breaks = WrongInitial z; shown = λ w. w }

abbrev pub rule27 : Execution → Rule
rule27 z = rule 27 4 (Torn z)

-- the rules about the orders
abbrev pub order_rules : Execution → List Rule
order_rules z = rule24 z ∷ rule25 z ∷ rule26 z ∷ rule27 z ∷ []

-- the rules of the check, behind form and structure
abbrev pub check_rules : Execution → List Rule
check_rules z = witness_rules z ++ order_rules z
