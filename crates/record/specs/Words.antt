-- The words that the rules use, of events.
use Rattle.std.specs.Prelude.{ℕ, ◌<◌, ◌≤◌, ◌≡◌, ◌⊎◌}
use Rattle.order.specs.Least.{Some}
use Rattle.order.specs.Relation.{Rel}
use Rattle.record.specs.Execution.{Instruction, Initial, Execution}
use Rattle.record.specs.declared.Event.{Event}

abbrev pub Memory : Event → Type 0
Memory x = x.kind < 2

abbrev pub Register : Event → Type 0
Register x = 2 ≤ x.kind

abbrev pub RegisterWrite : Event → Type 0
RegisterWrite x = x.kind ≡ 3

abbrev pub SameAddress : Event → Event → Type 0
SameAddress x y = Memory x × (Memory y × (x.place ≡ y.place))

abbrev pub SameRegister : Event → Event → Type 0
SameRegister x y = Register x × (Register y × ((x.processor ≡ y.processor) × (x.place ≡ y.place)))

-- both memory with one address, or both register with one processor and number
abbrev pub SamePlace : Event → Event → Type 0
SamePlace x y = SameAddress x y ⊎ SameRegister x y

-- same processor and index
abbrev pub SameInstruction : Event → Event → Type 0
SameInstruction x y = (x.processor ≡ y.processor) × (x.index ≡ y.index)

-- the event is of the instruction
abbrev pub Belongs : Event → Instruction → Type 0
Belongs x i = (x.processor ≡ i.processor) × (x.index ≡ i.index)

-- e is an event of the locked instruction that is entry i of section 4
abbrev pub OfLock : Execution → ℕ → ℕ → Type 0
OfLock x i e = (e < x.events.size) × Belongs (x.events.item e) (x.locks.item i)

-- a section 3 pair from a to b
unfoldable pub Causes : Execution → Rel
Causes x a b = Some x.causes.size (λ i. ((x.causes.item i).from ≡ a) × ((x.causes.item i).to ≡ b))

-- the entry of section 5 is for the event's place
abbrev pub InitialFor : Event → Initial → Type 0
InitialFor x i =
    (Memory x × ((i.class ≡ 0) × (x.place ≡ i.place)))
    ⊎ (Register x × ((i.class ≡ 1) × ((x.processor ≡ i.processor) × (x.place ≡ i.place))))
