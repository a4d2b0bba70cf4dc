-- The words of the model, over an execution.
use Rattle.std.specs.Prelude.{ℕ, ◌<◌, ◌≡◌, ◌⊎◌}
use Rattle.order.specs.Least.{Some}
use Rattle.order.specs.Relation.{Rel, within}
use Rattle.record.specs.Execution.{Items, Execution}
use Rattle.record.specs.Words.{Memory, SameAddress, SameRegister, Belongs, OfLock, Causes}
use Rattle.record.specs.declared.Event.{Event}

abbrev pub Load : Event → Type 0
Load x = x.kind ≡ 0

abbrev pub Store : Event → Type 0
Store x = x.kind ≡ 1

-- a memory load or a register read
abbrev pub Reads : Event → Type 0
Reads x = (x.kind ≡ 0) ⊎ (x.kind ≡ 2)

-- a memory store or a register write
abbrev pub Writes : Event → Type 0
Writes x = (x.kind ≡ 1) ⊎ (x.kind ≡ 3)

-- same processor, lower index
abbrev pub Earlier : Event → Event → Type 0
Earlier x y = (x.processor ≡ y.processor) × (x.index < y.index)

-- section 4 names its instruction
unfoldable pub Locked : Execution → ℕ → Type 0
Locked z e = Some z.locks.size (λ i. Belongs (z.events.item e) (z.locks.item i))

-- what keeps two events of one program in order
unfoldable pub KeepsOrder : Execution → Rel
KeepsOrder z a b =
    let x = z.events.item a in
    let y = z.events.item b in
    SameRegister x y
    ⊎ (Load x × Load y)
    ⊎ (Load x × Store y)
    ⊎ (Store x × Store y)
    ⊎ (Store x × (Load y × (x.place ≡ y.place)))
    ⊎ (Memory x × Locked z b)
    ⊎ (Locked z a × Memory y)

-- preserved order
abbrev pub Preserved : Execution → Rel
Preserved z = within z.events.size (λ a b. Earlier (z.events.item a) (z.events.item b) × KeepsOrder z a b)

-- a stands in the list at a place before one of b
abbrev pub Before : Items ℕ → Rel
Before l a b = Some l.size (λ j. Some j (λ i. (l.item i ≡ a) × (l.item j ≡ b)))

-- store order: earlier to later in section 6, same address only
abbrev pub StoreOrder : Execution → Rel
StoreOrder z a b = Before z.stores a b × SameAddress (z.events.item a) (z.events.item b)

-- locked order: every event of an earlier instruction in section 7 to every event of a later one
abbrev pub LockedOrder : Execution → Rel
LockedOrder z a b =
    Some z.lock_order.size (λ j. Some j (λ i. OfLock z (z.lock_order.item i) a × OfLock z (z.lock_order.item j) b))

-- a section 8 pair from a to b
unfoldable pub Source : Execution → Rel
Source z a b = Some z.sources.size (λ i. ((z.sources.item i).from ≡ a) × ((z.sources.item i).to ≡ b))

-- r has a source
abbrev pub Sourced : Execution → ℕ → Type 0
Sourced z r = (w : ℕ) × Source z w r

-- happens-before: the union, without chaining
unfoldable pub HappensBefore : Execution → Rel
HappensBefore z a b = Causes z a b ⊎ Preserved z a b ⊎ StoreOrder z a b ⊎ LockedOrder z a b ⊎ Source z a b

-- processor p sees its own events and all memory stores
abbrev pub Sees : Execution → ℕ → ℕ → Type 0
Sees z p e = (e < z.events.size) × (((z.events.item e).processor ≡ p) ⊎ Store (z.events.item e))

abbrev pub ViewOrder : Execution → ℕ → Rel
ViewOrder z p = Before (z.view p)

-- p's view order and happens-before together
abbrev pub OrderFor : Execution → ℕ → Rel
OrderFor z p a b = ViewOrder z p a b ⊎ HappensBefore z a b
