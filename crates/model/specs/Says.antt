-- What a record says, in the terms of the HOL specification.
use Rattle.std.specs.Prelude.{ℕ, zero, suc, ◌<◌, ◌≡◌, ◌↔◌}
use Rattle.order.specs.Least.{Some, None}
use Rattle.order.specs.Relation.{Rel}
use Rattle.record.specs.Execution.{Items, Initial, Execution}
use Rattle.record.specs.Words.{Causes, OfLock}
use Rattle.record.specs.declared.Event.{Event}
use Rattle.model.specs.Model.{Store, Before, StoreOrder, LockedOrder, Source}
use Rattle.model.specs.Rules.{Stands}
use Rattle.model.specs.Hol.{R, W, Location, location_reg, location_mem, Action, ACCESS, EventStructure, ExecutionWitness}

-- the action of an event, by its kind; the form has no kind over 3
abbrev pub action_by : ℕ → Event → Action
action_by zero x = ACCESS R (location_mem x.place) x.value
action_by (suc zero) x = ACCESS W (location_mem x.place) x.value
action_by (suc (suc zero)) x = ACCESS R (location_reg x.processor x.place) x.value
action_by (suc (suc (suc k))) x = ACCESS W (location_reg x.processor x.place) x.value

abbrev pub structure_of : Execution → EventStructure
structure_of z = record {
  procs = λ p. p < z.processors;
  events = λ e. e < z.events.size;
  iid = λ e. record { proc = (z.events.item e).processor; program_order_index = (z.events.item e).index };
  action = λ e. action_by (z.events.item e).kind (z.events.item e);
  intra_causality = Causes z;
  atoms = λ i. i < z.locks.size;
  atomicity = OfLock z;
}

-- the entry of section 5 is for the location
abbrev pub EntryFor : Location → Initial → Type 0
EntryFor (location_reg p r) i = (i.class ≡ 1) × (i.processor ≡ p) × (i.place ≡ r)
EntryFor (location_mem a) i = (i.class ≡ 0) × (i.place ≡ a)

-- a stands in the list at a place of b or before it
abbrev pub UpTo : Items ℕ → Rel
UpTo l a b = Some l.size (λ j. Some (suc j) (λ i. (l.item i ≡ a) × (l.item j ≡ b)))

abbrev pub witness_of : Execution → ExecutionWitness
witness_of z = record {
  initial_state = λ l v.
      Some z.initials.size
      (λ i. EntryFor l (z.initials.item i) × None i (λ j. EntryFor l (z.initials.item j)) × ((z.initials.item i).value ≡ v));
  vo = λ p a b. (p < z.processors) × UpTo (z.view p) a b;
  write_serialization = StoreOrder z;
  lock_serialization = LockedOrder z;
  rfmap = Source z;
}

-- What the rules ask of the lists and the orders that the lists spell do not show. They do not show
-- an event that stands in a view twice, side by side;
-- a store, alone at its address, that is missing from section 6;
-- an event that is no store and stands in section 6 ordered with nothing: a register's, or a load alone at its address there;
-- a locked entry, the only one, that is missing from section 7.
-- That no store and no locked entry stands twice, they show: it would be ordered with itself.
pub record Spelled (z : Execution) : Type 0 where
  -- no event stands in a view twice
  pub views : (p : ℕ) → p < z.processors → (e : ℕ) → Before (z.view p) e e → ⊥
  -- section 6 has the memory stores and nothing else
  pub stores : (e : ℕ) → Stands z.stores e ↔ ((e < z.events.size) × Store (z.events.item e))
  -- section 7 has the locked entries and nothing else
  pub locks : (i : ℕ) → Stands z.lock_order i ↔ (i < z.locks.size)
