-- Sequential executions as the HOL specification has them (part XII), and that the replay accepts exactly the valid ones.
-- The names are its own, with a hyphen for each underscore. A sequential order so is reflexive.
use Rattle.std.specs.Prelude.{ℕ, ◌≡◌, ◌↔◌, List}
use Rattle.order.specs.Relation.{Rel}
use Rattle.order.specs.Rule.{Kept, AllKept, rule}
use Rattle.record.specs.Execution.{Execution}
use Rattle.record.specs.Formed.{Formed}
use Rattle.structure.specs.Structure.{structure_rules}
use Rattle.model.specs.Hol.{Location, EventStructure, ExecutionWitness, restrict, strict, linear_order, loc, mem_store, writes, reads, viewed_events, valid_execution}
use Rattle.model.specs.Says.{UpTo, structure_of, witness_of}
use Rattle.sequences.specs.Sequence.{steps, BrokenUp, once_rules, replay_rules}
use Rattle.sequences.specs.ReadOff.{read_off}

-- ---- part XII

abbrev pub sequential_execution : EventStructure → Rel → Type 0
sequential_execution E so =
    linear_order so E.events
    × ((i : ℕ) → E.atoms i
    → (e₁ : ℕ) → E.atomicity i e₁
    → (e₂ : ℕ) → E.atomicity i e₂
    → (e : ℕ) → so e₁ e × so e e₂ → E.atomicity i e)

-- only the processors have a view
abbrev pub so_to_vo : EventStructure → Rel → ℕ → Rel
so_to_vo E so p e₁ e₂ = E.procs p × restrict so (viewed_events E p) e₁ e₂

-- E has the actions of the events
abbrev pub so_to_write_serialization : EventStructure → Rel → Rel
so_to_write_serialization E so e₁ e₂ = strict so e₁ e₂ × mem_store E e₁ × mem_store E e₂ × (loc E e₁ ≡ loc E e₂)

abbrev pub so_to_lock_serialization : EventStructure → Rel → Rel
so_to_lock_serialization E so e₁ e₂ =
    strict so e₁ e₂
    × ((i : ℕ) × (j : ℕ) × E.atoms i × E.atoms j × (i ≡ j → ⊥) × E.atomicity i e₁ × E.atomicity j e₂)

abbrev pub so_to_rfmap : EventStructure → Rel → Rel
so_to_rfmap E so ew er =
    so ew er
    × writes E ew
    × reads E er
    × (loc E er ≡ loc E ew)
    × ((ew' : ℕ) → writes E ew' → (ew ≡ ew' → ⊥) × so ew ew' × so ew' er → loc E ew ≡ loc E ew' → ⊥)

abbrev pub so_to_exec_witness : EventStructure → (Location → ℕ → Type 0) → Rel → ExecutionWitness
so_to_exec_witness E initial_state so = record {
  initial_state = initial_state;
  vo = so_to_vo E so;
  write_serialization = so_to_write_serialization E so;
  lock_serialization = so_to_lock_serialization E so;
  rfmap = so_to_rfmap E so;
}

abbrev pub valid_sequential_execution : EventStructure → (Location → ℕ → Type 0) → Rel → Type 1
valid_sequential_execution E initial_state so = sequential_execution E so × valid_execution E (so_to_exec_witness E initial_state so)

-- ---- the replay

-- the order that the list spells
abbrev pub along : List ℕ → Rel
along l = UpTo (steps l)

-- the same initial state, and each relation holds between the same events
pub record SameWitness (X Y : ExecutionWitness) : Type 0 where
  pub initial_state : (l : Location) (v : ℕ) → X.initial_state l v ↔ Y.initial_state l v
  pub vo : (p a b : ℕ) → X.vo p a b ↔ Y.vo p a b
  pub write_serialization : (a b : ℕ) → X.write_serialization a b ↔ Y.write_serialization a b
  pub lock_serialization : (a b : ℕ) → X.lock_serialization a b ↔ Y.lock_serialization a b
  pub rfmap : (a b : ℕ) → X.rfmap a b ↔ Y.rfmap a b

pub record Sequential (z : Execution) (l : List ℕ) : Type 1 where
  -- 31 is kept exactly if the list spells a sequential execution
  pub sequential : Kept (rule 31 3 (BrokenUp z l)) ↔ sequential_execution (structure_of z) (along l)
  -- where it is, what is read off is the witness of that order
  pub witness : Kept (rule 31 3 (BrokenUp z l))
      → SameWitness (witness_of (read_off z l)) (so_to_exec_witness (structure_of z) (witness_of z).initial_state (along l))
  -- so the replay breaks no rule exactly if that sequential execution is valid
  pub valid : AllKept (replay_rules z l) ↔ valid_sequential_execution (structure_of z) (witness_of z).initial_state (along l)

-- of an execution that passes form and structure, and a list that holds each event once
abbrev pub ReplayValid : Type 1
ReplayValid = (z : Execution) → Formed z → AllKept (structure_rules z) → (l : List ℕ) → AllKept (once_rules z l) → Sequential z l
