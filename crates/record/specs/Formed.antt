-- What the form rules guarantee of an execution.
use Rattle.std.specs.Prelude.{ℕ, ◌%◌, ◌<◌, ◌≤◌, ◌≡◌, ◌⊎◌}
use Rattle.record.specs.Execution.{Items, Pair, Execution}
use Rattle.record.specs.Words.{Memory, Register}
use Rattle.record.specs.declared.Event.{Event}

-- at most so many items, each with P
pub record Each {A : Type 0} (most : ℕ) (P : A → Type 0) (l : Items A) : Type 0 where
  pub within : l.size ≤ most
  pub each : (i : ℕ) → i < l.size → P (l.item i)

-- a processor below P; a kind; an address divisible by 4 or a register 0 to 14
pub record EventFormed (processors : ℕ) (x : Event) : Type 0 where
  pub own : x.processor < processors
  pub sort : x.kind ≤ 3
  pub at : (Memory x × (x.place % 4 ≡ 0)) ⊎ (Register x × (x.place ≤ 14))

abbrev pub PairFormed : ℕ → Pair → Type 0
PairFormed n p = (p.from < n) × (p.to < n)

pub record Formed (x : Execution) : Type 0 where
  pub processors : x.processors ≤ 4
  pub events : Each 64 (EventFormed x.processors) x.events
  pub causes : Each 128 (PairFormed x.events.size) x.causes
  pub locks : Each 16 (λ i. i.processor < x.processors) x.locks
  pub stores : Each 64 (λ e. e < x.events.size) x.stores
  pub lock_order : Each 16 (λ i. i < x.locks.size) x.lock_order
  pub sources : Each 64 (PairFormed x.events.size) x.sources
  pub view : (p : ℕ) → p < x.processors → Each 64 (λ e. e < x.events.size) (x.view p)
