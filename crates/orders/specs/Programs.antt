-- The events of a program, instruction by instruction.
use Rattle.std.specs.Prelude.{ℕ, ◌+◌, ◌<◌, ◌≤◌, ◌≡◌}
use Rattle.order.specs.Least.{Some}
use Rattle.rows.specs.Members.{In}
use Rattle.rows.specs.declared.Set.{Set}
use Rattle.record.specs.Execution.{Execution}
use Rattle.record.specs.Words.{SameInstruction}

-- the members are events of one processor
pub record Program (z : Execution) (own : Set) : Type 0 where
  pub low : (e : ℕ) → In own e → e < z.events.size
  pub one : (a b : ℕ) → In own a → In own b → (z.events.item a).processor ≡ (z.events.item b).processor

-- e is a member, and no member has a lower index
abbrev pub Earliest : Execution → Set → ℕ → Type 0
Earliest z rest e = In rest e × ((k : ℕ) → In rest k → (z.events.item e).index ≤ (z.events.item k).index)

-- the indexes of the events with P do not fall as their numbers rise, and r has the first of each index
pub record Headed (z : Execution) (P : ℕ → Type 0) (r : Set) : Type 0 where
  pub part : (h : ℕ) → In r h → P h
  pub even : (a b : ℕ) → P a → P b → a ≤ b → (z.events.item a).index ≤ (z.events.item b).index
  pub rise : (a h : ℕ) → P a → In r h → a < h → (z.events.item a).index < (z.events.item h).index
  pub head : (b : ℕ) → P b → Some (b + 1) (λ h. In r h × ((z.events.item h).index ≡ (z.events.item b).index))

-- the members of here are of one instruction
abbrev pub OneInstruction : Execution → Set → Type 0
OneInstruction z here = (a b : ℕ) → In here a → In here b → SameInstruction (z.events.item a) (z.events.item b)
