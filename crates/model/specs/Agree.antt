-- Executions that say the same: what stands behind the last item of a list counts for nothing.
use Rattle.std.specs.Prelude.{ℕ, ◌<◌, ◌≡◌}
use Rattle.record.specs.Execution.{Items, Execution}

-- as many items, and each the same
pub record Alike {A : Type 0} (l m : Items A) : Type 0 where
  pub size : l.size ≡ m.size
  pub item : (i : ℕ) → i < l.size → l.item i ≡ m.item i

-- the same in sections 1 to 8, and in the views of the processors in S
pub record AgreeIn (S : ℕ → Type 0) (x y : Execution) : Type 0 where
  pub processors : x.processors ≡ y.processors
  pub events : Alike x.events y.events
  pub causes : Alike x.causes y.causes
  pub locks : Alike x.locks y.locks
  pub initials : Alike x.initials y.initials
  pub stores : Alike x.stores y.stores
  pub lock_order : Alike x.lock_order y.lock_order
  pub sources : Alike x.sources y.sources
  pub view : (p : ℕ) → S p → Alike (x.view p) (y.view p)

-- the same in every section
abbrev pub Agree : Execution → Execution → Type 0
Agree x y = AgreeIn (λ p. p < x.processors) x y

-- the same in sections 1 to 8 and in p's view; of the other views nothing is said
abbrev pub AgreeFor : ℕ → Execution → Execution → Type 0
AgreeFor p x y = AgreeIn (λ q. q ≡ p) x y
