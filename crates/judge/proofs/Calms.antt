-- A view in which the searches for what breaks the rules 25 to 27 find nothing.
use Prim.Native.Nat.{ℕ, zero, suc, ◌<◌}
use mathlib.Core.Path.{◌≡◌}
use mathlib.Core.List.{List}
use native.Mathlib.Omega.{arith}
use Rattle.order.specs.Least.{None, Found}
use Rattle.std.specs.Prelude.{Option, Some, is_some, Bool, true, not}
use Rattle.std.specs.declared.option.Option.TheVariants.{None as Nothing}
use Rattle.order.specs.Rule.{Any}
use Rattle.rows.specs.declared.Set.{Set}
use Rattle.record.specs.Execution.{Execution}
use Rattle.facts.specs.declared.Classes.{Classes}
use Rattle.model.specs.Rules.{Overwritten, BreaksUp}
use Rattle.axioms.specs.Faults.{WrongFrom}
use Rattle.axioms.specs.Scene.{Scene}
use Rattle.judge.specs.Later.{later_rule, QuietAt}
use Rattle.judge.proofs.Showings.{over_quiet, initial_quiet, torn_quiet}

-- a search that finds nothing, as a test says
pub none_found : (n : ℕ) (P : ℕ → Type 0) (r : Option ℕ) (b : Bool) → Found n P r → is_some r ≡ not b → b ≡ true → None n P
none_found n P (Some k) b f e t = let h : true ≡ not true = rw t at e in absurd (cc)
none_found n P Nothing b f e t = f

module _ (z : Execution) (p : ℕ) (t q : List ℕ) (c : Classes) (seen : Set) (g : Scene z p t q c seen) where
  pub calm_quiet : None 64 (λ k. Any 2 (Overwritten z p k)) → None 64 (WrongFrom z p) → None 64 (λ k. Any 2 (BreaksUp z (z.view p) k))
      → (i : ℕ) → i < 3 → QuietAt (later_rule z i) p
  calm_quiet hw hr ha zero l = over_quiet z p t q c seen g hw
  calm_quiet hw hr ha (suc zero) l = initial_quiet z p t q c seen g hr
  calm_quiet hw hr ha (suc (suc zero)) l = torn_quiet z p t seen g.view ha
  calm_quiet hw hr ha (suc (suc (suc i))) l = absurd (omega arith)
