-- What the order table hands back.
use Rattle.std.specs.Prelude.{ℕ, ◌^◌, ◌<◌, ◌≤◌, ◌≡◌, ◌⊎◌, ◌↔◌, List, ◌++◌, length, drop, get_or, Ok, Err}
use Rattle.order.specs.Rule.{Rule, Judged}
use Rattle.rows.specs.Table.{rel}
use Rattle.form.specs.Whole.{whole}
use Rattle.form.specs.Steps.{Step}
use Rattle.record.specs.Execution.{Execution}
use Rattle.record.specs.Says.{execution_of}
use Rattle.structure.specs.Structure.{structure_rules}
use Rattle.model.specs.Model.{HappensBefore}
use Rattle.model.specs.Rules.{witness_rules}

-- word e has bit k set exactly if e happens directly before k; words past the events are untouched
pub record Filled (z : Execution) (before after : List ℕ) : Type 0 where
  pub same : length after ≡ length before
  pub words : (e k : ℕ) → e < z.events.size → rel after e k ↔ HappensBefore z e k
  pub rest : drop z.events.size after ≡ drop z.events.size before

-- the judgement by rules, whose evidence is not handed out; on a refusal the table is untouched
abbrev pub Judging : Execution → List Rule → List ℕ → List ℕ → ℕ → Type 0
Judging z rules before after a =
    (e : List ℕ) × Judged rules a e
    × (((a ≡ 0) × Filled z before after) ⊎ ((a ≡ 0 → ⊥) × (after ≡ before)))

-- 2 to 5; then 1, where the table has fewer words than there are events; then the rules 10 to 23
abbrev pub tabled_by : Step → Execution → List ℕ → List ℕ → ℕ → Type 0
tabled_by (Err f) z before after a = (a ≡ f.answer) × (after ≡ before)
tabled_by (Ok at) z before after a =
    ((length before < z.events.size) × (a ≡ 1) × (after ≡ before)) ⊎ ((z.events.size ≤ length before) × Judging z (structure_rules z ++ witness_rules z) before after a)

unfoldable pub Tabled : List ℕ → List ℕ → List ℕ → ℕ → Type 0
Tabled s = tabled_by (whole s) (execution_of s)

-- every entry is a word, as the entries of a lent buffer are
abbrev pub Words : List ℕ → Type 0
Words l = (e : ℕ) → get_or l e 0 < 2 ^ 64
