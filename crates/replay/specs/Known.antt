-- What is known of a sequence while the replay's rules are judged.
use Rattle.std.specs.Prelude.{ℕ, ◌<◌, ◌≤◌, ◌≡◌, ◌⊎◌, ◌↔◌, List, length, get_or, Option, MatchOption}
use Rattle.order.specs.Least.{Some, None}
use Rattle.order.specs.Rule.{AllKept}
use Rattle.rows.specs.Members.{Is}
use Rattle.rows.specs.Table.{HasRows, rel}
use Rattle.record.specs.Execution.{Execution}
use Rattle.record.specs.Words.{Causes}
use Rattle.model.specs.Model.{Preserved, Before}
use Rattle.model.specs.Rules.{WritesPlace}
use Rattle.sequences.specs.Sequence.{steps, LastWrite, sequence_rules}
use Rattle.replay.specs.declared.State.{State}

-- the numbers of the list, all below n, are the first bytes of b
pub record Narrowed (n : ℕ) (l b : List ℕ) : Type 0 where
  pub fits : length l ≤ length b
  pub low : (i : ℕ) → i < length l → (steps l).item i < n
  pub same : (i : ℕ) → i < length l → get_or b i 0 ≡ (steps l).item i

-- a sequence that keeps the rules up to 31: its numbers are the first bytes of b, the table u has its order
pub record Sequenced (z : Execution) (l b u : List ℕ) : Type 0 where
  pub kept : AllKept (sequence_rules z l)
  pub bytes : Narrowed z.events.size l b
  pub rows : HasRows u 64
  pub order : (x y : ℕ) → rel u x y ↔ Before (steps l) x y

-- the table has section 3 and preserved order
pub record Programmed (z : Execution) (t : List ℕ) : Type 0 where
  pub rows : HasRows t 64
  pub pairs : (a b : ℕ) → rel t a b ↔ (Causes z a b ⊎ Preserved z a b)

-- the memory state before step i: each place that is written has its last write in the set
pub record StateAt (z : Execution) (l : List ℕ) (i : ℕ) (m : State) : Type 0 where
  pub low : (j : ℕ) → j < i → (steps l).item j < z.events.size
  pub last : Is m.last (λ w. Some i (λ j. ((steps l).item j ≡ w) × LastWrite z l i w j))

-- w is the last write of r's place before step i, if there is one
abbrev pub SourceBefore : Execution → List ℕ → ℕ → ℕ → Option ℕ → Type 0
SourceBefore z l i r w =
    MatchOption w (None i (λ j. WritesPlace z ((steps l).item j) r)) (λ x. Some i (λ j. ((steps l).item j ≡ x) × LastWrite z l i r j))
