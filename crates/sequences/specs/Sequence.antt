-- A sequence of events, the memory state along it, and the rules 28 to 33.
use Rattle.std.specs.Prelude.{ℕ, ◌<◌, ◌≤◌, ◌≡◌, ◌⊎◌, List, [], ◌∷◌, ◌++◌, length, get_or}
use Rattle.order.specs.Least.{None}
use Rattle.order.specs.Rule.{Rule, rule, entry_rule}
use Rattle.record.specs.Execution.{Items, Execution}
use Rattle.record.specs.Words.{Causes}
use Rattle.model.specs.Model.{Reads, Before, Preserved}
use Rattle.model.specs.Rules.{Misplaced, WritesPlace, Initially, BreaksUp}

abbrev pub items_of : {A : Type 0} → A → List A → Items A
items_of d l = record { size = length l; item = λ i. get_or l i d }

-- the numbers of the list
abbrev pub steps : List ℕ → Items ℕ
steps l = items_of 0 l

-- ---- the memory state

-- step j is the last before step i that writes the place of r
abbrev pub LastWrite : Execution → List ℕ → ℕ → ℕ → ℕ → Type 0
LastWrite z l i r j =
    (j < i) × WritesPlace z ((steps l).item j) r × ((k : ℕ) → j < k → k < i → WritesPlace z ((steps l).item k) r → ⊥)

-- before step i the place of r holds v: the last value written, or else its initial value
abbrev pub Holds : Execution → List ℕ → ℕ → ℕ → ℕ → Type 0
Holds z l i r v =
    ((j : ℕ) × LastWrite z l i r j × ((z.events.item ((steps l).item j)).value ≡ v))
    ⊎ (None i (λ j. WritesPlace z ((steps l).item j) r) × Initially z (z.events.item r) v)

-- ---- the rules

-- 29: the number at i is not below n
unfoldable pub TooLarge : Execution → List ℕ → ℕ → Type 0
TooLarge z l i = (i < length l) × (z.events.size ≤ (steps l).item i)

-- 30: not each event once
unfoldable pub WrongEvent : Execution → List ℕ → ℕ → Type 0
WrongEvent z l e = Misplaced (e < z.events.size) (steps l) e

-- 31: x stands after a and before b of one locked instruction, x not of it
abbrev pub BrokenUp : Execution → List ℕ → ℕ → ℕ → ℕ → Type 0
BrokenUp z l = BreaksUp z (steps l)

-- 32: a before b by section 3 or preserved order, b earlier in the list
unfoldable pub Reversed : Execution → List ℕ → ℕ → ℕ → Type 0
Reversed z l a b = (Causes z a b ⊎ Preserved z a b) × Before (steps l) b a

-- 33: the read at i has another value than its place holds, or its place holds none
unfoldable pub Differs : Execution → List ℕ → ℕ → Type 0
Differs z l i =
    (i < length l)
    × Reads (z.events.item ((steps l).item i))
    × (Holds z l i ((steps l).item i) (z.events.item ((steps l).item i)).value → ⊥)

-- 28: the length of the list is not n. The list holds each event once
abbrev pub once_rules : Execution → List ℕ → List Rule
once_rules z l = rule 28 0 (length l ≡ z.events.size → ⊥) ∷ rule 29 1 (TooLarge z l) ∷ rule 30 1 (WrongEvent z l) ∷ []

-- the rules at which the read-off stops
abbrev pub sequence_rules : Execution → List ℕ → List Rule
sequence_rules z l = once_rules z l ++ (rule 31 3 (BrokenUp z l) ∷ [])

-- those that the replay has besides
abbrev pub step_rules : Execution → List ℕ → List Rule
step_rules z l = rule 32 2 (Reversed z l) ∷ entry_rule 33 (Differs z l) (λ i. (steps l).item i ∷ []) ∷ []

abbrev pub replay_rules : Execution → List ℕ → List Rule
replay_rules z l = sequence_rules z l ++ step_rules z l
