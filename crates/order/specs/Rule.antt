-- Rules, the evidence that one is broken, and the judgement of a list of rules.
use Rattle.std.specs.Prelude.{ℕ, zero, suc, ◌<◌, ◌≡◌, ◌⊎◌, List, [], ◌∷◌, length}
use Rattle.order.specs.Relation.{Rel, Cycle}
use Rattle.order.specs.Dictionary.{Firstly}
use Rattle.order.specs.Shown.{Begun}

-- a rule: its number, the lists of numbers that break it, and what is shown of such a list
pub record Rule : Type 1 where
  pub number : ℕ
  pub Breaks : List ℕ → Type 0
  pub shown : List ℕ → List ℕ

-- the evidence against a rule: what is shown of the first list, in dictionary order, that breaks it
abbrev pub Shows : Rule → List ℕ → Type 0
Shows q e = (w : List ℕ) × Firstly q.Breaks w × (e ≡ q.shown w)

-- nothing breaks the rule
abbrev pub Kept : Rule → Type 0
Kept q = (w : List ℕ) → q.Breaks w → ⊥

-- the judgement: the number of the first rule that is broken, with its evidence; else 0 without
unfoldable pub Judged : List Rule → ℕ → List ℕ → Type 0
Judged [] a e = (a ≡ 0) × (e ≡ [])
Judged (q ∷ qs) a e = (Shows q e × (a ≡ q.number)) ⊎ (Kept q × Judged qs a e)

-- every rule is kept
abbrev pub AllKept : List Rule → Type 0
AllKept [] = Unit {0}
AllKept (q ∷ qs) = Kept q × AllKept qs

-- no rule has the number 0
abbrev pub Numbered : List Rule → Type 0
Numbered [] = Unit {0}
Numbered (q ∷ qs) = (0 < q.number) × Numbered qs

-- ---- rules about so many numbers

-- a statement about n numbers
abbrev pub About : ℕ → Type 1
About zero = Type 0
About (suc n) = ℕ → About n

-- the list has n numbers, and P holds of them
abbrev pub Of : (n : ℕ) → About n → List ℕ → Type 0
Of zero P [] = P
Of zero P (x ∷ l) = ⊥
Of (suc n) P [] = ⊥
Of (suc n) P (x ∷ l) = Of n (P x) l

-- P holds of some n numbers
abbrev pub Any : (n : ℕ) → About n → Type 0
Any zero P = P
Any (suc n) P = (k : ℕ) × Any n (P k)

-- no n numbers have P; the evidence is the least of them
abbrev pub rule : ℕ → (n : ℕ) → About n → Rule
rule a n P = record { number = a; Breaks = Of n P; shown = λ w. w }

-- what is shown of the entry that the list names
abbrev pub shown_first : (ℕ → List ℕ) → List ℕ → List ℕ
shown_first show [] = []
shown_first show (i ∷ w) = show i

-- no entry has P; the evidence is what is shown of the first that has
abbrev pub entry_rule : ℕ → (ℕ → Type 0) → (ℕ → List ℕ) → Rule
entry_rule a P show = record { number = a; Breaks = Of 1 P; shown = shown_first show }

-- ---- rules about cycles

-- a length and a cycle of that length, begun at its least event: the shortest come first
abbrev pub Round : Rel → List ℕ → Type 0
Round R [] = ⊥
Round R (k ∷ l) = (k ≡ length l) × Cycle R l × Begun l

-- the cycle, without its length
abbrev pub tail : List ℕ → List ℕ
tail [] = []
tail (k ∷ l) = l

-- R has no cycle; the evidence is the cycle that is shown
abbrev pub cycle_rule : ℕ → Rel → Rule
cycle_rule a R = record { number = a; Breaks = Round R; shown = tail }

-- p below n, then a length and a cycle of p's relation
abbrev pub Rounds : ℕ → (ℕ → Rel) → List ℕ → Type 0
Rounds n R [] = ⊥
Rounds n R (p ∷ w) = (p < n) × Round (R p) w

-- p and the cycle
abbrev pub tail_after : List ℕ → List ℕ
tail_after [] = []
tail_after (p ∷ w) = p ∷ tail w

-- for no p below n has R p a cycle; the evidence is the least such p and the cycle that is shown of it
abbrev pub cycles_rule : ℕ → ℕ → (ℕ → Rel) → Rule
cycles_rule a n R = record { number = a; Breaks = Rounds n R; shown = tail_after }
