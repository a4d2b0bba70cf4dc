-- The demands 1, 2 and 3. `Checked s before after a k` says: lent the buffer `before`, the check of the bytes s may hand back the answer a
-- and the count k and leave `after` in the buffer; `Replayed`, `ReadOff`, `Tabled` likewise. That each function hands back such a result,
-- for all bytes, lists and buffers and with nothing asked beforehand, is its contract; that there is one such result alone is `Decided`;
-- what such results are worth is said here.
use Rattle.std.specs.Prelude.{ℕ, ◌<◌, ◌≤◌, ◌≡◌, ◌⊎◌, ◌↔◌, List, [], ◌∷◌, ◌++◌, length, take, Ok}
use Rattle.order.specs.Least.{Some, None}
use Rattle.order.specs.Relation.{Cyclic}
use Rattle.order.specs.Shown.{Shown}
use Rattle.order.specs.Rule.{Kept, AllKept, Judged, rule}
use Rattle.order.specs.Evidence.{Written}
use Rattle.form.specs.Whole.{whole}
use Rattle.record.specs.Says.{execution_of}
use Rattle.record.specs.View.{view_answer}
use Rattle.structure.specs.Structure.{Unordered}
use Rattle.model.specs.Agree.{Agree}
use Rattle.model.specs.Hol.{union, strict, happens_before, wfes}
use Rattle.model.specs.Model.{OrderFor}
use Rattle.model.specs.Rules.{witness_rules, check_rules}
use Rattle.model.specs.Says.{structure_of, witness_of}
use Rattle.model.specs.Validity.{Passes, Answers, Valid}
use Rattle.sequences.specs.Sequence.{BrokenUp, once_rules, sequence_rules}
use Rattle.sequences.specs.ReadOff.{read_off}
use Rattle.sequences.specs.Sequential.{along, valid_sequential_execution}
use Rattle.judge.specs.Checked.{Checked}
use Rattle.table.specs.Tabled.{Tabled}
use Rattle.replay.specs.Replayed.{Replayed}
use Rattle.readoff.specs.Written.{ReadOff}
use Rattle.reader.specs.Entries.{open_answer}
use Rattle.slots.specs.Slots.{slot_cases, AllRight}

-- ---- demand 1: every byte string and every lent buffer gets an answer from the list

-- a is one of the list
abbrev pub Among : List ℕ → ℕ → Type 0
Among [] a = ⊥
Among (b ∷ l) a = (a ≡ b) ⊎ Among l a

-- 0, and the form rules
abbrev pub reading_answers : List ℕ
reading_answers = 0 ∷ 2 ∷ 3 ∷ 4 ∷ 5 ∷ []

-- and 1, and the structure rules
abbrev pub common : List ℕ
common = 1 ∷ reading_answers ++ (10 ∷ 11 ∷ 12 ∷ 13 ∷ 14 ∷ [])

abbrev pub check_answers : List ℕ
check_answers = common ++ (20 ∷ 21 ∷ 22 ∷ 23 ∷ 24 ∷ 25 ∷ 26 ∷ 27 ∷ [])

abbrev pub table_answers : List ℕ
table_answers = common ++ (20 ∷ 21 ∷ 22 ∷ 23 ∷ [])

abbrev pub replay_answers : List ℕ
replay_answers = common ++ (28 ∷ 29 ∷ 30 ∷ 31 ∷ 32 ∷ 33 ∷ [])

abbrev pub read_off_answers : List ℕ
read_off_answers = common ++ (28 ∷ 29 ∷ 30 ∷ 31 ∷ [])

pub record Demand1 : Type 0 where
  -- there is an answer
  pub check_answered : (s before : List ℕ) → (after : List ℕ) × (a : ℕ) × (k : ℕ) × Checked s before after a k
  pub replay_answered : (s l before : List ℕ) → (after : List ℕ) × (a : ℕ) × (k : ℕ) × Replayed s l before after a k
  -- and it is one of the list
  pub check_listed : (s before after : List ℕ) (a k : ℕ) → Checked s before after a k → Among check_answers a
  pub table_listed : (s before after : List ℕ) (a : ℕ) → Tabled s before after a → Among table_answers a
  pub replay_listed : (s l before after : List ℕ) (a k : ℕ) → Replayed s l before after a k → Among replay_answers a
  pub read_off_listed : (s l before after : List ℕ) (a k : ℕ) → ReadOff s l before after a k → Among read_off_answers a
  pub view_listed : (s : List ℕ) (p : ℕ) → Among reading_answers (view_answer s p)
  pub opening_listed : (s : List ℕ) → Among reading_answers (open_answer s)
  -- an evidence buffer of fewer than 65 entries is refused by answer 1 and stays untouched
  pub short : (s before after : List ℕ) (a k : ℕ) → Checked s before after a k → length before < 65 → (a ≡ 1) × (k ≡ 0) × (after ≡ before)
  pub replay_short : (s l before after : List ℕ) (a k : ℕ) → Replayed s l before after a k → length before < 65
      → (a ≡ 1) × (k ≡ 0) × (after ≡ before)
  -- every other answer of the check writes its stated evidence at the front and not one entry more
  pub written : (s before after : List ℕ) (a k : ℕ) → Checked s before after a k → 65 ≤ length before
      → (e : List ℕ) × Answers s a e × Written e before after k

-- ---- demand 2: a record that passes form and structure gets 0 exactly if it is a valid execution

-- the check of s, with a buffer that is long enough, answers a with the evidence e
abbrev pub Judges : List ℕ → ℕ → List ℕ → Type 0
Judges s a e =
    (before : List ℕ) × (after : List ℕ) × (k : ℕ) × (65 ≤ length before) × Checked s before after a k × Written e before after k

pub record Demand2 : Type 1 where
  -- a record that has the form passes exactly if it says a well-formed event structure of the HOL specification, and keeps rule 12, which
  -- asks for a section 3 pair where HOL asks for a chain
  pub well_formed : (s : List ℕ) (end : ℕ) → whole s ≡ Ok end
      → Passes s ↔ (wfes (structure_of (execution_of s)) × Kept (rule 12 2 (Unordered (execution_of s))))
  -- 0 exactly to the valid executions of the HOL specification
  pub valid : (s : List ℕ) (a : ℕ) (e : List ℕ) → Passes s → Judges s a e → (a ≡ 0) ↔ Valid (execution_of s)
  -- otherwise the answer is the first broken rule, with its evidence
  pub first : (s : List ℕ) (a : ℕ) (e : List ℕ) → Passes s → Judges s a e → Judged (check_rules (execution_of s)) a e
  -- causality, where the rules before it hold, is refused exactly if some processor's view order joined with happens-before has a cycle
  pub causality : (s : List ℕ) (a : ℕ) (e : List ℕ) → Passes s → Judges s a e → AllKept (witness_rules (execution_of s))
      → (a ≡ 24) ↔ Some (execution_of s).processors (λ p. Cyclic (OrderFor (execution_of s) p))
  -- and a shortest one is shown, behind the least processor that has one
  pub shown : (s : List ℕ) (e : List ℕ) → Passes s → Judges s 24 e
      → (p : ℕ) × (p < (execution_of s).processors) × (c : List ℕ) × (e ≡ p ∷ c) × Shown (OrderFor (execution_of s) p) c
      × None p (λ q. Cyclic (OrderFor (execution_of s) q))
  -- step by step, this is the order of which HOL asks that it has no cycle
  pub steps : (s : List ℕ) → Passes s → AllKept (witness_rules (execution_of s)) → (p : ℕ) → p < (execution_of s).processors → (a b : ℕ)
      → OrderFor (execution_of s) p a b
      ↔ union (strict ((witness_of (execution_of s)).vo p)) (happens_before (structure_of (execution_of s)) (witness_of (execution_of s))) a b

-- ---- demand 3: the replay and the check agree

pub record Demand3 : Type 1 where
  -- a record that passes, and a list that holds each event once, the events of each locked instruction together: the read-off writes a record,
  -- and the replay answers 0 exactly if the check answers 0 on it
  pub agrees : (s l : List ℕ) → Passes s → AllKept (sequence_rules (execution_of s) l)
      → (ev ev' : List ℕ) (a i : ℕ) → 65 ≤ length ev → Replayed s l ev ev' a i
      → (out out' : List ℕ) (b k : ℕ) → 2346 ≤ length out → ReadOff s l out out' b k
      → (c : ℕ) (e : List ℕ) → Judges (take k out') c e
      → (b ≡ 0) × ((a ≡ 0) ↔ (c ≡ 0))
  -- what is written passes, and says the execution whose witness is read off from the list
  pub read_back : (s l : List ℕ) → Passes s → AllKept (sequence_rules (execution_of s) l)
      → (out out' : List ℕ) (b k : ℕ) → 2346 ≤ length out → ReadOff s l out out' b k
      → Passes (take k out') × Agree (execution_of (take k out')) (read_off (execution_of s) l)
  -- where the list holds each event once and a locked instruction is broken up, the replay says so
  pub said : (s l : List ℕ) → Passes s → AllKept (once_rules (execution_of s) l) → (a x b : ℕ) → BrokenUp (execution_of s) l a x b
      → (ev ev' : List ℕ) (n i : ℕ) → 65 ≤ length ev → Replayed s l ev ev' n i → n ≡ 31
  -- where the list holds each event once, the replay answers 0 exactly if the list spells a valid sequential execution of the HOL specification
  pub sequential : (s l : List ℕ) → Passes s → AllKept (once_rules (execution_of s) l)
      → (ev ev' : List ℕ) (a i : ℕ) → 65 ≤ length ev → Replayed s l ev ev' a i
      → (a ≡ 0) ↔ valid_sequential_execution (structure_of (execution_of s)) (witness_of (execution_of s)).initial_state (along l)

-- ---- the starred slot cases

abbrev pub SlotCases : Type 0
SlotCases = AllRight slot_cases
