-- The table of the slot cases holds: the judgement of each row, computed.
use Prim.Native.Nat.{ℕ}
use mathlib.Core.Path.{◌≡◌, refl, ap₂, subst₂}
use mathlib.Core.Bool.{Bool, true, false, ◌&&◌, false≢true}
use mathlib.Core.List.{List, [], ◌∷◌, ◌++◌}
use lib.Dec.{eqb}
use Rattle.std.specs.Prelude.{Ok, Err}
use Rattle.order.proofs.Tests.{by_eq}
use Rattle.form.specs.Bytes.{num}
use Rattle.form.specs.Steps.{Step, run, upto}
use Rattle.form.specs.Form.{width, limit, due, place_right, owner_right, event_fields, pair_fields, lock_fields, initial_fields, one_field, fields, entry, entries, block, sections, views}
use Rattle.form.specs.Place.{start, count, counts, entry_at, view_start}
use Rattle.form.specs.Whole.{head, tail, body, whole}
use Rattle.form.proofs.Rights.{whole_well}
use Rattle.form.proofs.Flags.{both}
use Rattle.record.specs.Execution.{Execution}
use Rattle.record.specs.Formed.{Formed}
use Rattle.record.specs.Says.{execution_of}
use Rattle.record.proofs.Formings.{formed}
use Rattle.structure.specs.Structure.{structure_rules}
use Rattle.structure.specs.Examined.{examined_by, examination}
use Rattle.slots.specs.Slots.{Operation, rules_of, Case, slot_cases, Right, AllRight}
use Rattle.slots.proofs.Tested.{any}
use Rattle.slots.proofs.Tests.{misplaced, causes, joining, unordered, eventless, repeated, locked, keeps_order, source, happens_before, wrong_view, wrong_store, wrong_lock, wrong_source, overwritten, breaks_up, torn, too_large, wrong_event, reversed, differs}
use Rattle.slots.proofs.Searching.{tuple}
use Rattle.slots.proofs.Rounds.{round}
use Rattle.slots.proofs.Bounds.{top}
use Rattle.slots.proofs.Initials.{initials}
use Rattle.slots.proofs.Judging.{Verdict, verdict, verdict_right}
use Rattle.slots.proofs.Rules.{searched}

-- ---- the examination, computed

abbrev pub computed_by : Step → Operation → Execution → Verdict
computed_by (Err f) o z = record { answer = f.answer; evidence = f.section ∷ [] }
computed_by (Ok n) o z = verdict (Formed z) (structure_rules z ++ rules_of o z) (searched o z)

unfoldable pub computed : List ℕ → Operation → Verdict
computed s o = computed_by (whole s) o (execution_of s)

pub computed_right : (s : List ℕ) (o : Operation) → examination s (rules_of o (execution_of s)) (computed s o).answer (computed s o).evidence
unfolding examination computed
computed_right s o = go (whole s) refl
  where
    z : Execution
    z = execution_of s

    go : (x : Step) → whole s ≡ x → examined_by x (structure_rules z ++ rules_of o z) (computed_by x o z).answer (computed_by x o z).evidence
    go (Err f) e = (refl, refl)
    go (Ok n) e = verdict_right (Formed z) (formed s (whole_well s n e)) _ (searched o z)

-- ---- the table

abbrev pub alike : List ℕ → List ℕ → Bool
alike [] [] = true
alike [] (b ∷ m) = false
alike (a ∷ l) [] = false
alike (a ∷ l) (b ∷ m) = eqb a b && alike l m

-- a row has what is computed
abbrev pub states : Case → Verdict → Bool
states c v = eqb v.answer c.answer && alike v.evidence c.evidence

unfoldable pub all_stated : List Case → Bool
all_stated [] = true
all_stated (c ∷ l) = states c (computed c.bytes c.operation) && all_stated l

alike_same : (l m : List ℕ) → alike l m ≡ true → l ≡ m
alike_same [] [] h = refl
alike_same [] (b ∷ m) h = absurd (false≢true h)
alike_same (a ∷ l) [] h = absurd (false≢true h)
alike_same (a ∷ l) (b ∷ m) h = let (e, r) = both (eqb a b) (alike l m) h in ap₂ ◌∷◌ ((by_eq a b).holds e) (alike_same l m r)

right : (c : Case) → states c (computed c.bytes c.operation) ≡ true → Right c
right c h =
    let v = computed c.bytes c.operation in
    let (a, e) = both (eqb v.answer c.answer) (alike v.evidence c.evidence) h in
    subst₂ (examination c.bytes (rules_of c.operation (execution_of c.bytes)))
    ((by_eq v.answer c.answer).holds a)
    (alike_same v.evidence c.evidence e)
    (computed_right c.bytes c.operation)

all_right : (l : List Case) → all_stated l ≡ true → AllRight l
unfolding all_stated
all_right [] h = tt
all_right (c ∷ l) h =
    let (a, r) = both (states c (computed c.bytes c.operation)) (all_stated l) h in (right c a, all_right l r)

all_stated_lem : all_stated slot_cases ≡ true
unfolding num run upto width limit due place_right owner_right event_fields pair_fields lock_fields initial_fields one_field fields entry entries block sections views start count counts entry_at view_start head tail body whole any misplaced causes joining unordered eventless repeated locked keeps_order source happens_before wrong_view wrong_store wrong_lock wrong_source overwritten breaks_up torn too_large wrong_event reversed differs tuple round top initials verdict computed all_stated
all_stated_lem = refl

pub slot_cases_lem : AllRight slot_cases
slot_cases_lem = all_right slot_cases all_stated_lem
