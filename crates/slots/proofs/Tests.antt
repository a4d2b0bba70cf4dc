-- The tests of the rules' statements.
use Prim.Native.Nat.{ℕ, ◌<◌}
use mathlib.Core.Path.{◌≡◌, refl, sym, ap, ap₂, ◌∙◌}
use mathlib.Core.List.{List}
use Rattle.order.specs.Least.{Some, None}
use Rattle.record.specs.Execution.{Instruction, Initial, Items, Execution}
use Rattle.record.specs.Words.{SamePlace, SameRegister, SameAddress, SameInstruction, Belongs, OfLock, Causes, InitialFor}
use Rattle.record.specs.declared.Event.{Event}
use Rattle.structure.specs.Structure.{Joining, Unordered, Eventless, Repeated}
use Rattle.model.specs.Model.{Reads, Writes, Locked, KeepsOrder, Preserved, Before, Source, HappensBefore, Sees, OrderFor}
use Rattle.model.specs.Rules.{Stands, Misplaced, WrongView, WrongStore, WrongLock, WrongSource, WritesPlace, Overwritten, Unsourced, NoInitial, Initially, BreaksUp, Torn}
use Rattle.sequences.specs.Sequence.{steps, Holds, TooLarge, WrongEvent, Reversed, Differs}
use Rattle.slots.proofs.Tested.{Tested, equal, less, most, both, three, four, five, seven, either, never, same, some, none}

-- ---- events

module _ (x y : Event) where
  abbrev pub same_address : Tested (SameAddress x y)
  same_address = both (less _ _) (both (less _ _) (equal _ _))

  abbrev pub same_register : Tested (SameRegister x y)
  same_register = both (most _ _) (both (most _ _) (both (equal _ _) (equal _ _)))

  abbrev pub same_place : Tested (SamePlace x y)
  same_place = either same_address same_register

  abbrev pub same_instruction : Tested (SameInstruction x y)
  same_instruction = both (equal _ _) (equal _ _)

abbrev pub reads : (x : Event) → Tested (Reads x)
reads x = either (equal _ _) (equal _ _)

abbrev pub writes : (x : Event) → Tested (Writes x)
writes x = either (equal _ _) (equal _ _)

abbrev pub belongs : (x : Event) (i : Instruction) → Tested (Belongs x i)
belongs x i = both (equal _ _) (equal _ _)

abbrev pub initial_for : (x : Event) (i : Initial) → Tested (InitialFor x i)
initial_for x i =
    either
    (both (less _ _) (both (equal _ _) (equal _ _)))
    (both (most _ _) (both (equal _ _) (both (equal _ _) (equal _ _))))

abbrev pub same_entry : (i j : Instruction) → Tested (i ≡ j)
same_entry i j =
    same
    (λ e. ap₂ (λ (p k : ℕ). made p k) e.0 e.1)
    (λ e. (ap (λ (x : Instruction). x.processor) e, ap (λ (x : Instruction). x.index) e))
    (both (equal i.processor j.processor) (equal i.index j.index))
  where
    made : ℕ → ℕ → Instruction
    made p k = record { processor = p; index = k }

-- ---- lists

module _ (l : Items ℕ) where
  abbrev pub before : (a b : ℕ) → Tested (Before l a b)
  before a b = some _ (λ j. some _ (λ i. both (equal _ _) (equal _ _)))

  abbrev pub stands : (e : ℕ) → Tested (Stands l e)
  stands e = some _ (λ i. equal _ _)

  unfoldable pub misplaced : (Due : Type 0) → Tested Due → (e : ℕ) → Tested (Misplaced Due l e)
  unfolding Misplaced
  misplaced Due d e = either (both d (never (stands e))) (either (both (never d) (stands e)) (before e e))

-- ---- the structure rules

module _ (z : Execution) where
  abbrev pub event : ℕ → Event
  event e = z.events.item e

  unfoldable pub causes : (a b : ℕ) → Tested (Causes z a b)
  unfolding Causes
  causes a b = some _ (λ i. both (equal _ _) (equal _ _))

  unfoldable pub joining : (i : ℕ) → Tested (Joining z i)
  unfolding Joining
  joining i = both (less _ _) (never (same_instruction (event (z.causes.item i).from) (event (z.causes.item i).to)))

  unfoldable pub unordered : (a b : ℕ) → Tested (Unordered z a b)
  unfolding Unordered
  unordered a b =
      seven
      (less _ _)
      (less _ _)
      (same_instruction (event a) (event b))
      (same_register (event a) (event b))
      (either (equal _ _) (equal _ _))
      (never (causes a b))
      (never (causes b a))

  unfoldable pub eventless : (i : ℕ) → Tested (Eventless z i)
  unfolding Eventless
  eventless i = both (less _ _) (none _ (λ e. belongs (event e) (z.locks.item i)))

  unfoldable pub repeated : (i : ℕ) → Tested (Repeated z i)
  unfolding Repeated
  repeated i = both (less _ _) (some _ (λ j. same_entry _ _))

  -- ---- the model

  unfoldable pub locked : (e : ℕ) → Tested (Locked z e)
  unfolding Locked
  locked e = some _ (λ i. belongs (event e) (z.locks.item i))

  unfoldable pub keeps_order : (a b : ℕ) → Tested (KeepsOrder z a b)
  unfolding KeepsOrder
  keeps_order a b =
      either (same_register (event a) (event b))
      (either (both (equal _ _) (equal _ _))
      (either (both (equal _ _) (equal _ _))
      (either (both (equal _ _) (equal _ _))
      (either (both (equal _ _) (both (equal _ _) (equal _ _))) (either (both (less _ _) (locked b)) (both (locked a) (less _ _)))))))

  abbrev pub preserved : (a b : ℕ) → Tested (Preserved z a b)
  preserved a b = three (less _ _) (less _ _) (both (both (equal _ _) (less _ _)) (keeps_order a b))

  abbrev pub of_lock : (i e : ℕ) → Tested (OfLock z i e)
  of_lock i e = both (less _ _) (belongs (event e) (z.locks.item i))

  unfoldable pub source : (a b : ℕ) → Tested (Source z a b)
  unfolding Source
  source a b = some _ (λ i. both (equal _ _) (equal _ _))

  unfoldable pub happens_before : (a b : ℕ) → Tested (HappensBefore z a b)
  unfolding HappensBefore
  happens_before a b =
      either (causes a b)
      (either (preserved a b)
      (either (both (before z.stores a b) (same_address (event a) (event b))) (either (some _ (λ j. some _ (λ i. both (of_lock _ a) (of_lock _ b)))) (source a b))))

  abbrev pub order_for : (p a b : ℕ) → Tested (OrderFor z p a b)
  order_for p a b = either (before (z.view p) a b) (happens_before a b)

  abbrev pub sees : (p e : ℕ) → Tested (Sees z p e)
  sees p e = both (less _ _) (either (equal _ _) (equal _ _))

  -- ---- the rules of the check

  unfoldable pub wrong_view : (p e : ℕ) → Tested (WrongView z p e)
  unfolding WrongView
  wrong_view p e = both (less _ _) (misplaced (z.view p) _ (sees p e) e)

  unfoldable pub wrong_store : (e : ℕ) → Tested (WrongStore z e)
  unfolding WrongStore
  wrong_store e = misplaced z.stores _ (both (less _ _) (equal _ _)) e

  unfoldable pub wrong_lock : (i : ℕ) → Tested (WrongLock z i)
  unfolding WrongLock
  wrong_lock i = misplaced z.lock_order _ (less _ _) i

  unfoldable pub wrong_source : (i : ℕ) → Tested (WrongSource z i)
  unfolding WrongSource
  wrong_source i =
      let w = event (z.sources.item i).from in
      let r = event (z.sources.item i).to in
      both (less _ _) (never (both (writes w) (both (reads r) (both (same_place w r) (equal _ _)))))

  abbrev pub writes_place : (x r : ℕ) → Tested (WritesPlace z x r)
  writes_place x r = both (writes (event x)) (same_place (event x) (event r))

  unfoldable pub overwritten : (p w r x : ℕ) → Tested (Overwritten z p w r x)
  unfolding Overwritten
  overwritten p w r x =
      seven
      (less _ _)
      (source w r)
      (both (sees p w) (sees p r))
      (never (equal _ _))
      (writes_place x r)
      (before (z.view p) w x)
      (before (z.view p) x r)

  -- no pair is to r
  abbrev pub sourceless : (r : ℕ) → Tested ((w : ℕ) → Source z w r → ⊥)
  unfolding Source
  sourceless r =
      same
      (λ h w q. h q.0 q.1 q.2.1)
      (λ h i l e. h (z.sources.item i).from (i, l, (refl, e)))
      (none z.sources.size (λ i. equal (z.sources.item i).to r))

  abbrev pub unsourced : (p r : ℕ) → Tested (Unsourced z p r)
  unsourced p r = four (less _ _) (sees p r) (reads (event r)) (sourceless r)

  abbrev pub no_initial : (x : Event) → Tested (NoInitial z x)
  no_initial x = none _ (λ i. initial_for x (z.initials.item i))

  -- entry i is the first for the place of x, and P holds of its value
  abbrev pub FirstFor : Event → (ℕ → Type 0) → ℕ → Type 0
  FirstFor x P i = InitialFor x (z.initials.item i) × None i (λ j. InitialFor x (z.initials.item j)) × P (z.initials.item i).value

  abbrev pub first_for : (x : Event) {P : ℕ → Type 0} → ((v : ℕ) → Tested (P v)) → Tested (Some z.initials.size (FirstFor x P))
  first_for x t = some _ (λ i. three (initial_for x (z.initials.item i)) (none _ (λ j. initial_for x (z.initials.item j))) (t _))

  abbrev pub initially : (x : Event) (v : ℕ) → Tested (Initially z x v)
  initially x v = first_for x (λ u. equal u v)

  abbrev pub otherwise : (x : Event) → Tested ((v : ℕ) × Initially z x v × (v ≡ x.value → ⊥))
  otherwise x =
      same
      (λ q. ((z.initials.item q.0).value, (q.0, q.1, (q.2.0, q.2.1, refl)), q.2.2))
      (λ q. (q.1.0, q.1.1, (q.1.2.0, q.1.2.1, λ e. q.2 (sym q.1.2.2 ∙ e))))
      (first_for x (λ v. never (equal v x.value)))

  unfoldable pub breaks_up : (l : Items ℕ) (a x b : ℕ) → Tested (BreaksUp z l a x b)
  unfolding BreaksUp
  breaks_up l a x b =
      five (locked a) (same_instruction (event a) (event b)) (never (same_instruction (event a) (event x))) (before l a x) (before l x b)

  unfoldable pub torn : (p a x b : ℕ) → Tested (Torn z p a x b)
  unfolding Torn
  torn p a x b = both (less _ _) (breaks_up (z.view p) a x b)

  -- ---- the rules of the replay

  module _ (l : List ℕ) where
    -- no step after j and before i writes the place of r
    abbrev pub none_since : (i r j : ℕ) → Tested ((k : ℕ) → j < k → k < i → WritesPlace z ((steps l).item k) r → ⊥)
    none_since i r j =
        same
        (λ h k g u q. h k u (g, q))
        (λ h k u q. h k q.0 u q.1)
        (none i (λ k. both (less j k) (writes_place ((steps l).item k) r)))

    abbrev pub holds : (i r v : ℕ) → Tested (Holds z l i r v)
    holds i r v =
        either
        (same
        (λ q. (q.0, (q.1, q.2.0, q.2.1), q.2.2))
        (λ q. (q.0, q.1.0, (q.1.1, q.1.2, q.2)))
        (some i (λ j. three (writes_place ((steps l).item j) r) (none_since i r j) (equal (z.events.item ((steps l).item j)).value v))))
        (both (none _ (λ j. writes_place ((steps l).item j) r)) (initially (event r) v))

    unfoldable pub too_large : (i : ℕ) → Tested (TooLarge z l i)
    unfolding TooLarge
    too_large i = both (less _ _) (most _ _)

    unfoldable pub wrong_event : (e : ℕ) → Tested (WrongEvent z l e)
    unfolding WrongEvent
    wrong_event e = misplaced (steps l) _ (less _ _) e

    unfoldable pub reversed : (a b : ℕ) → Tested (Reversed z l a b)
    unfolding Reversed
    reversed a b = both (either (causes a b) (preserved a b)) (before (steps l) b a)

    unfoldable pub differs : (i : ℕ) → Tested (Differs z l i)
    unfolding Differs
    differs i = let r = (steps l).item i in three (less _ _) (reads (event r)) (never (holds i r (event r).value))
