-- The execution whose witness is read off from a sequence.
use Rattle.std.specs.Prelude.{ℕ, zero, suc, Bool, true, false, ◌&&◌, ◌||◌, not, List, [], ◌∷◌, ◌++◌, eqb, ltb}
use Rattle.record.specs.Execution.{Pair, Execution}
use Rattle.record.specs.declared.Event.{Event}
use Rattle.sequences.specs.Sequence.{items_of, steps}

-- ---- tests of events

abbrev pub is_store : Event → Bool
is_store x = eqb x.kind 1

abbrev pub is_read : Event → Bool
is_read x = eqb x.kind 0 || eqb x.kind 2

abbrev pub is_write : Event → Bool
is_write x = eqb x.kind 1 || eqb x.kind 3

abbrev pub same_place : Event → Event → Bool
same_place x y =
    (ltb x.kind 2 && (ltb y.kind 2 && eqb x.place y.place))
    || (not (ltb x.kind 2) && (not (ltb y.kind 2) && (eqb x.processor y.processor && eqb x.place y.place)))

-- ---- parts of a list, in its order

abbrev pub choose : {A : Type 0} → Bool → A → A → A
choose true a b = a
choose false a b = b

-- the numbers that pass the test
unfoldable pub picked : (ℕ → Bool) → List ℕ → List ℕ
picked test [] = []
picked test (e ∷ l) = choose (test e) (e ∷ picked test l) (picked test l)

abbrev pub pairs_to : ℕ → List ℕ → List Pair
pairs_to r [] = []
pairs_to r (w ∷ l) = record { from = w; to = r } ∷ pairs_to r l

-- what stands before a step is handed down as a list, the latest first
module _ (z : Execution) where
  abbrev pub event : ℕ → Event
  event e = z.events.item e

  -- the last write of r's place, if there is one
  unfoldable pub last_writer : List ℕ → ℕ → List ℕ
  last_writer [] r = []
  last_writer (w ∷ earlier) r = choose (is_write (event w) && same_place (event w) (event r)) (w ∷ []) (last_writer earlier r)

  -- section 8: each read's last earlier write of its place, in list order of the reads
  unfoldable pub sources_from : List ℕ → List ℕ → List Pair
  sources_from earlier [] = []
  sources_from earlier (e ∷ l) = choose (is_read (event e)) (pairs_to e (last_writer earlier e)) [] ++ sources_from (e ∷ earlier) l

  -- event e is of the locked instruction that is entry i
  abbrev pub of_entry : ℕ → ℕ → Bool
  of_entry i e = eqb (event e).processor (z.locks.item i).processor && eqb (event e).index (z.locks.item i).index

  unfoldable pub any_of : ℕ → List ℕ → Bool
  any_of i [] = false
  any_of i (e ∷ l) = of_entry i e || any_of i l

  -- the entries below n whose first event is e
  unfoldable pub entries_at : ℕ → List ℕ → ℕ → List ℕ
  entries_at zero earlier e = []
  entries_at (suc n) earlier e = choose (of_entry n e && not (any_of n earlier)) (n ∷ entries_at n earlier e) (entries_at n earlier e)

  -- section 7: the locked entries in list order
  unfoldable pub locks_from : List ℕ → List ℕ → List ℕ
  locks_from earlier [] = []
  locks_from earlier (e ∷ l) = entries_at z.locks.size earlier e ++ locks_from (e ∷ earlier) l

  -- section 6: the stores in list order
  abbrev pub stores_of : List ℕ → List ℕ
  stores_of l = picked (λ e. is_store (event e)) l

  -- section 9: what p sees, in list order
  abbrev pub view_of : ℕ → List ℕ → List ℕ
  view_of p l = picked (λ e. eqb (event e).processor p || is_store (event e)) l

  -- sections 0 to 5 as they are, the witness from the list
  abbrev pub read_off : List ℕ → Execution
  read_off l = record {
    processors = z.processors;
    events = z.events;
    causes = z.causes;
    locks = z.locks;
    initials = z.initials;
    stores = steps (stores_of l);
    lock_order = steps (locks_from [] l);
    sources = items_of (record { from = 0; to = 0 }) (sources_from [] l);
    view = λ p. steps (view_of p l);
  }
