-- The round trip: the record that is read off passes form and structure, says what was meant, and is short enough.
use Prim.Native.Nat.{ℕ, ◌+◌, ◌<◌, ◌≤◌}
use mathlib.Core.Path.{◌≡◌, refl, sym, ◌∙◌}
use mathlib.Core.List.{List, [], ◌++◌}
use native.Mathlib.Omega.{arith}
use native.Mathlib.Decide.{ℕ_discrete, dec_lt}
use lib.ListN.{length, take}
use Rattle.order.specs.Rule.{Judged, AllKept}
use Rattle.order.proofs.Judgements.{judged_then}
use Rattle.form.specs.Place.{start, counts}
use Rattle.form.specs.Right.{Block, Right}
use Rattle.record.specs.Execution.{Execution}
use Rattle.record.specs.Formed.{Formed}
use Rattle.record.specs.Says.{execution_of}
use Rattle.record.specs.Words.{Causes}
use Rattle.record.proofs.Lengths.{length_low}
use Rattle.structure.specs.Examined.{examination}
use Rattle.structure.specs.Structure.{Joining, Unordered, Eventless, Repeated, structure_rules}
use Rattle.structure.proofs.Passing.{passed}
use Rattle.model.specs.Agree.{Agree}
use Rattle.model.specs.Validity.{Passes}
use Rattle.model.proofs.Agreeing.{agree_sym, structure_agree}
use Rattle.sequences.specs.Sequence.{sequence_rules}
use Rattle.sequences.specs.ReadOff.{read_off}
use Rattle.readoff.specs.Bytes.{witness, bytes_of}
use Rattle.sequences.proofs.Bounds.{once_kept, off_formed}
use Rattle.readoff.proofs.Layouts.{views_count, views_end, stores_alike, locks_alike, sources_alike, view_alike, stores_right, locks_right, sources_right, view_right}
use Rattle.readoff.proofs.Prefixes.{prefix_length, prefix_form, prefix_processors, prefix_start, prefix_count, prefix_block, prefix_events, prefix_causes, prefix_locks, prefix_initials}
use Rattle.readoff.proofs.Wholes.{right_whole}

-- the record s passes form and structure, and the list holds each of its events once, those of each locked instruction together
abbrev pub Sequence : List ℕ → List ℕ → Type 0
Sequence s l = Passes s × AllKept (sequence_rules (execution_of s) l)

module _ (s l : List ℕ) (r : Right s) (f : Formed (read_off (execution_of s) l)) where
  abbrev z : Execution
  z = execution_of s

  abbrev w : List ℕ
  w = witness z l

  abbrev front : List ℕ
  front = take (start s 6) s

  abbrev bytes : List ℕ
  bytes = front ++ w

  six : start bytes 6 ≡ length front
  six = prefix_start s w r 6 (omega arith) ∙ sym (prefix_length s w r)

  same_events : (counts bytes).events ≡ z.events.size
  unfolding counts
  same_events = prefix_count s w r 2 (omega arith) (omega arith)

  same_locks : (counts bytes).locks ≡ z.locks.size
  unfolding counts
  same_locks = prefix_count s w r 4 (omega arith) (omega arith)

  section_right : (k : ℕ) → 2 ≤ k → k < 9 → Block (counts bytes) bytes k (start bytes k) (start bytes (k + 1))
  section_right k a b = go (dec_lt k 6) (ℕ_discrete k 6) (ℕ_discrete k 7)
    where
      go : Dec (k < 6) → Dec (k ≡ 6) → Dec (k ≡ 7) → Block (counts bytes) bytes k (start bytes k) (start bytes (k + 1))
      go (yes h) d e = prefix_block s w r k a h
      go (no h) (yes d) e = rw d (stores_right z l f front bytes refl six same_events same_locks)
      go (no h) (no d) (yes e) = rw e (locks_right z l f front bytes refl six same_events same_locks)
      go (no h) (no d) (no e) = let g : k ≡ 8 = omega arith in rw g (sources_right z l f front bytes refl six same_events same_locks)

  off_right : Right (bytes_of s l)
  unfolding bytes_of
  off_right = record {
    form = prefix_form s w r;
    processors = rw (prefix_processors s w r) r.processors;
    section = section_right;
    views = rw (prefix_processors s w r) (views_count z l f front bytes refl six);
    view = λ p h. view_right z l f front bytes refl six same_events same_locks p (rw (prefix_processors s w r) at h);
    ends = rw (prefix_processors s w r) (views_end z l f front bytes refl six);
  }

  off_agrees : Agree (execution_of (bytes_of s l)) (read_off (execution_of s) l)
  unfolding bytes_of
  off_agrees = record {
    processors = prefix_processors s w r;
    events = prefix_events s w r;
    causes = prefix_causes s w r;
    locks = prefix_locks s w r;
    initials = prefix_initials s w r;
    stores = stores_alike z l f front bytes refl six;
    lock_order = locks_alike z l f front bytes refl six;
    sources = sources_alike z l f front bytes refl six;
    view = λ p h. view_alike z l f front bytes refl six p (rw (prefix_processors s w r) at h);
  }

-- a record that has the form and keeps the structure rules passes
right_passes : (s : List ℕ) → Right s → AllKept (structure_rules (execution_of s)) → Passes s
unfolding examination Judged
right_passes s r k = rw (right_whole s r) (judged_then (structure_rules (execution_of s)) [] 0 [] k (refl, refl))

-- the structure rules look at sections 2 to 4 alone, which are as they were
pub round_trip : (s l : List ℕ) → Sequence s l
    → Passes (bytes_of s l) × Agree (execution_of (bytes_of s l)) (read_off (execution_of s) l) × (length (bytes_of s l) ≤ 2346)
unfolding Joining Causes Unordered Eventless Repeated
round_trip s l (p, k) =
    let q = passed s p in
    let form = off_formed _ l q.form q.structure (once_kept _ l k) in
    let right = off_right s l q.right form in
    let agrees = off_agrees s l q.right form in
    (right_passes _ right (structure_agree _ _ (agree_sym _ _ agrees) form q.structure), agrees, length_low _ right)
