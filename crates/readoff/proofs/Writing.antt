-- The record that is read off, written section behind section; and the answers of the read-off.
use Prim.Native.Nat.{ℕ, ◌+◌, ◌-◌, ◌*◌, ◌<◌, ◌≤◌}
use mathlib.Core.Path.{◌≡◌, refl, sym, ◌∙◌, subst}
use mathlib.Core.Logic.{inl, inr}
use mathlib.Core.Bool.{Bool}
use mathlib.Core.List.{List, [], ◌∷◌, ◌++◌, append_assoc}
use native.Mathlib.Omega.{arith}
use native.Mathlib.Nat.{zero-add}
use lib.ListN.{length, take, length-append}
use lib.Seq.{length-take-le, get_or-take, ext_get_or}
use Rattle.std.specs.Prelude.{Ok, Err, EachIndex}
use Rattle.order.specs.Least.{Some}
use Rattle.order.specs.Rule.{Rule, Judged, AllKept}
use Rattle.order.specs.Evidence.{Written, Given}
use Rattle.order.proofs.Judgements.{judged_more, judged_then, given_kept}
use Rattle.order.proofs.Tests.{by_as}
use Rattle.rows.specs.Members.{Is}
use Rattle.form.specs.Form.{width, limit}
use Rattle.form.specs.Place.{start}
use Rattle.form.specs.Right.{Right}
use Rattle.form.specs.Whole.{whole}
use Rattle.form.specs.declared.Fault.{Fault}
use Rattle.form.proofs.Answers.{stop_answer}
use Rattle.record.specs.Execution.{Execution}
use Rattle.record.specs.Formed.{Formed}
use Rattle.record.specs.Says.{execution_of}
use Rattle.record.specs.Laid.{Laid}
use Rattle.record.specs.Words.{OfLock}
use Rattle.record.specs.declared.Layout.{Layout}
use Rattle.record.proofs.Formings.{formed}
use Rattle.facts.specs.Facts.{Sorted, Placed, Entered, Classed, Gathered}
use Rattle.facts.specs.declared.Classes.{Classes}
use Rattle.structure.specs.Examined.{examination}
use Rattle.structure.specs.Structure.{Repeated, structure_rules}
use Rattle.structure.proofs.Passing.{structure_numbered}
use Rattle.sequences.specs.Sequence.{steps, sequence_rules}
use Rattle.replay.specs.Known.{Narrowed}
use Rattle.sequences.specs.ReadOff.{is_store, picked, event, stores_of, locks_from, sources_from, read_off}
use Rattle.sequences.proofs.Tests.{store_decides}
use Rattle.form.specs.Bytes.{two_bytes, counted}
use Rattle.readoff.specs.Bytes.{pairs, views, bytes_of}
use Rattle.lent.specs.Put.{Put, PutTo}
use Rattle.readoff.specs.Written.{WrittenOff, ReadOff}
use Rattle.readoff.proofs.Blocks.{pairs_length}
use Rattle.sequences.proofs.Bounds.{once_kept, sequence_length, off_formed}
use Rattle.readoff.proofs.Pickings.{Picks}
use Rattle.readoff.proofs.Prefixes.{prefix_length}
use Rattle.lent.proofs.Puts.{put_then, put_length, put_written}

-- sections 0 to 5 at their limits
front_low : (s : List ℕ) → Right s → start s 6 ≤ 1866
unfolding limit width start
front_low s r =
    let a = r.section 2 (omega arith) (omega arith) in
    let b = r.section 3 (omega arith) (omega arith) in
    let c = r.section 4 (omega arith) (omega arith) in
    let d = r.section 5 (omega arith) (omega arith) in
    omega arith

-- bytes behind those that stand at the front
behind : (o m c w v : List ℕ) (to z : ℕ) → PutTo o 0 w m to → PutTo m to v c z → PutTo o 0 (w ++ v) c z
behind o m c w v to z (u, d) (q, e) = (put_then o m c w v 0 to u q d, omega (arith, length-append w v))

-- what is known where the record is written: the facts, a list that keeps the rules up to 31, its numbers the first bytes of b, and a buffer o
pub record Known (s : List ℕ) (y : Layout) (f q k : List ℕ) (c : Classes) (b o l : List ℕ) : Type 0 where
  pub facts : Gathered s y f q k c
  pub structure : AllKept (structure_rules (execution_of s))
  pub kept : AllKept (sequence_rules (execution_of s) l)
  pub bytes : Narrowed (execution_of s).events.size l b
  pub free : 2346 ≤ length o

module _ {s : List ℕ} {y : Layout} {f q k : List ℕ} {c : Classes} {b o l : List ℕ} (h : Known s y f q k c b o l) where
  abbrev z : Execution
  z = execution_of s

  laid : Laid s y
  laid = h.facts.ready.laid

  classed : Classed z c
  classed = h.facts.ready.classed

  right : Right s
  right = h.facts.ready.right

  form : Formed (read_off z l)
  form = off_formed z l (formed s right) h.structure (once_kept z l h.kept)

  long : y.events ≡ length l
  long = laid.events ∙ sym (sequence_length z l (once_kept z l h.kept))

  -- the list is the first bytes of b
  pub front_long : y.events ≡ length (take y.events b)
  front_long = let e = long in let f = h.bytes.fits in sym (length-take-le y.events b (omega arith))

  pub listed : take y.events b ≡ l
  listed =
      let e = long in
      let t = front_long in
      ext_get_or 0 (take y.events b) l (omega arith) (λ i a. get_or-take y.events b i 0 (omega arith) ∙ h.bytes.same i (omega arith))

  pub few : length l ≤ 64
  few = let e = long in let d = laid.events in let m = form.events.within in omega arith

  pub numbers : EachIndex l (λ i. (steps l).item i < 64)
  numbers i a = let x = h.bytes.low i a in let m = form.events.within in omega arith

  pub few_locks : y.locks.count ≤ 16
  few_locks = let e = laid.locks.number in let m = form.locks.within in omega arith

  pub few_processors : y.processors ≤ 4
  few_processors = let e = laid.processors in let m = form.processors in omega arith

  picks : Picks c.stores l (λ e. is_store (event z e))
  picks i a =
      let e = (steps l).item i in
      let is = classed.stores in
      by_as _ (λ q. is.has e (h.bytes.low i a, q)) (λ q. (is.says e q).1) (store_decides (event z e))

  -- what stands before section 6, before 7, 8 and 9
  abbrev till6 : List ℕ
  till6 = take (start s 6) s

  abbrev till7 : List ℕ
  till7 = till6 ++ counted (stores_of z l)

  abbrev till8 : List ℕ
  till8 = till7 ++ counted (locks_from z [] l)

  abbrev sources : List ℕ
  sources = two_bytes (length (sources_from z [] l)) ++ pairs (sources_from z [] l)

  abbrev till9 : List ℕ
  till9 = till8 ++ sources

  all : till9 ++ (two_bytes z.processors ++ views z l z.processors) ≡ bytes_of s l
  unfolding bytes_of
  all = simp append_assoc

  low6 : length till6 ≤ 1866
  low6 = omega (arith, prefix_length s [] right, front_low s right)

  low7 : length till7 ≤ 1932
  low7 = let m = form.stores.within in omega (arith, low6, length-append till6 (counted (stores_of z l)))

  low8 : length till8 ≤ 1950
  low8 = let m = form.lock_order.within in omega (arith, low7, length-append till7 (counted (locks_from z [] l)))

  low9 : length till9 ≤ 2080
  low9 =
      let m = form.sources.within in
      let n = pairs_length (sources_from z [] l) in
      omega (arith, low8, length-append till8 sources)

  -- ---- each is written where the one before it ended
  abbrev pub at6 : ℕ
  at6 = y.stores.at - 2

  place : at6 ≡ start s 6
  place = let e = laid.stores.place in omega arith

  room : (m w : List ℕ) (to k n : ℕ) → PutTo o 0 w m to → length w ≤ k → k + n ≤ 2346 → to + n ≤ length m
  room m w to k n (u, d) e g = let r = h.free in omega (arith, put_length o m w 0 u)

  pub front_fits : length (take at6 s) ≤ length o
  front_fits =
      let e = place in
      let m = (right.section 5 (omega arith) (omega arith)).fits in
      let u = h.free in
      let t = length-take-le at6 s (omega arith) in
      omega (arith, front_low s right)

  module _ (m6 : List ℕ) (p6 : Put o 0 (take at6 s) m6) where
    put6 : PutTo o 0 till6 m6 at6
    put6 = (rw place at p6, omega (arith, prefix_length s [] right))

    pub room6 : at6 + 2 + length l ≤ length m6
    room6 = let r = room m6 till6 at6 1866 66 put6 low6 (omega arith) in let n = few in omega arith

    module _
        (m7 : List ℕ) (at7 : ℕ)
        (p7 : (test : ℕ → Bool) → Picks c.stores l test → PutTo m6 at6 (counted (picked test l)) m7 at7) where
      put7 : PutTo o 0 till7 m7 at7
      put7 = behind o m6 m7 till6 (counted (stores_of z l)) at6 at7 put6 (p7 _ picks)

      pub room7 : at7 + 2 + length l ≤ length m7
      room7 = let r = room m7 till7 at7 1932 66 put7 low7 (omega arith) in let n = few in omega arith

      module _
          (m8 : List ℕ) (at8 : ℕ)
          (p8 : (x : Execution) → Entered x k → y.locks.count ≡ x.locks.size
          → Is c.locked (λ e. Some x.locks.size (λ j. OfLock x j e)) → ((j : ℕ) → Repeated x j → ⊥)
          → EachIndex l (λ i. (steps l).item i < x.events.size) → PutTo m7 at7 (counted (locks_from x [] l)) m8 at8) where
        put8 : PutTo o 0 till8 m8 at8
        put8 =
            behind o m7 m8 till7 (counted (locks_from z [] l)) at7 at8 put7
            (p8 z h.facts.entered laid.locks.number classed.locked (λ j r. h.structure.1.1.1.1.0 (j ∷ []) r) h.bytes.low)

        pub room8 : at8 + 2 + 2 * length l ≤ length m8
        room8 = let r = room m8 till8 at8 1950 130 put8 low8 (omega arith) in let n = few in omega arith

        module _
            (m9 : List ℕ) (at9 : ℕ)
            (p9 : (x : Execution) → Placed x q → Classed x c → EachIndex l (λ i. (steps l).item i < x.events.size)
            → PutTo m8 at8 (two_bytes (length (sources_from x [] l)) ++ pairs (sources_from x [] l)) m9 at9) where
          put9 : PutTo o 0 till9 m9 at9
          put9 =
              behind o m8 m9 till8 sources at8 at9 put8
              (p9 z h.facts.ready.placed classed h.bytes.low)

          pub room9 : at9 + 2 + y.processors * 66 ≤ length m9
          room9 = let r = room m9 till9 at9 2080 266 put9 low9 (omega arith) in let n = few_processors in omega arith

          pub written : (m : List ℕ) (to : ℕ)
              → ((x : Execution) → Sorted x f → Is c.stores (λ e. (e < x.events.size) × ((x.events.item e).kind ≡ 1))
              → EachIndex l (λ i. (steps l).item i < x.events.size) → PutTo m9 at9 (two_bytes y.processors ++ views x l y.processors) m to)
              → Written (bytes_of s l) o m to
          written m to p =
              let v = two_bytes z.processors ++ views z l z.processors in
              let e = laid.processors in
              let r = behind o m9 m till9 v at9 to put9 (rw e at (p z h.facts.sorted classed.stores h.bytes.low)) in
              let n : to ≡ length (till9 ++ v) = r.1 ∙ zero-add _ in
              rw (n, sym all) (put_written o m (till9 ++ v) r.0)

-- ---- the answers

-- the judgement by the rules up to 31, whose evidence is not handed out, and what is left in the buffer
abbrev pub Off : List ℕ → List ℕ → List ℕ → List ℕ → ℕ → ℕ → Type 0
Off s l o m a k = (e : List ℕ) × Judged (structure_rules (execution_of s) ++ sequence_rules (execution_of s) l) a e × WrittenOff s l o m a k

module _ (s u v : List ℕ) (n k : ℕ) (g : Given (Judged (structure_rules (execution_of s))) u v n k) where
  abbrev structure : List Rule
  structure = structure_rules (execution_of s)

  pub structure_kept : n ≡ 0 → AllKept (structure_rules (execution_of s))
  structure_kept e = given_kept structure [] u v (structure_numbered (execution_of s)) n k e g

  module _ (l : List ℕ) where
    abbrev sequence : List Rule
    sequence = sequence_rules (execution_of s) l

    pub off_structure : (n ≡ 0 → ⊥) → (o : List ℕ) → Off s l o o n 0
    off_structure f o = (g.0, judged_more structure sequence n g.0 f g.1, inr (f, refl, refl))

    module _ (e : n ≡ 0) (x y : List ℕ) (a j : ℕ) (q : Given (Judged (sequence_rules (execution_of s) l)) x y a j) where
      judged : Judged (structure ++ sequence) a q.0
      judged = judged_then structure sequence a q.0 (structure_kept e) q.1

      pub off_sequence : (a ≡ 0 → ⊥) → (o : List ℕ) → Off s l o o a 0
      off_sequence f o = (q.0, judged, inr (f, refl, refl))

      pub off_done : a ≡ 0 → (o m : List ℕ) (to : ℕ) → Written (bytes_of s l) o m to → Off s l o m 0 to
      off_done d o m to w = (q.0, subst (λ (i : ℕ). Judged (structure ++ sequence) i q.0) d judged, inl (refl, w))

module _ (s l o : List ℕ) (free : 2346 ≤ length o) where
  pub off_stop : (f : Fault) → whole s ≡ Err f → ReadOff s l o o f.answer 0
  unfolding examination
  off_stop f e = let h = stop_answer s f e in inr (free, (f.section ∷ [], rw e (refl, refl), inr (λ z. omega arith, refl, refl)))

  pub off_next : (at : ℕ) → whole s ≡ Ok at → (m : List ℕ) (a k : ℕ) → Off s l o m a k → ReadOff s l o m a k
  unfolding examination
  off_next at e m a k (d, j, w) = inr (free, (d, rw e j, w))
