-- Each read's last earlier write of its place, written pair by pair in list order.
use Prim.Native.Nat.{ℕ, ◌+◌, ◌*◌, ◌-◌, ◌/◌, ◌<◌, ◌≤◌}
use mathlib.Core.Path.{◌≡◌, refl, ap, ◌∙◌}
use mathlib.Core.Logic.{◌⊎◌, inl, inr}
use mathlib.Core.Bool.{Bool, true, false}
use mathlib.Core.List.{List, [], ◌∷◌, ◌++◌}
use native.Mathlib.Omega.{arith}
use native.Mathlib.Numerals.{add-one}
use lib.ListN.{length, drop, set, length-set, drop_of_length-le}
use lib.Seq.{drop-cons}
use Rattle.std.specs.Prelude.{EachIndex}
use Rattle.order.specs.Least.{Some, None}
use Rattle.order.specs.Decides.{Decides}
use Rattle.rows.specs.Members.{In, Is}
use Rattle.rows.specs.declared.Set.{Set}
use Rattle.record.specs.Execution.{Pair, Execution}
use Rattle.facts.specs.Facts.{Placed, Classed}
use Rattle.facts.specs.declared.Classes.{Classes}
use Rattle.model.specs.Model.{Reads}
use Rattle.model.specs.Rules.{WritesPlace}
use Rattle.sequences.specs.Sequence.{steps, LastWrite}
use Rattle.replay.specs.Known.{StateAt}
use Rattle.sequences.specs.ReadOff.{choose, pairs_to, event, is_read, last_writer, sources_from}
use Rattle.replay.specs.declared.State.{State}
use Rattle.sequences.proofs.Pasts.{Past, past_next}
use Rattle.sequences.proofs.Sourcing.{Latest, last_writer_lem, last_unique}
use Rattle.replay.proofs.Stating.{read_known}
use Rattle.sequences.proofs.Tests.{read_decides}
use Rattle.form.specs.Bytes.{two_bytes}
use Rattle.readoff.specs.Bytes.{pairs}
use Rattle.lent.specs.Put.{Put, PutTo}
use Rattle.readoff.proofs.Blocks.{pairs_length}
use Rattle.readoff.proofs.Parts.{Part, part_none, part_more, part_ends, part_done}
use Rattle.readoff.proofs.Pickings.{chosen, left}

-- the table q and the classes c say what the execution does, and the numbers of the list are events
pub record Told (z : Execution) (l q : List ℕ) (c : Classes) : Type 0 where
  pub placed : Placed z q
  pub classed : Classed z c
  pub low : EachIndex l (λ i. (steps l).item i < z.events.size)

-- the memory state before step i
abbrev pub Remembered : List ℕ → List ℕ → Classes → ℕ → State → Type 0
Remembered l q c i m = (z : Execution) → Told z l q c → StateAt z l i m

-- the pairs of the first i numbers are written, and end at `to`
pub record Pairing (l q : List ℕ) (c : Classes) (before : List ℕ) (at : ℕ) (after : List ℕ) (to i : ℕ) : Type 0 where
  pub low : at + 2 ≤ to
  pub high : to ≤ at + 2 + 2 * i
  pub same : length after ≡ length before
  pub part : (z : Execution) → Told z l q c
      → (past : List ℕ) × Past (steps l).item i past
      × Part before at after to (pairs (sources_from z past (drop i l))) (pairs (sources_from z [] l))

-- the pair of event e, if it is a read with a write before it
abbrev own : Execution → ℕ → List ℕ → List Pair
own z e past = choose (is_read (event z e)) (pairs_to e (last_writer z past e)) []

-- what step i writes
module _ (l q : List ℕ) (c : Classes) (i : ℕ) (less : i < length l) where
  abbrev e : ℕ
  e = (steps l).item i

  abbrev pub Gives : List Pair → Type 0
  Gives o = (z : Execution) → Told z l q c → (past : List ℕ) → Past (steps l).item i past → own z e past ≡ o

  step_sources : (z : Execution) (past : List ℕ) → sources_from z past (drop i l) ≡ own z e past ++ sources_from z (e ∷ past) (drop (i + 1) l)
  unfolding sources_from
  step_sources z past = rw (drop-cons l i 0 less, add-one i)

  -- by the set of reads, and the memory state
  module _ (reads : Set) (ir : Is reads (λ k. In c.loads k ⊎ In c.gets k)) (r : Bool) (d : Decides r (In reads e)) where
    known : (z : Execution) → Told z l q c → Decides r (Reads (event z e))
    known z t = read_known z c t.classed reads e (t.low i less) r ir d

    pub gives_unread : r ≡ false → Gives []
    gives_unread f z t past u = left (is_read (event z e)) (pairs_to e (last_writer z past e)) [] (read_decides (event z e)) ((known z t).fails f)

    module _ (f : r ≡ true) (m : State) (hm : Remembered l q c i m) where
      gives : (o : List ℕ) → ((z : Execution) → Told z l q c → (x : List ℕ) → Latest z l e i x → x ≡ o) → Gives (pairs_to e o)
      gives o g z t past u =
          chosen (is_read (event z e)) (pairs_to e (last_writer z past e)) [] (read_decides (event z e)) ((known z t).holds f)
          ∙ ap (pairs_to e) (g z t (last_writer z past e) (last_writer_lem z l e i past u))

      pub gives_pair : (w : ℕ)
          → ((z : Execution) (k : List ℕ) (j : ℕ) → Placed z q → e < z.events.size → StateAt z k j m → Some j (λ i. ((steps k).item i ≡ w) × LastWrite z k j e i))
          → Gives (record { from = w; to = e } ∷ [])
      gives_pair w source = gives (w ∷ []) (λ z t x o. go z x (source z l i t.placed (t.low i less) (hm z t)) o)
        where
          go : (z : Execution) (x : List ℕ) → Some i (λ j. ((steps l).item j ≡ w) × LastWrite z l i e j) → Latest z l e i x → x ≡ w ∷ []
          go z x (j, a, (g, s)) (inl (k, v, y)) = y ∙ ap (λ (m : ℕ). m ∷ []) (ap (steps l).item (last_unique z l i e k j v s) ∙ g)
          go z x (j, a, (g, s)) (inr (v, y)) = absurd (v j a s.1)

      pub gives_none :
          ((z : Execution) (k : List ℕ) (j : ℕ) → Placed z q → e < z.events.size → StateAt z k j m → None j (λ i. WritesPlace z ((steps k).item i) e))
          → Gives []
      gives_none source = gives [] (λ z t x o. go z x (source z l i t.placed (t.low i less) (hm z t)) o)
        where
          go : (z : Execution) (x : List ℕ) → None i (λ j. WritesPlace z ((steps l).item j) e) → Latest z l e i x → x ≡ []
          go z x s (inl (k, v, y)) = absurd (s k v.0 v.1)
          go z x s (inr (v, y)) = y

module _ (l q : List ℕ) (c : Classes) (before : List ℕ) (at : ℕ) where
  pub pairing_none : at + 2 ≤ length before → Pairing l q c before at before (at + 2) 0
  pairing_none h = record {
    low = omega arith;
    high = omega arith;
    same = refl;
    part = λ z t. ([], refl, part_none before (pairs (sources_from z [] l)) at h);
  }

  module _ (after : List ℕ) (to i : ℕ) (p : Pairing l q c before at after to i) where
    module _ (less : i < length l) where
      abbrev here : ℕ
      here = (steps l).item i

      rest : (o : List Pair) → Gives l q c i less o → (z : Execution) → Told z l q c
          → (past : List ℕ) × Past (steps l).item (i + 1) past
          × Part before at after to (pairs (o ++ sources_from z past (drop (i + 1) l))) (pairs (sources_from z [] l))
      rest o g z t =
          let (past, u, v) = p.part z t in
          let k =
          step_sources l q c i less z past ∙ ap (λ (x : List Pair). x ++ sources_from z (here ∷ past) (drop (i + 1) l)) (g z t past u) in
          (here ∷ past, rw (add-one i) (past_next (steps l).item i here past u refl), rw k at v)

      pub pairing_more : (w : ℕ) → Gives l q c i less (record { from = w; to = here } ∷ []) → to + 1 < length before
          → Pairing l q c before at (set (set after to w) (to + 1) here) (to + 2) (i + 1)
      unfolding pairs
      pairing_more w g h =
          let u = p.low in
          let v = p.high in
          let two : to + 1 + 1 ≡ to + 2 = omega arith in
          record {
            low = omega arith;
            high = omega arith;
            same = length-set (set after to w) (to + 1) here ∙ length-set after to w ∙ p.same;
            part = λ z t.
                let (past, x, y) = rest (record { from = w; to = here } ∷ []) g z t in (
                  past,
                  x,
                  rw two at (part_more before (set after to w) _ _ at (to + 1) here (part_more before after (here ∷ _) _ at to w y (omega arith)) h),
                );
          }

      pub pairing_skip : Gives l q c i less [] → Pairing l q c before at after to (i + 1)
      pairing_skip g =
          let v = p.high in
          record { low = p.low; high = omega arith; same = p.same; part = rest [] g }

    pub pairing_done : length l ≤ i → (d : List ℕ) → Put after at (two_bytes ((to - at - 2) / 2)) d → (z : Execution) → Told z l q c
        → PutTo before at (two_bytes (length (sources_from z [] l)) ++ pairs (sources_from z [] l)) d to
    unfolding sources_from pairs
    pairing_done h d g z t =
        let (past, u, v) = p.part z t in
        let y : drop i l ≡ [] = drop_of_length-le l h in
        let r : Part before at after to [] (pairs (sources_from z [] l)) = rw y at v in
        let w = part_ends before after (pairs (sources_from z [] l)) at to r in
        let k : (to - at - 2) / 2 ≡ length (sources_from z [] l) = omega (arith, pairs_length (sources_from z [] l)) in
        part_done before after (pairs (sources_from z [] l)) at to r d (length (sources_from z [] l)) (rw k at g)
