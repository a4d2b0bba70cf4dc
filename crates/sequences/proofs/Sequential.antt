-- The replay accepts exactly the valid sequential executions of the HOL specification.
use Prim.Native.Nat.{ℕ, ◌<◌}
use mathlib.Core.Path.{◌≡◌, refl, sym, ◌∙◌, subst}
use mathlib.Core.Logic.{◌⊎◌, inl, inr}
use mathlib.Core.List.{List, [], ◌∷◌}
use lib.ListN.{length}
use native.Mathlib.Omega.{arith}
use native.Mathlib.Decide.{ℕ_discrete}
use Rattle.order.specs.Least.{Some}
use Rattle.order.specs.Rule.{Kept, AllKept, rule}
use Rattle.order.proofs.Searches.{of_any}
use Rattle.record.specs.Execution.{Execution}
use Rattle.record.specs.Formed.{Formed}
use Rattle.record.specs.Words.{Causes, OfLock}
use Rattle.structure.specs.Structure.{Joining, Unordered, Eventless, Repeated, structure_rules}
use Rattle.model.specs.Hol.{EventStructure, ExecutionWitness, valid_execution}
use Rattle.model.specs.Model.{Reads, Writes, Locked, Before, StoreOrder, LockedOrder, Source}
use Rattle.model.specs.Rules.{WritesPlace, BreaksUp, check_rules}
use Rattle.model.specs.Says.{structure_of, witness_of, Spelled}
use Rattle.model.proofs.Decisions.{certain, dec_instruction}
use Rattle.model.proofs.Validity.{kept_valid, valid_kept}
use Rattle.model.proofs.Lists.{Proper, before_ends, before_upto, before_or, before_trans, before_differ, upto_ends, upto_before, upto_linear, one_place}
use Rattle.model.proofs.Words.{store_is, writes_is, reads_is, seen_is, place_is, address_of}
use Rattle.sequences.specs.Sequence.{steps, LastWrite, BrokenUp, once_rules, sequence_rules, step_rules, replay_rules}
use Rattle.sequences.specs.ReadOff.{event, read_off}
use Rattle.sequences.specs.Sequential.{sequential_execution, so_to_vo, so_to_write_serialization, so_to_lock_serialization, so_to_rfmap, so_to_exec_witness, valid_sequential_execution, along, SameWitness, ReplayValid}
use Rattle.sequences.proofs.Bounds.{stores_proper, views_proper, off_formed}
use Rattle.sequences.proofs.Agreement.{sequence_agrees}
use Rattle.sequences.proofs.Locking.{locks_proper, locked_along}
use Rattle.sequences.proofs.Members.{each_once}
use Rattle.sequences.proofs.Picking.{picked_before, before_picked, picked_upto, upto_picked}
use Rattle.sequences.proofs.Reading.{between_not}
use Rattle.sequences.proofs.Sourcing.{SourceAt, source_at, at_source}
use Rattle.sequences.proofs.Tests.{sees_decides, store_decides}
use Rattle.sequences.proofs.Witnesses.{same_sym, valid_same}

module _ (z : Execution) (l : List ℕ) (full : Proper (steps l) (λ e. e < z.events.size)) where
  abbrev at : ℕ → ℕ
  at = (steps l).item

  abbrev E : EventStructure
  E = structure_of z

  -- ---- 31

  kept_sequential : Kept (rule 31 3 (BrokenUp z l)) → sequential_execution E (along l)
  unfolding BreaksUp Locked
  kept_sequential k = (upto_linear _ _ full, λ i h a x b y e (u, v). go i h a x b y e u v (ℕ_discrete a e) (ℕ_discrete e b))
    where
      go : (i : ℕ) → i < z.locks.size → (a : ℕ) → OfLock z i a → (b : ℕ) → OfLock z i b → (e : ℕ) → along l a e → along l e b
          → Dec (a ≡ e) → Dec (e ≡ b) → OfLock z i e
      go i h a x b y e u v (yes q) d = subst (OfLock z i) q x
      go i h a x b y e u v (no n) (yes q) = subst (OfLock z i) (sym q) y
      go i h a (ha, oa) b (hb, ob) e u v (no n) (no m) =
          let same = certain (dec_instruction (event z a) (event z e)) (λ g. k (a ∷ e ∷ b ∷ []) (
            (i, h, oa),
            (oa.0 ∙ sym ob.0, oa.1 ∙ sym ob.1),
            g,
            upto_before _ a e u n,
            upto_before _ e b v m,
          )) in
          (full.due e (upto_ends _ a e u).1, (sym same.0 ∙ oa.0, sym same.1 ∙ oa.1))

  sequential_kept : sequential_execution E (along l) → Kept (rule 31 3 (BrokenUp z l))
  unfolding BreaksUp Locked
  sequential_kept (o, c) w q =
      let (a, (x, (b, ((i, h, oa), same, other, ax, xb)))) = of_any 3 (BrokenUp z l) w q in
      let ha = full.due a (before_ends _ a x ax).0 in
      let hb = full.due b (before_ends _ x b xb).1 in
      let ox = c i h a (ha, oa) b (hb, (sym same.0 ∙ oa.0, sym same.1 ∙ oa.1)) x (before_upto _ a x ax, before_upto _ x b xb) in
      other (oa.0 ∙ sym ox.1.0, oa.1 ∙ sym ox.1.1)

  -- ---- the witness

  module _ (f : Formed z) where
    vo_to : (p a b : ℕ) → (witness_of (read_off z l)).vo p a b → so_to_vo E (along l) p a b
    vo_to p a b (h, u) =
        let (q, x, y) = picked_upto _ _ (sees_decides z p) l a b u in
        let (s, t) = upto_ends _ a b q in
        (h, (q, (seen_is z f p a).1 (full.due a s, x), (seen_is z f p b).1 (full.due b t, y)))

    to_vo : (p a b : ℕ) → so_to_vo E (along l) p a b → (witness_of (read_off z l)).vo p a b
    to_vo p a b (h, (u, x, y)) =
        (h, upto_picked _ _ (sees_decides z p) l a b u ((seen_is z f p a).0 x).1 ((seen_is z f p b).0 y).1)

    stores_to : (a b : ℕ) → StoreOrder (read_off z l) a b → so_to_write_serialization E (along l) a b
    stores_to a b (q, same) =
        let p = stores_proper z l full in
        let (s, t) = before_ends _ a b q in
        let (ha, x) = p.due a s in
        let (hb, y) = p.due b t in (
          (before_upto _ a b (picked_before _ _ (λ e. store_decides (event z e)) l a b q), before_differ _ p.single a b q),
          (store_is z f a ha).1 x,
          (store_is z f b hb).1 y,
          (place_is z f a b).1 (inl same),
        )

    to_stores : (a b : ℕ) → so_to_write_serialization E (along l) a b → StoreOrder (read_off z l) a b
    to_stores a b ((u, n), x, y, same) =
        let (s, t) = upto_ends _ a b u in
        let sa = (store_is z f a (full.due a s)).0 x in
        let sb = (store_is z f b (full.due b t)).0 y in
        (before_picked _ _ (λ e. store_decides (event z e)) l a b (upto_before _ a b u n) sa sb, address_of z f a b (omega arith) same)

    -- a write is no read
    apart : (w r : ℕ) → Writes (event z w) → Reads (event z r) → w ≡ r → ⊥
    apart w r x y e = go (rw e at x) y
      where
        go : Writes (event z r) → Reads (event z r) → ⊥
        go (inl a) (inl b) = omega arith
        go (inl a) (inr b) = omega arith
        go (inr a) (inl b) = omega arith
        go (inr a) (inr b) = omega arith

    to_rfmap : (w r : ℕ) → so_to_rfmap E (along l) w r → Source (read_off z l) w r
    to_rfmap w r (u, x, y, same, none) = go (upto_before _ w r u (apart w r ((writes_is z f w).0 x).1 ((reads_is z f r).0 y).1))
      where
        go : Before (steps l) w r → Source (read_off z l) w r
        go (i, hi, (j, hj, (ej, ei))) = at_source z l w r i hi (ei, ((reads_is z f r).0 y).1, (j, last, ej))
          where
            last : LastWrite z l i r j
            last = (
              hj,
              rw ej (((writes_is z f w).0 x).1, (place_is z f w r).0 (sym same)),
              λ k jk ki (v, at-r).
                  none (at k) ((writes_is z f (at k)).1 (full.due (at k) (k, omega arith, refl), v)) (
                    λ e. let n = one_place _ full.single w j k (omega arith) (omega arith) ej (sym e) in omega arith,
                    (k, omega arith, (j, omega arith, (ej, refl))),
                    (i, hi, (k, omega arith, (refl, ei))),
                  )
                  (sym same ∙ sym ((place_is z f (at k) r).1 at-r)),
            )

    rfmap_to : (w r : ℕ) → Source (read_off z l) w r → so_to_rfmap E (along l) w r
    rfmap_to w r s = go (source_at z l w r s)
      where
        go : Some (length l) (SourceAt z l w r) → so_to_rfmap E (along l) w r
        go (i, hi, (ei, d, (j, (hj, u, last), ej))) = (
          (i, hi, (j, omega arith, (ej, ei))),
          (writes_is z f w).1 (full.due w (j, omega arith, ej), fit.0),
          (reads_is z f r).1 (full.due r (i, hi, ei), d),
          sym ((place_is z f w r).1 fit.1),
          λ v x (n, wv, vr) e.
              let y = ((writes_is z f v).0 x).1 in
              let here = (place_is z f v r).0 (sym e ∙ (place_is z f w r).1 fit.1) in
              between_not z l full w r v s (y, here) (upto_before _ w v wv n) (upto_before _ v r vr (apart v r y d)),
        )
          where
            fit : WritesPlace z w r
            fit = subst (λ (x : ℕ). WritesPlace z x r) ej u

    module _ (some : (i : ℕ) → Eventless z i → ⊥) (repeats : (i : ℕ) → Repeated z i → ⊥) (unbroken : (a x b : ℕ) → BrokenUp z l a x b → ⊥) where
      order : Proper (read_off z l).lock_order (λ i. i < z.locks.size)
      order = locks_proper z l full some

      locks_to : (a b : ℕ) → LockedOrder (read_off z l) a b → so_to_lock_serialization E (along l) a b
      locks_to a b q = go q (locked_along z l full some repeats unbroken a b q)
        where
          go : LockedOrder (read_off z l) a b → Before (steps l) a b → so_to_lock_serialization E (along l) a b
          go (j, h, (i, g, (x, y))) s = (
            (before_upto _ a b s, before_differ _ full.single a b s),
            (
              _,
              _,
              order.due _ (i, omega arith, refl),
              order.due _ (j, h, refl),
              λ e. order.single _ (j, h, (i, g, (e, refl))),
              x,
              y,
            ),
          )

      to_locks : (a b : ℕ) → so_to_lock_serialization E (along l) a b → LockedOrder (read_off z l) a b
      to_locks a b ((u, d), (i, j, hi, hj, n, x, y)) = go (before_or _ i j (order.stands i hi) (order.stands j hj) n)
        where
          locked : (i j a b : ℕ) → OfLock z i a → OfLock z j b → Before (read_off z l).lock_order i j → LockedOrder (read_off z l) a b
          locked i j a b x y (m, h, (k, g, (ei, ej))) =
              (m, h, (k, g, (subst (λ (n : ℕ). OfLock z n a) (sym ei) x, subst (λ (n : ℕ). OfLock z n b) (sym ej) y)))

          go : Before (read_off z l).lock_order i j ⊎ Before (read_off z l).lock_order j i → LockedOrder (read_off z l) a b
          go (inl q) = locked i j a b x y q
          go (inr q) =
              let back = locked_along z l full some repeats unbroken b a (locked j i b a y x q) in
              absurd (full.single a (before_trans _ full.single a b a (upto_before _ a b u d) back))

      same_witness : SameWitness (witness_of (read_off z l)) (so_to_exec_witness E (witness_of z).initial_state (along l))
      same_witness = record {
        initial_state = λ o v. (λ q. q, λ q. q);
        vo = λ p a b. (vo_to p a b, to_vo p a b);
        write_serialization = λ a b. (stores_to a b, to_stores a b);
        lock_serialization = λ a b. (locks_to a b, to_locks a b);
        rfmap = λ a b. (rfmap_to a b, to_rfmap a b);
      }

-- ---- the replay

module _ (z : Execution) (f : Formed z) (s : AllKept (structure_rules z)) (l : List ℕ) (k : AllKept (once_rules z l)) where
  full : Proper (steps l) (λ e. e < z.events.size)
  full = each_once z l k.1.1.0

  some : (i : ℕ) → Eventless z i → ⊥
  some i q = s.1.1.1.0 (i ∷ []) q

  -- the lists that are read off are orders
  off_spelled : Spelled (read_off z l)
  off_spelled = record {
    views = λ p h. (views_proper z l full p).single;
    stores = λ e. let p = stores_proper z l full in (p.due e, p.stands e);
    locks = λ i. let p = locks_proper z l full some in (p.due i, p.stands i);
  }

  -- what is read off has the event structure that was given
  checked_valid : AllKept (check_rules (read_off z l)) → valid_execution (structure_of z) (witness_of (read_off z l))
  unfolding Causes
  checked_valid c = (kept_valid (read_off z l) (off_formed z l f s k) c).1

  valid_checked : valid_execution (structure_of z) (witness_of (read_off z l)) → AllKept (check_rules (read_off z l))
  unfolding Joining Causes Unordered Eventless Repeated
  valid_checked v = valid_kept (read_off z l) (off_formed z l f s k) s (off_spelled, v)

  abbrev X : ExecutionWitness
  X = so_to_exec_witness (structure_of z) (witness_of z).initial_state (along l)

  module _ (u : Kept (rule 31 3 (BrokenUp z l))) where
    in_sequence : AllKept (sequence_rules z l)
    in_sequence = (k.0, (k.1.0, (k.1.1.0, (u, tt))))

    same : SameWitness (witness_of (read_off z l)) X
    same = same_witness z l full f some (λ i q. s.1.1.1.1.0 (i ∷ []) q) (λ a x b q. u (a ∷ x ∷ b ∷ []) q)

    steps_valid : AllKept (step_rules z l) → valid_execution (structure_of z) X
    steps_valid r = valid_same _ _ _ same (checked_valid ((sequence_agrees z f s l in_sequence).0 r))

    valid_steps : valid_execution (structure_of z) X → AllKept (step_rules z l)
    valid_steps v = (sequence_agrees z f s l in_sequence).1 (valid_checked (valid_same _ _ _ (same_sym _ _ same) v))

  replay_to : AllKept (replay_rules z l) → valid_sequential_execution (structure_of z) (witness_of z).initial_state (along l)
  replay_to (k28, (k29, (k30, (k31, r)))) = (kept_sequential z l full k31, steps_valid k31 r)

  to_replay : valid_sequential_execution (structure_of z) (witness_of z).initial_state (along l) → AllKept (replay_rules z l)
  to_replay (q, v) = let u = sequential_kept z l full q in (k.0, (k.1.0, (k.1.1.0, (u, valid_steps u v))))

pub replay_valid : ReplayValid
replay_valid z f s l k = record {
  sequential = (kept_sequential z l (full z f s l k), sequential_kept z l (full z f s l k));
  witness = same z f s l k;
  valid = (replay_to z f s l k, to_replay z f s l k);
}
