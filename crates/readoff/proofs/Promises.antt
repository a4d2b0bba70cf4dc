-- What the contracts of the replay, the read-off and the check promise together: one result, and demand 3.
use Prim.Native.Nat.{ℕ, ◌≤◌}
use mathlib.Core.Path.{◌≡◌, sym, ap, subst, ◌∙◌}
use mathlib.Core.Logic.{◌↔◌, inl, inr}
use mathlib.Core.List.{List, ◌++◌}
use native.Mathlib.Omega.{arith}
use lib.ListN.{length, take, drop}
use lib.Seq.{take-append_seam}
use Rattle.order.specs.Rule.{AllKept}
use Rattle.order.proofs.Judgements.{zero_judged}
use Rattle.record.specs.Says.{execution_of}
use Rattle.structure.proofs.Examining.{examination_unique, answered_judged}
use Rattle.structure.proofs.Passing.{passed}
use Rattle.model.specs.Validity.{Passes}
use Rattle.model.specs.Rules.{check_rules}
use Rattle.judge.specs.Checked.{Checked}
use Rattle.sequences.specs.Sequence.{BrokenUp, once_rules, sequence_rules, replay_rules}
use Rattle.replay.specs.Replayed.{Replayed}
use Rattle.readoff.specs.Bytes.{bytes_of}
use Rattle.readoff.specs.Written.{WrittenOff, ReadOff}
use Rattle.readoff.proofs.RoundTrips.{Sequence}
use Rattle.readoff.proofs.Agreement.{replay_agrees, break_answered}

module _ (s l : List ℕ) where
  written_unique : (before x y : List ℕ) (a b k m : ℕ) → a ≡ b → WrittenOff s l before x a k → WrittenOff s l before y b m → (k ≡ m) × (x ≡ y)
  written_unique before x y a b k m e (inl (z, (i, p))) (inl (w, (j, q))) =
      let same = i ∙ sym j in (same, p ∙ ap (λ (n : ℕ). bytes_of s l ++ drop n before) same ∙ sym q)
  written_unique before x y a b k m e (inl (z, p)) (inr (w, q, r)) = absurd (w (sym e ∙ z))
  written_unique before x y a b k m e (inr (z, p, r)) (inl (w, q)) = absurd (z (e ∙ w))
  written_unique before x y a b k m e (inr (z, i, p)) (inr (w, j, q)) = (i ∙ sym j, p ∙ sym q)

  -- two results that the read-off's contract allows are one: the answer, the length, and every byte of the buffer
  pub read_off_unique : (before x y : List ℕ) (a b k m : ℕ) → ReadOff s l before x a k → ReadOff s l before y b m → (a ≡ b) × (k ≡ m) × (x ≡ y)
  read_off_unique before x y a b k m (inl p) (inl q) = (p.1 ∙ sym q.1, p.2 ∙ sym q.2, p.3 ∙ sym q.3)
  read_off_unique before x y a b k m (inl p) (inr q) = let u = p.0 in let v = q.0 in absurd (omega arith)
  read_off_unique before x y a b k m (inr p) (inl q) = let u = p.0 in let v = q.0 in absurd (omega arith)
  read_off_unique before x y a b k m (inr (h, (d, i, w))) (inr (g, (e, j, v))) =
      let same = (examination_unique s (sequence_rules (execution_of s) l) a b d e i j).0 in
      let rest = written_unique before x y a b k m same w v in
      (same, rest.0, rest.1)

  -- a sequence that keeps the rules up to 31 is written
  pub read_off_written : Sequence s l → (before after : List ℕ) (a k : ℕ) → 2346 ≤ length before → ReadOff s l before after a k
      → (a ≡ 0) × (take k after ≡ bytes_of s l)
  read_off_written q before after a k h (inl p) = let u = p.0 in absurd (omega arith)
  read_off_written (p, kept) before after a k h (inr (g, (e, j, w))) =
      let zero = (zero_judged (sequence_rules (execution_of s) l) a e kept ((passed s p).judged (sequence_rules (execution_of s) l) a e j)).0 in
      (zero, go zero w)
    where
      go : a ≡ 0 → WrittenOff s l before after a k → take k after ≡ bytes_of s l
      go z (inl (y, (i, q))) = rw (i, q) (take-append_seam (bytes_of s l) _)
      go z (inr (y, i, q)) = absurd (y z)

  -- demand 3: the replay answers 0 exactly if the check answers 0 on what the read-off wrote
  pub replay_check : Sequence s l
      → (ev ev' : List ℕ) (a i : ℕ) → 65 ≤ length ev → Replayed s l ev ev' a i
      → (out out' : List ℕ) (b k : ℕ) → 2346 ≤ length out → ReadOff s l out out' b k
      → (w w' : List ℕ) (c j : ℕ) → 65 ≤ length w → Checked (take k out') w w' c j
      → (b ≡ 0) × ((a ≡ 0) ↔ (c ≡ 0))
  replay_check q ev ev' a i he r out out' b k ho o w w' c j hw d =
      let (zero, bytes) = read_off_written q out out' b k ho o in
      let (e, x) = answered_judged s (replay_rules (execution_of s) l) ev ev' a i he r in
      let (f, y) = answered_judged (bytes_of s l) (check_rules (execution_of (bytes_of s l))) w w' c j hw (subst (λ (t : List ℕ). Checked t w w' c j) bytes d) in
      (zero, replay_agrees s l q a c e f x y)

  -- and where a list that holds each event once breaks up a locked instruction, it answers 31
  pub replay_broken : Passes s → AllKept (once_rules (execution_of s) l) → (a x b : ℕ) → BrokenUp (execution_of s) l a x b
      → (ev ev' : List ℕ) (n i : ℕ) → 65 ≤ length ev → Replayed s l ev ev' n i → n ≡ 31
  replay_broken p once a x b broken ev ev' n i h r =
      let (e, j) = answered_judged s (replay_rules (execution_of s) l) ev ev' n i h r in break_answered s l p once a x b broken n e j
