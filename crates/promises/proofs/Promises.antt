-- The demands hold.
use Prim.Native.Nat.{ℕ, ◌≤◌, ◌<◌}
use mathlib.Core.Path.{◌≡◌, refl, sym, ◌∙◌, subst}
use mathlib.Core.Logic.Iff
use mathlib.Core.Logic.{◌↔◌, inl, inr}
use mathlib.Core.Bool.{Bool, true, false}
use mathlib.Core.List.{List, ◌∷◌, ◌++◌}
use native.Mathlib.Omega.{arith}
use native.Mathlib.Decide.{dec_lt}
use lib.ListN.{length, take, drop}
use lib.Seq.{take-append_seam}
use Rattle.std.specs.Prelude.{Ok, Err}
use Rattle.order.specs.Rule.{Rule, AllKept, Judged}
use Rattle.order.specs.Evidence.{Written}
use Rattle.order.proofs.Judgements.{judged_zero, zero_judged}
use Rattle.order.proofs.Rules.{cycles_evidence}
use Rattle.form.specs.Whole.{whole}
use Rattle.form.specs.Steps.{Step}
use Rattle.form.proofs.Answers.{Fair, fair_whole}
use Rattle.record.specs.Says.{execution_of}
use Rattle.record.specs.View.{answer_by, view_answer}
use Rattle.structure.specs.Structure.{structure_rules}
use Rattle.structure.specs.Examined.{Answered}
use Rattle.structure.proofs.Examining.{answered_judged}
use Rattle.structure.proofs.Passing.{passed}
use Rattle.model.specs.Agree.{Agree}
use Rattle.model.specs.Model.{OrderFor}
use Rattle.model.specs.Rules.{rule24, witness_rules, order_rules, check_rules}
use Rattle.model.specs.Validity.{Passes, Answers}
use Rattle.model.proofs.Orders.{order_joined}
use Rattle.model.proofs.Validity.{structured}
use Rattle.judge.specs.Checked.{Checked}
use Rattle.judge.proofs.Promises.{check_valid, check_causality}
use Rattle.table.specs.Tabled.{tabled_by, Tabled}
use Rattle.sequences.specs.Sequence.{sequence_rules, replay_rules}
use Rattle.sequences.specs.ReadOff.{read_off}
use Rattle.sequences.proofs.Sequential.{replay_valid}
use Rattle.replay.specs.Replayed.{Replayed}
use Rattle.readoff.specs.Written.{ReadOff}
use Rattle.readoff.proofs.RoundTrips.{round_trip}
use Rattle.readoff.proofs.Promises.{read_off_written, replay_check, replay_broken}
use Rattle.reader.specs.Entries.{answer_of, open_answer}
use Rattle.slots.specs.Slots.{Operation, Check, Replay, rules_of}
use Rattle.slots.proofs.Slots.{computed, computed_right, slot_cases_lem}
use Rattle.promises.specs.Promises.{Among, reading_answers, check_answers, table_answers, replay_answers, read_off_answers, Judges, Demand1, Demand2, Demand3, SlotCases}
use Rattle.promises.proofs.Answering.{form_among, judgements, numbers, by_member, among_within, stopped_among, judged_listed, examined_among, judged_rule}

-- ---- demand 1

-- what an operation can answer that judges by these rules, behind form and structure
abbrev possible : List ℕ → List Rule → List ℕ
possible s rules = 1 ∷ judgements (structure_rules (execution_of s) ++ rules)

answered_among : (s : List ℕ) (rules : List Rule) (before after : List ℕ) (a k : ℕ) → Answered s rules before after a k
    → Among (possible s rules) a
answered_among s rules before after a k (inl p) = inl p.1
answered_among s rules before after a k (inr (h, (e, j, w))) = inr (examined_among s rules a e j)

tabled_among : (s before after : List ℕ) (a : ℕ) → Tabled s before after a
    → Among (possible s (witness_rules (execution_of s))) a
unfolding Tabled
tabled_among s before after a t = go (whole s) refl t
  where
    qs : List Rule
    qs = structure_rules (execution_of s) ++ witness_rules (execution_of s)

    go : (x : Step) → whole s ≡ x → tabled_by x (execution_of s) before after a → Among (1 ∷ judgements qs) a
    go (Err f) h p = inr (stopped_among s f a qs h p.0)
    go (Ok z) h (inl p) = inl p.1
    go (Ok z) h (inr (l, (e, j, w))) = inr (judged_listed qs a e j)

read_off_among : (s l before after : List ℕ) (a k : ℕ) → ReadOff s l before after a k
    → Among (possible s (sequence_rules (execution_of s) l)) a
read_off_among s l before after a k (inl p) = inl p.1
read_off_among s l before after a k (inr (h, (e, j, w))) = inr (examined_among s (sequence_rules (execution_of s) l) a e j)

-- a judgement is handed out where the buffer is long enough, else answer 1
answered : (s : List ℕ) (o : Operation) (before : List ℕ)
    → (after : List ℕ) × (a : ℕ) × (k : ℕ) × Answered s (rules_of o (execution_of s)) before after a k
answered s o before = go (dec_lt (length before) 65)
  where
    go : Dec (length before < 65) → (after : List ℕ) × (a : ℕ) × (k : ℕ) × Answered s (rules_of o (execution_of s)) before after a k
    go (yes h) = (before, 1, 0, inl (h, refl, refl, refl))
    go (no h) =
        let v = computed s o in
        let e = v.evidence in
        (e ++ drop (length e) before, v.answer, length e, inr (omega arith, (e, computed_right s o, (refl, refl))))

answered_short : (s : List ℕ) (rules : List Rule) (before after : List ℕ) (a k : ℕ) → Answered s rules before after a k → length before < 65
    → (a ≡ 1) × (k ≡ 0) × (after ≡ before)
answered_short s rules before after a k (inl p) h = (p.1, p.2, p.3)
answered_short s rules before after a k (inr p) h = let l = p.0 in absurd (omega arith)

-- what reading answers
view_among : (x : Step) (known : Bool) → Fair x → Among reading_answers (answer_by x known)
view_among (Ok z) true h = inl refl
view_among (Ok z) false h = inr (inr (inr (inl refl)))
view_among (Err f) known h = inr (form_among f.answer h.0 h.1)

view_listed : (s : List ℕ) (p : ℕ) → Among reading_answers (view_answer s p)
unfolding view_answer
view_listed s p = view_among (whole s) _ (fair_whole s)

opening_among : (x : Step) → Fair x → Among reading_answers (answer_of x)
opening_among (Ok z) h = inl refl
opening_among (Err f) h = inr (form_among f.answer h.0 h.1)

opening_listed : (s : List ℕ) → Among reading_answers (open_answer s)
unfolding open_answer
opening_listed s = opening_among (whole s) (fair_whole s)

written : (s before after : List ℕ) (a k : ℕ) → Checked s before after a k → 65 ≤ length before
    → (e : List ℕ) × Answers s a e × Written e before after k
written s before after a k (inl p) h = let l = p.0 in absurd (omega arith)
written s before after a k (inr p) h = p.1

pub demand_1 : Demand1
demand_1 = record {
  check_answered = λ s before. answered s Check before;
  replay_answered = λ s l before. answered s (Replay l) before;
  check_listed = λ s before after a k c. among_within a (possible s (check_rules (execution_of s))) check_answers refl (answered_among s (check_rules (execution_of s)) before after a k c);
  table_listed = λ s before after a t. among_within a (possible s (witness_rules (execution_of s))) table_answers refl (tabled_among s before after a t);
  replay_listed = λ s l before after a k r. among_within a (possible s (replay_rules (execution_of s) l)) replay_answers refl (answered_among s (replay_rules (execution_of s) l) before after a k r);
  read_off_listed = λ s l before after a k r. among_within a (possible s (sequence_rules (execution_of s) l)) read_off_answers refl (read_off_among s l before after a k r);
  view_listed = view_listed;
  opening_listed = opening_listed;
  short = λ s. answered_short s (check_rules (execution_of s));
  replay_short = λ s l. answered_short s (replay_rules (execution_of s) l);
  written = written;
}

-- ---- demand 2

-- what was written is at the front
front : (e before after : List ℕ) (k : ℕ) → Written e before after k → take k after ≡ e
front e before after k (size, is) = rw (size, is) (take-append_seam e (drop k before))

first : (s : List ℕ) (a : ℕ) (e : List ℕ) → Passes s → Judges s a e → Judged (check_rules (execution_of s)) a e
first s a e p (before, after, k, h, c, w) =
    let (d, j, v) = written s before after a k c h in
    let same : d ≡ e = sym (front d before after k v) ∙ front e before after k w in
    subst (Judged (check_rules (execution_of s)) a) same ((passed s p).judged (check_rules (execution_of s)) a d j)

pub demand_2 : Demand2
demand_2 = record {
  well_formed = structured;
  valid = λ s a e p j. check_valid s j.0 j.1 a j.2 j.4 j.3 p;
  first = first;
  causality = λ s a e p j w. check_causality s j.0 j.1 a j.2 j.4 j.3 p w;
  shown = λ s e p j.
      let z = execution_of s in
      cycles_evidence 24 z.processors (OrderFor z) e
      (judged_rule (witness_rules z) (rule24 z) (drop 1 (order_rules z)) 24 e
      ((by_member 24 (numbers (witness_rules z))).fails refl)
      ((by_member 24 (0 ∷ numbers (drop 1 (order_rules z)))).fails refl)
      (first s 24 e p j));
  steps = λ s p k. order_joined (execution_of s) (passed s p).form k.0;
}

-- ---- demand 3

-- the replay answers 0 exactly if no rule is broken
replay_kept : (s l : List ℕ) → Passes s → (ev ev' : List ℕ) (a i : ℕ) → 65 ≤ length ev → Replayed s l ev ev' a i
    → (a ≡ 0) ↔ AllKept (replay_rules (execution_of s) l)
replay_kept s l p ev ev' a i h r =
    let rules = replay_rules (execution_of s) l in
    let (e, j) = answered_judged s rules ev ev' a i h r in
    let judged = (passed s p).judged rules a e j in (
      λ o. judged_zero rules e (omega arith, (omega arith, (omega arith, (omega arith, (omega arith, (omega arith, tt))))))
          (subst (λ (n : ℕ). Judged rules n e) o judged),
      λ k. (zero_judged rules a e k judged).0,
    )

read_back : (s l : List ℕ) → Passes s → AllKept (sequence_rules (execution_of s) l)
    → (out out' : List ℕ) (b k : ℕ) → 2346 ≤ length out → ReadOff s l out out' b k
    → Passes (take k out') × Agree (execution_of (take k out')) (read_off (execution_of s) l)
read_back s l p kept out out' b k h r =
    let (zero, bytes) = read_off_written s l (p, kept) out out' b k h r in
    let (passes, agrees, short) = round_trip s l (p, kept) in
    rw bytes (passes, agrees)

pub demand_3 : Demand3
demand_3 = record {
  agrees = λ s l p kept ev ev' a i he r out out' b k ho o c e (w, w', j, hw, d, x). replay_check s l (p, kept) ev ev' a i he r out out' b k ho o w w' c j hw d;
  read_back = read_back;
  said = replay_broken;
  sequential = λ s l p once ev ev' a i h r.
      let q = passed s p in
      Iff.trans (replay_kept s l p ev ev' a i h r) (replay_valid (execution_of s) q.form q.structure l once).valid;
}

pub cases : SlotCases
cases = slot_cases_lem
