-- Demand 3, of records: the replay and the check of what is read off agree, and a broken up locked instruction is answered 31.
use Prim.Native.Nat.{ℕ}
use mathlib.Core.Path.{◌≡◌, subst}
use mathlib.Core.Logic.Iff
use mathlib.Core.Logic.{◌↔◌}
use mathlib.Core.List.{List}
use native.Mathlib.Omega.{arith}
use Rattle.order.specs.Rule.{Judged, AllKept}
use Rattle.order.proofs.Judgements.{judged_zero, zero_judged, judged_behind}
use Rattle.record.specs.Execution.{Execution}
use Rattle.record.specs.Formed.{Formed}
use Rattle.record.specs.Says.{execution_of}
use Rattle.structure.specs.Examined.{examination}
use Rattle.structure.proofs.Passing.{passed}
use Rattle.model.specs.Agree.{Agree}
use Rattle.model.specs.Validity.{Passes, Answers}
use Rattle.model.specs.Rules.{check_rules}
use Rattle.model.proofs.Agreeing.{agree_sym, formed_agree, check_agree}
use Rattle.model.proofs.Validity.{kept_valid, valid_kept, zero_valid}
use Rattle.sequences.specs.Sequence.{BrokenUp, once_rules, sequence_rules, step_rules, replay_rules}
use Rattle.sequences.proofs.Agreement.{sequence_agrees, breaks_said}
use Rattle.readoff.specs.Bytes.{bytes_of}
use Rattle.readoff.proofs.RoundTrips.{Sequence, round_trip}

-- the replay of the record s by the list gives the answer a, with the evidence e
abbrev pub Replays : List ℕ → List ℕ → ℕ → List ℕ → Type 0
Replays s l a e = examination s (replay_rules (execution_of s) l) a e

-- the replay answers 0 exactly if the rules 32 and 33 are kept
replay_kept : (s l : List ℕ) → Sequence s l → (a : ℕ) (d : List ℕ) → Replays s l a d → (a ≡ 0) ↔ AllKept (step_rules (execution_of s) l)
replay_kept s l (p, k) a d h =
    let rules = step_rules (execution_of s) l in
    let judged : Judged rules a d = judged_behind (sequence_rules (execution_of s) l) rules a d k ((passed s p).judged _ a d h) in (
      λ o. judged_zero rules d (omega arith, (omega arith, tt)) (subst (λ (n : ℕ). Judged rules n d) o judged),
      λ r. (zero_judged rules a d r judged).0,
    )

-- the check, exactly if the rules 20 to 27 are
check_kept : (s : List ℕ) → Passes s → (a : ℕ) (e : List ℕ) → Answers s a e → (a ≡ 0) ↔ AllKept (check_rules (execution_of s))
check_kept s p a e h =
    let q = passed s p in Iff.trans (zero_valid s p a e h) (valid_kept _ q.form q.structure, kept_valid _ q.form)

same_kept : (x y : Execution) → Agree x y → Formed x → AllKept (check_rules x) ↔ AllKept (check_rules y)
same_kept x y g f = (check_agree x y g f, check_agree y x (agree_sym x y g) (formed_agree x y g f))

-- the replay answers 0 exactly if the check answers 0 on the record that is read off
pub replay_agrees : (s l : List ℕ) → Sequence s l
    → (a b : ℕ) (d e : List ℕ) → Replays s l a d → Answers (bytes_of s l) b e → (a ≡ 0) ↔ (b ≡ 0)
replay_agrees s l q a b d e h g =
    let (p, same, short) = round_trip s l q in
    let z = passed s q.0 in
    Iff.trans (replay_kept s l q a d h)
    (Iff.trans (sequence_agrees _ z.form z.structure l q.1)
    (Iff.symm (Iff.trans (check_kept _ p b e g) (same_kept _ _ same (passed _ p).form))))

-- where a list that holds each event once breaks up a locked instruction, the replay answers 31
pub break_answered : (s l : List ℕ) → Passes s → AllKept (once_rules (execution_of s) l)
    → (a x b : ℕ) → BrokenUp (execution_of s) l a x b
    → (n : ℕ) (e : List ℕ) → Replays s l n e → n ≡ 31
break_answered s l p k a x b h n e g = breaks_said _ l k a x b h n e ((passed s p).judged _ n e g)
