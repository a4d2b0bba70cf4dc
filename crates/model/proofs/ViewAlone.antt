-- A refusal by 24 to 27 that names p refuses p's view, whatever the other views are.
use Prim.Native.Nat.{ℕ, ◌≤◌}
use mathlib.Core.Path.{refl}
use mathlib.Core.Logic.{inl, inr}
use mathlib.Core.List.{List}
use native.Mathlib.Omega.{arith}
use Rattle.order.specs.Rule.{AllKept}
use Rattle.order.proofs.Judgements.{judged_zero}
use Rattle.record.specs.Execution.{Execution}
use Rattle.record.specs.Formed.{Formed}
use Rattle.record.specs.Says.{execution_of}
use Rattle.structure.proofs.Passing.{passed}
use Rattle.model.specs.Validity.{Passes, Answers}
use Rattle.model.specs.Rules.{order_rules, check_rules}
use Rattle.model.specs.ViewAlone.{Broken, Refuses, ViewAlone}
use Rattle.model.proofs.Agreeing.{broken_agree}
use Rattle.model.proofs.Breaks.{judged_broken, kept_unbroken, order_names}
use Rattle.model.proofs.Validity.{numbered}

broken_refuses : (z : Execution) → Formed z → (a : ℕ) (w e : List ℕ) → Broken (order_rules z) a w e → Refuses z e
broken_refuses z f a w e b =
    let (p, h, i, j) = order_names z a w e b in
    (p, h, j, λ y g k. kept_unbroken (order_rules y) k a w e (broken_agree z y g f p refl a w e i b))

-- of the rules of the check, those from 24 on
broken_late : (z : Execution) (a : ℕ) (w e : List ℕ) → 24 ≤ a → Broken (check_rules z) a w e → Broken (order_rules z) a w e
broken_late z a w e h (inl (o, q, s)) = absurd (omega arith)
broken_late z a w e h (inr (inl (o, q, s))) = absurd (omega arith)
broken_late z a w e h (inr (inr (inl (o, q, s)))) = absurd (omega arith)
broken_late z a w e h (inr (inr (inr (inl (o, q, s))))) = absurd (omega arith)
broken_late z a w e h (inr (inr (inr (inr b)))) = b

late_refuses : (s : List ℕ) → Passes s → (a : ℕ) (e : List ℕ) → Answers s a e → 24 ≤ a → Refuses (execution_of s) e
late_refuses s q a e c h =
    let z = execution_of s in
    let (w, b) = judged_broken (check_rules z) a e (λ o. omega arith) ((passed s q).judged _ a e c) in
    broken_refuses z (passed s q).form a w e (broken_late z a w e h b)

-- a record that gets 0 keeps the rules
zero_kept : (t : List ℕ) → Passes t → (d : List ℕ) → Answers t 0 d → AllKept (order_rules (execution_of t))
zero_kept t q d c = (judged_zero _ d (numbered (execution_of t)) ((passed t q).judged _ 0 d c)).1.1.1.1

pub view_alone : ViewAlone
view_alone = record {
  names = order_names;
  alone = λ z y f p g. broken_agree z y g f p refl;
  refused = λ z f a e j n. let (w, b) = judged_broken (order_rules z) a e n j in broken_refuses z f a w e b;
  answered = λ s q a e c h.
      let (p, l, i, none) = late_refuses s q a e c h in (p, l, i, λ t r g d k. none (execution_of t) g (zero_kept t r d k));
}
