-- Which answers a judgement can give.
use Prim.Native.Nat.{ℕ, ◌<◌, ◌≤◌}
use mathlib.Core.Path.{◌≡◌, refl, sym, subst}
use mathlib.Core.Logic.{inl, inr}
use mathlib.Core.Bool.{Bool, true, false, ◌&&◌, ◌||◌}
use mathlib.Core.List.{List, [], ◌∷◌, ◌++◌}
use native.Mathlib.Omega.{arith}
use native.Mathlib.Decide.{dec_lt}
use lib.Dec.{eqb}
use Rattle.std.specs.Prelude.{Ok, Err}
use Rattle.order.specs.Decides.{Decides}
use Rattle.order.specs.Rule.{Rule, Shows, Judged}
use Rattle.order.proofs.Tests.{by_and, by_or, by_eq, by_no, by_flag}
use Rattle.form.specs.Whole.{whole}
use Rattle.form.specs.declared.Fault.{Fault}
use Rattle.form.specs.Steps.{Step}
use Rattle.form.proofs.Answers.{stop_answer}
use Rattle.record.specs.Says.{execution_of}
use Rattle.structure.specs.Structure.{structure_rules}
use Rattle.structure.specs.Examined.{examined_by, examination}
use Rattle.promises.specs.Promises.{Among}

abbrev pub numbers : List Rule → List ℕ
numbers [] = []
numbers (q ∷ qs) = q.number ∷ numbers qs

-- 0, or the number of a rule
pub judged_among : (qs : List Rule) (a : ℕ) (e : List ℕ) → Judged qs a e → Among (0 ∷ numbers qs) a
unfolding Judged
judged_among [] a e j = inl j.0
judged_among (q ∷ qs) a e (inl j) = inr (inl j.1)
judged_among (q ∷ qs) a e (inr j) = go (judged_among qs a e j.1)
  where
    go : Among (0 ∷ numbers qs) a → Among (0 ∷ numbers (q ∷ qs)) a
    go (inl z) = inl z
    go (inr m) = inr (inr m)

abbrev pub member : ℕ → List ℕ → Bool
member a [] = false
member a (b ∷ l) = eqb a b || member a l

abbrev pub within : List ℕ → List ℕ → Bool
within [] m = true
within (a ∷ l) m = member a m && within l m

pub by_member : (a : ℕ) (l : List ℕ) → Decides (member a l) (Among l a)
by_member a [] = by_no (λ x. x)
by_member a (b ∷ l) = by_or (eqb a b) (member a l) (by_eq a b) (by_member a l)

-- one of a list is one of a longer one
pub among_within : (a : ℕ) (l m : List ℕ) → within l m ≡ true → Among l a → Among m a
among_within a [] m h x = absurd x
among_within a (b ∷ l) m h x =
    let (p, q) = (by_and (member b m) (within l m) (by_member b m) (by_flag (within l m))).holds h in go p (among_within a l m q) x
  where
    go : Among m b → (Among l a → Among m a) → Among (b ∷ l) a → Among m a
    go p more (inl e) = subst (Among m) (sym e) p
    go p more (inr r) = more r

pub form_among : (a : ℕ) → 2 ≤ a → a ≤ 5 → Among (2 ∷ 3 ∷ 4 ∷ 5 ∷ []) a
form_among a h g = go (dec_lt a 3) (dec_lt a 4) (dec_lt a 5)
  where
    go : Dec (a < 3) → Dec (a < 4) → Dec (a < 5) → Among (2 ∷ 3 ∷ 4 ∷ 5 ∷ []) a
    go (yes x) y z = inl (omega arith)
    go (no x) (yes y) z = inr (inl (omega arith))
    go (no x) (no y) (yes z) = inr (inr (inl (omega arith)))
    go (no x) (no y) (no z) = inr (inr (inr (inl (omega arith))))

among_left : (a : ℕ) (l m : List ℕ) → Among l a → Among (l ++ m) a
among_left a [] m x = absurd x
among_left a (b ∷ l) m (inl e) = inl e
among_left a (b ∷ l) m (inr r) = inr (among_left a l m r)

among_right : (a : ℕ) (l m : List ℕ) → Among m a → Among (l ++ m) a
among_right a [] m x = x
among_right a (b ∷ l) m x = inr (among_right a l m x)

-- what reading answers, then what the rules do
abbrev pub judgements : List Rule → List ℕ
judgements qs = (2 ∷ 3 ∷ 4 ∷ 5 ∷ []) ++ 0 ∷ numbers qs

pub stopped_among : (s : List ℕ) (f : Fault) (a : ℕ) (qs : List Rule) → whole s ≡ Err f → a ≡ f.answer → Among (judgements qs) a
stopped_among s f a qs e h =
    let (l, u) = stop_answer s f e in among_left a (2 ∷ 3 ∷ 4 ∷ 5 ∷ []) (0 ∷ numbers qs) (form_among a (omega arith) (omega arith))

pub judged_listed : (qs : List Rule) (a : ℕ) (e : List ℕ) → Judged qs a e → Among (judgements qs) a
judged_listed qs a e j = among_right a (2 ∷ 3 ∷ 4 ∷ 5 ∷ []) (0 ∷ numbers qs) (judged_among qs a e j)

pub examined_among : (s : List ℕ) (rules : List Rule) (a : ℕ) (e : List ℕ) → examination s rules a e
    → Among (judgements (structure_rules (execution_of s) ++ rules)) a
unfolding examination
examined_among s rules a e x = go (whole s) refl x
  where
    qs : List Rule
    qs = structure_rules (execution_of s) ++ rules

    go : (y : Step) → whole s ≡ y → examined_by y qs a e → Among (judgements qs) a
    go (Err f) h p = stopped_among s f a qs h p.0
    go (Ok z) h p = judged_listed qs a e p

-- a judgement by the number of one rule is by that rule
pub judged_rule : (qs : List Rule) (q : Rule) (rs : List Rule) (a : ℕ) (e : List ℕ)
    → (Among (numbers qs) a → ⊥) → (Among (0 ∷ numbers rs) a → ⊥) → Judged (qs ++ q ∷ rs) a e → Shows q e
unfolding Judged
judged_rule [] q rs a e h g (inl j) = j.0
judged_rule [] q rs a e h g (inr j) = absurd (g (judged_among rs a e j.1))
judged_rule (p ∷ qs) q rs a e h g (inl j) = absurd (h (inl j.1))
judged_rule (p ∷ qs) q rs a e h g (inr j) = judged_rule qs q rs a e (λ x. h (inr x)) g j.1
