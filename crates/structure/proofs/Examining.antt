-- Reading, then the rules.
use Prim.Native.Nat.{ℕ, ◌≤◌}
use mathlib.Core.Path.{◌≡◌, refl, sym, ◌∙◌}
use mathlib.Core.Logic.{inl, inr}
use mathlib.Core.List.{List, [], ◌∷◌, ◌++◌}
use native.Mathlib.Omega.{arith}
use lib.ListN.{length, set}
use Rattle.std.specs.Prelude.{Ok, Err}
use Rattle.order.specs.Rule.{Rule, Judged}
use Rattle.order.specs.Evidence.{Given}
use Rattle.order.proofs.Searches.{put_one}
use Rattle.order.proofs.Judgements.{judged_unique, given_unique}
use Rattle.form.specs.Whole.{whole}
use Rattle.form.specs.declared.Fault.{Fault}
use Rattle.form.specs.Steps.{Step}
use Rattle.record.specs.Says.{execution_of}
use Rattle.structure.specs.Structure.{structure_rules}
use Rattle.structure.specs.Examined.{examined_by, examination, Answered}

module _ (s : List ℕ) (rules : List Rule) where
  pub examined_stop : (f : Fault) → whole s ≡ Err f → (b : List ℕ) → 1 ≤ length b → Given (examination s rules) b (set b 0 f.section) f.answer 1
  unfolding examination
  examined_stop f e b h = (f.section ∷ [], rw e (refl, refl), (refl, put_one f.section b h))

  pub examined_next : (z : ℕ) → whole s ≡ Ok z → (b c : List ℕ) (a k : ℕ) → Given (Judged (structure_rules (execution_of s) ++ rules)) b c a k
      → Given (examination s rules) b c a k
  unfolding examination
  examined_next z e b c a k (v, j, w) = (v, rw e j, w)

  -- two examinations that are allowed are one
  examined_unique : (x : Step) (qs : List Rule) (a b : ℕ) (d e : List ℕ) → examined_by x qs a d → examined_by x qs b e → (a ≡ b) × (d ≡ e)
  examined_unique (Err f) qs a b d e p q = (p.0 ∙ sym q.0, p.1 ∙ sym q.1)
  examined_unique (Ok z) qs a b d e p q = judged_unique qs a b d e p q

  pub examination_unique : (a b : ℕ) (d e : List ℕ) → examination s rules a d → examination s rules b e → (a ≡ b) × (d ≡ e)
  unfolding examination
  examination_unique a b d e = examined_unique (whole s) (structure_rules (execution_of s) ++ rules) a b d e

  -- so the contract of `examine`, and of whoever goes on from it, decides the answer, the number of entries and every entry
  pub examine_unique : (before x y : List ℕ) (a b k l : ℕ) → Given (examination s rules) before x a k → Given (examination s rules) before y b l
      → (a ≡ b) × (k ≡ l) × (x ≡ y)
  examine_unique = given_unique (examination s rules) examination_unique

  -- and so does the contract of an operation with a buffer for evidence
  pub answered_unique : (before x y : List ℕ) (a b k l : ℕ) → Answered s rules before x a k → Answered s rules before y b l → (a ≡ b) × (k ≡ l) × (x ≡ y)
  answered_unique before x y a b k l (inl p) (inl q) = (p.1 ∙ sym q.1, p.2 ∙ sym q.2, p.3 ∙ sym q.3)
  answered_unique before x y a b k l (inl p) (inr q) = let u = p.0 in let v = q.0 in absurd (omega arith)
  answered_unique before x y a b k l (inr p) (inl q) = let u = p.0 in let v = q.0 in absurd (omega arith)
  answered_unique before x y a b k l (inr p) (inr q) = examine_unique before x y a b k l p.1 q.1

  -- with a buffer that is long enough there is the judgement
  pub answered_judged : (before after : List ℕ) (a k : ℕ) → 65 ≤ length before → Answered s rules before after a k → (e : List ℕ) × examination s rules a e
  answered_judged before after a k h (inl p) = let l = p.0 in absurd (omega arith)
  answered_judged before after a k h (inr p) = (p.1.0, p.1.1)
