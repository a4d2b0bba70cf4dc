-- Rule 24, view after view, and whether all views are calm.
use Prim.Native.Nat.{ℕ, ◌+◌, ◌<◌, ◌≤◌}
use mathlib.Core.Path.{◌≡◌, refl, ◌∙◌, subst}
use mathlib.Core.Logic.{◌⊎◌, inl, inr}
use mathlib.Core.Bool.{Bool, true, ◌&&◌}
use mathlib.Core.List.{List}
use native.Mathlib.Omega.{arith}
use lib.ListN.{length}
use Rattle.order.specs.Relation.{Cyclic}
use Rattle.order.specs.Rule.{Judged}
use Rattle.order.specs.Evidence.{Given}
use Rattle.order.proofs.Numbers.{last_or}
use Rattle.order.proofs.Tests.{by_and, by_flag}
use Rattle.order.proofs.Judgements.{rule_shown, given_next}
use Rattle.form.specs.Place.{view_start}
use Rattle.form.proofs.Starts.{view_start_next}
use Rattle.record.specs.Says.{execution_of}
use Rattle.record.specs.Laid.{Views}
use Rattle.record.specs.declared.Part.{Part}
use Rattle.model.specs.Model.{OrderFor}
use Rattle.model.specs.Rules.{rule24, order_rules}
use Rattle.judge.specs.declared.Look.TheVariants.{Acyclic}
use Rattle.judge.specs.Later.{later_rule, later_rules, QuietAt, ShownAt, Looked}
use Rattle.judge.specs.Ordered.{NoCycle}
use Rattle.judge.proofs.Behind.{cycle_quiet}
use Rattle.judge.proofs.Viewings.{quiet_kept, view_shown, opens_24, opens_later, later_kept}

-- the views below p have no cycle, all of them are calm if that is said, and nothing is written
pub record Watched (s before now : List ℕ) (at : ℕ) (all : Bool) (p : ℕ) : Type 0 where
  pub upto : p ≤ (execution_of s).processors
  pub place : at ≡ view_start s p
  pub same : now ≡ before
  pub acyclic : (k : ℕ) → k < p → Cyclic (OrderFor (execution_of s) k) → ⊥
  pub calm : all ≡ true → (k : ℕ) → k < p → (i : ℕ) → i < 3 → QuietAt (later_rule (execution_of s) i) k

-- what holds below p and of p holds below p + 1
one_more : (P : ℕ → Type 0) (p : ℕ) → ((k : ℕ) → k < p → P k) → P p → (k : ℕ) → k < p + 1 → P k
one_more P p f x k l = go (last_or p k (omega arith))
  where
    go : (k ≡ p) ⊎ (k < p) → P k
    go (inl e) = rw e x
    go (inr h) = f k h

module _ (s b : List ℕ) where
  pub watched_begin : (at : ℕ) → at ≡ view_start s 0 → Watched s b b at true 0
  watched_begin at e = record {
    upto = omega arith;
    place = e;
    same = refl;
    acyclic = λ k l. absurd (omega arith);
    calm = λ q k l. absurd (omega arith);
  }

  module _ (c : List ℕ) (at : ℕ) (all : Bool) (p : ℕ) (x : Watched s b c at all p) where
    pub watched_long : 65 ≤ length b → 65 ≤ length c
    watched_long l = rw x.same l

    module _ (a : List ℕ) where
      pub watched_shown : (k : ℕ) → ShownAt (rule24 (execution_of s)) p c a k → Given (Judged (order_rules (execution_of s))) b a 24 k
      watched_shown k h =
          subst (λ (y : List ℕ). Given (Judged (order_rules (execution_of s))) y a 24 k) x.same
          (rule_shown (rule24 (execution_of s)) (later_rules (execution_of s)) c a k
          (view_shown _ (rule24 (execution_of s)) (opens_24 (execution_of s)) p (λ k n. cycle_quiet (execution_of s) k (x.acyclic k n)) c a k h))

      pub watched_more : (calm : Bool) → Looked (execution_of s) p c a (Acyclic calm) → p < (execution_of s).processors → (v : Part) → Views s p v
          → Watched s b a (v.at + v.count) (all && calm) (p + 1)
      watched_more calm h l v views = record {
        upto = omega arith;
        place = let n = view_start_next s p in let y = views.place in let w = views.number in omega arith;
        same = h.0 ∙ x.same;
        acyclic = one_more (λ k. Cyclic (OrderFor (execution_of s) k) → ⊥) p x.acyclic h.1;
        calm = λ q. let e = (by_and all calm (by_flag all) (by_flag calm)).holds q in
            one_more (λ k. (i : ℕ) → i < 3 → QuietAt (later_rule (execution_of s) i) k) p (x.calm e.0) (h.2 e.1);
      }

    module _ (l : (execution_of s).processors ≤ p) where
      pub no_cycle : NoCycle (execution_of s)
      no_cycle k h = x.acyclic k (omega arith)

      -- so what is left to judge is the rules after it
      after : (a : List ℕ) (n k : ℕ) → Given (Judged (later_rules (execution_of s))) c a n k → Given (Judged (order_rules (execution_of s))) c a n k
      after a n k g =
          given_next (rule24 (execution_of s)) (later_rules (execution_of s)) c a n k
          (quiet_kept _ (rule24 (execution_of s)) (opens_24 (execution_of s)) (λ p h. cycle_quiet (execution_of s) p (no_cycle p h))) g

      pub watched_closer : (a : List ℕ) (n k : ℕ) → Given (Judged (later_rules (execution_of s))) c a n k → Given (Judged (order_rules (execution_of s))) b a n k
      watched_closer a n k g = subst (λ (y : List ℕ). Given (Judged (order_rules (execution_of s))) y a n k) x.same (after a n k g)

      pub watched_calm : all ≡ true → Given (Judged (order_rules (execution_of s))) b c 0 0
      watched_calm e =
          watched_closer c 0 0
          (later_kept (execution_of s) (λ j h. quiet_kept _ (later_rule (execution_of s) j) (opens_later (execution_of s) j) (λ k m. x.calm e k (omega arith) j h)) c)
