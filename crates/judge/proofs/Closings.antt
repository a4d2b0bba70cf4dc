-- The rules 25 to 27, view after view and rule after rule.
use Prim.Native.Nat.{ℕ, ◌+◌, ◌<◌, ◌≤◌}
use mathlib.Core.Path.{◌≡◌, refl, sym, ◌∙◌, subst}
use mathlib.Core.Logic.{⊎_elim}
use mathlib.Core.List.{List}
use native.Mathlib.Omega.{arith}
use lib.ListN.{length}
use Rattle.std.specs.Prelude.{Option, Some, None}
use Rattle.order.specs.Rule.{Kept, Judged}
use Rattle.order.specs.Evidence.{Given, Ruled}
use Rattle.order.proofs.Numbers.{last_or}
use Rattle.form.specs.Place.{view_start}
use Rattle.form.proofs.Starts.{view_start_next}
use Rattle.record.specs.Execution.{Execution}
use Rattle.record.specs.Says.{execution_of}
use Rattle.record.specs.Laid.{Views}
use Rattle.record.specs.declared.Part.{Part}
use Rattle.judge.specs.Later.{later_rule, later_rules, QuietAt, ShownAt, RuledAt}
use Rattle.judge.proofs.Viewings.{quiet_kept, view_shown, quiet_next, opens_later, later_shown, later_kept}

-- rule 25 + i is the one that the case of i names
pub ruled_case : (z : Execution) (i j p : ℕ) (b a : List ℕ) (r : Option ℕ) → i ≡ j → RuledAt (later_rule z j) p b a r → RuledAt (later_rule z i) p b a r
ruled_case z i j p b a r e h = subst (λ (n : ℕ). RuledAt (later_rule z n) p b a r) (sym e) h

-- ---- view after view

-- the views below p are quiet, and nothing is written
pub record Quieted (s : List ℕ) (i : ℕ) (before now : List ℕ) (at p : ℕ) : Type 0 where
  pub upto : p ≤ (execution_of s).processors
  pub place : at ≡ view_start s p
  pub same : now ≡ before
  pub quiet : (k : ℕ) → k < p → QuietAt (later_rule (execution_of s) i) k

module _ (s : List ℕ) (i : ℕ) (b : List ℕ) where
  pub quieted_begin : (at : ℕ) → at ≡ view_start s 0 → Quieted s i b b at 0
  quieted_begin at e = record { upto = omega arith; place = e; same = refl; quiet = λ k l. absurd (omega arith) }

  pub quieted_long : (c : List ℕ) (at p : ℕ) → Quieted s i b c at p → 65 ≤ length b → 65 ≤ length c
  quieted_long c at p x l = rw x.same l

  module _ (c : List ℕ) (at p : ℕ) (x : Quieted s i b c at p) (a : List ℕ) where
    pub quieted_shown : (k : ℕ) → ShownAt (later_rule (execution_of s) i) p c a k → Ruled (later_rule (execution_of s) i) b a (Some k)
    quieted_shown k r =
        subst (λ (y : List ℕ). Ruled (later_rule (execution_of s) i) y a (Some k)) x.same
        (view_shown _ (later_rule (execution_of s) i) (opens_later (execution_of s) i) p x.quiet c a k r)

    pub quieted_more : QuietAt (later_rule (execution_of s) i) p × (a ≡ c) → p < (execution_of s).processors → (v : Part) → Views s p v
        → Quieted s i b a (v.at + v.count) (p + 1)
    quieted_more (q, e) l v views = record {
      upto = omega arith;
      place = let n = view_start_next s p in let y = views.place in let w = views.number in omega arith;
      same = e ∙ x.same;
      quiet = quiet_next (later_rule (execution_of s) i) p x.quiet q;
    }

  pub quieted_done : (c : List ℕ) (at p : ℕ) → Quieted s i b c at p → (execution_of s).processors ≤ p → Ruled (later_rule (execution_of s) i) b c None
  quieted_done c at p x l = (quiet_kept _ (later_rule (execution_of s) i) (opens_later (execution_of s) i) (λ k n. x.quiet k (omega arith)), x.same)

-- ---- rule after rule

-- the rules before i are kept, and nothing is written
pub record Closed (z : Execution) (before now : List ℕ) (i : ℕ) : Type 0 where
  pub upto : i ≤ 3
  pub same : now ≡ before
  pub kept : (j : ℕ) → j < i → Kept (later_rule z j)

module _ (z : Execution) (b : List ℕ) where
  pub closed_begin : Closed z b b 0
  closed_begin = record { upto = omega arith; same = refl; kept = λ j l. absurd (omega arith) }

  pub closed_long : (c : List ℕ) (i : ℕ) → Closed z b c i → 65 ≤ length b → 65 ≤ length c
  closed_long c i x l = rw x.same l

  module _ (c : List ℕ) (i : ℕ) (x : Closed z b c i) (l : i < 3) (a : List ℕ) where
    pub closed_shown : (k : ℕ) → Ruled (later_rule z i) c a (Some k) → Given (Judged (later_rules z)) b a (25 + i) k
    closed_shown k r = subst (λ (y : List ℕ). Given (Judged (later_rules z)) y a (25 + i) k) x.same (later_shown z i l x.kept c a k r)

    pub closed_more : Kept (later_rule z i) × (a ≡ c) → Closed z b a (i + 1)
    closed_more (f, e) = record { upto = omega arith; same = e ∙ x.same; kept = next }
      where
        next : (j : ℕ) → j < i + 1 → Kept (later_rule z j)
        next j n = ⊎_elim (λ (e : j ≡ i). subst (λ (y : ℕ). Kept (later_rule z y)) (sym e) f) (λ g. x.kept j g) (last_or i j (omega arith))

  pub closed_done : (c : List ℕ) (i : ℕ) → Closed z b c i → 3 ≤ i → Given (Judged (later_rules z)) b c 0 0
  closed_done c i x l = rw x.same (later_kept z (λ j n. x.kept j (omega arith)) b)
