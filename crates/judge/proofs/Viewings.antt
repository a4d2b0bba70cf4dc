-- Rules whose evidence begins with a processor, view after view.
use Prim.Native.Nat.{ℕ, zero, suc, ◌+◌, ◌<◌}
use mathlib.Core.Path.{◌≡◌, refl}
use mathlib.Core.Logic.{◌⊎◌, inl, inr}
use mathlib.Core.List.{List, [], ◌∷◌}
use native.Mathlib.Omega.{arith}
use Rattle.std.specs.Prelude.{Some}
use Rattle.order.specs.Rule.{Rule, Kept, Judged, Of}
use Rattle.order.specs.Evidence.{Given, Ruled}
use Rattle.order.proofs.Dictionaries.{firstly_cons}
use Rattle.order.proofs.Numbers.{last_or}
use Rattle.order.proofs.Judgements.{rule_shown, given_next, given_none}
use Rattle.record.specs.Execution.{Execution}
use Rattle.model.specs.Rules.{rule24, Overwritten, WrongInitial, Torn}
use Rattle.model.proofs.Breaks.{initial_own}
use Rattle.judge.specs.Later.{later_rule, later_rules, QuietAt, ShownAt}

-- the empty list does not break the rule, and the first number of a list that does is below n
pub record Opens (n : ℕ) (q : Rule) : Type 0 where
  pub nil : q.Breaks [] → ⊥
  pub low : (p : ℕ) (w : List ℕ) → q.Breaks (p ∷ w) → p < n

module _ (n : ℕ) (q : Rule) (o : Opens n q) where
  -- all views are quiet
  pub quiet_kept : ((p : ℕ) → p < n → QuietAt q p) → Kept q
  quiet_kept f [] h = o.nil h
  quiet_kept f (p ∷ w) h = f p (o.low p w h) w h

  -- the first view that is not
  pub view_shown : (p : ℕ) → ((k : ℕ) → k < p → QuietAt q k) → (b a : List ℕ) (k : ℕ) → ShownAt q p b a k → Ruled q b a (Some k)
  view_shown p f b a k (w, d, l, x) = (q.shown (p ∷ w), (p ∷ w, firstly_cons q.Breaks p w o.nil f d, refl), l, x)

-- one view more
pub quiet_next : (q : Rule) (p : ℕ) → ((k : ℕ) → k < p → QuietAt q k) → QuietAt q p → (k : ℕ) → k < p + 1 → QuietAt q k
quiet_next q p f g k h w b = go (last_or p k (omega arith))
  where
    go : (k ≡ p) ⊎ (k < p) → ⊥
    go (inl e) = g w (rw e at b)
    go (inr l) = f k l w b

module _ (z : Execution) where
  pub opens_24 : Opens z.processors (rule24 z)
  opens_24 = record { nil = λ h. h; low = λ p w h. h.0 }

  -- the rules 25 to 27 begin with a processor
  low_25 : (p : ℕ) (w : List ℕ) → Of 4 (Overwritten z) (p ∷ w) → p < z.processors
  unfolding Overwritten
  low_25 p (a ∷ b ∷ c ∷ []) h = h.0
  low_25 p [] h = absurd h
  low_25 p (a ∷ []) h = absurd h
  low_25 p (a ∷ b ∷ []) h = absurd h
  low_25 p (a ∷ b ∷ c ∷ d ∷ w) h = absurd h

  nil_26 : WrongInitial z [] → ⊥
  unfolding WrongInitial
  nil_26 h = h

  low_27 : (p : ℕ) (w : List ℕ) → Of 4 (Torn z) (p ∷ w) → p < z.processors
  unfolding Torn
  low_27 p (a ∷ b ∷ c ∷ []) h = h.0
  low_27 p [] h = absurd h
  low_27 p (a ∷ []) h = absurd h
  low_27 p (a ∷ b ∷ []) h = absurd h
  low_27 p (a ∷ b ∷ c ∷ d ∷ w) h = absurd h

  pub opens_later : (i : ℕ) → Opens z.processors (later_rule z i)
  opens_later zero = record { nil = λ h. h; low = low_25 }
  opens_later (suc zero) = record { nil = nil_26; low = initial_own z }
  opens_later (suc (suc i)) = record { nil = λ h. h; low = low_27 }

  -- the judgement by the rules 25 to 27, the first of which, i of them, are kept
  pub later_shown : (i : ℕ) → i < 3 → ((j : ℕ) → j < i → Kept (later_rule z j)) → (b a : List ℕ) (k : ℕ) → Ruled (later_rule z i) b a (Some k)
      → Given (Judged (later_rules z)) b a (25 + i) k
  later_shown zero h f b a k r = rule_shown (later_rule z 0) _ b a k r
  later_shown (suc zero) h f b a k r = given_next (later_rule z 0) _ b a _ k (f 0 (omega arith)) (rule_shown (later_rule z 1) _ b a k r)
  later_shown (suc (suc zero)) h f b a k r =
      given_next (later_rule z 0) _ b a _ k (f 0 (omega arith)) (given_next (later_rule z 1) _ b a _ k (f 1 (omega arith)) (rule_shown (later_rule z 2) _ b a k r))
  later_shown (suc (suc (suc i))) h f b a k r = absurd (omega arith)

  pub later_kept : ((j : ℕ) → j < 3 → Kept (later_rule z j)) → (b : List ℕ) → Given (Judged (later_rules z)) b b 0 0
  later_kept f b =
      given_next (later_rule z 0) _ b b 0 0 (f 0 (omega arith))
      (given_next (later_rule z 1) _ b b 0 0 (f 1 (omega arith)) (given_next (later_rule z 2) [] b b 0 0 (f 2 (omega arith)) (given_none b)))
