-- The rules 32 and 33: broken with their evidence, or kept, by what the searches gave.
use Prim.Native.Nat.{ℕ, ◌<◌, ◌≤◌}
use mathlib.Core.Path.{◌≡◌, refl, sym, ap, ◌∙◌}
use mathlib.Core.Logic.{inl, inr, ⊎_elim}
use mathlib.Core.Bool.{true}
use mathlib.Core.List.{List, [], ◌∷◌}
use Rattle.std.proofs.lemmas.Bool.{some_since}
use native.Mathlib.Omega.{arith}
use native.Mathlib.Decide.{ℕ_discrete}
use lib.ListN.{length, set}
use Rattle.std.specs.Prelude.{Option, Some, is_some}
use Rattle.order.specs.Least.{None, Least, Found}
use Rattle.order.specs.Rule.{Rule, Kept, Judged, Any, rule, entry_rule}
use Rattle.order.specs.Evidence.{Given}
use Rattle.order.proofs.Searches.{found_hit, none_hit, found_as, last_found, put_one, one_kept, two_shown, two_kept}
use Rattle.rows.specs.Members.{In, Is}
use Rattle.rows.specs.Table.{Adds}
use Rattle.rows.specs.declared.Set.{Set}
use Rattle.rows.proofs.Members.{in_low}
use Rattle.form.specs.Bytes.{num}
use Rattle.record.specs.Execution.{Execution}
use Rattle.record.specs.Formed.{Formed}
use Rattle.structure.specs.Held.{Held}
use Rattle.model.specs.Model.{Preserved}
use Rattle.model.proofs.Decisions.{certain}
use Rattle.sequences.specs.Sequence.{steps, Reversed, Differs}
use Rattle.replay.specs.Known.{Sequenced, Programmed}
use Rattle.replay.proofs.Values.{step_is}

-- preserved order, added to section 3
pub programmed : (z : Execution) (t v : List ℕ) → Held z t → Adds t v (Preserved z) → Programmed z v
programmed z t v h d = record {
  rows = let r = h.rows in let e = d.same in omega arith;
  pairs = λ a b. (
    λ r. ⊎_elim (λ o. inl ((h.pairs a b).0 o)) (λ o. inr o) ((d.pairs a b).0 r),
    λ o. (d.pairs a b).1 (⊎_elim (λ c. inl ((h.pairs a b).1 c)) (λ c. inr c) o),
  );
}

-- the set has what a is before, and that stands earlier; its first, which it has, is the evidence
module _ (z : Execution) (l : List ℕ) (a : ℕ) (h : (a < 64) × Least (λ e. Any 1 (Reversed z l e)) a) (x : Set) (i : Is x (Reversed z l a))
    (o : Option ℕ) (f : Found 64 (In x) o) where
  pub first_some : is_some o ≡ true
  first_some = let (k, q) = h.1.0 in some_since o _ _ f (λ g. g k (in_low x k (i.has k q)) (i.has k q))

  pub shown_32 : (k : ℕ) → o ≡ Some k → (qs : List Rule) (ev : List ℕ) → 2 ≤ length ev
      → Given (Judged (rule 32 2 (Reversed z l) ∷ qs)) ev (set (set ev 0 a) 1 k) 32 2
  shown_32 k e =
      two_shown 32 64 (Reversed z l) a (found_hit 64 _ a h) k (found_hit 64 _ k (found_as 64 (In x) _ i.says i.has k (rw e at f))) h.0
      (λ e o. in_low x e (i.has e o))

module _ (z : Execution) (l b u : List ℕ) (q : Sequenced z l b u) where
  pub kept_32 : Formed z → None 64 (λ e. Any 1 (Reversed z l e)) → Kept (rule 32 2 (Reversed z l))
  unfolding Reversed
  kept_32 f h =
      two_kept 32 64 _ 64 (none_hit 64 _ h) (omega arith) (λ j k (o, (y, m, (x, n, (d, e)))). let w = q.bytes.low y m in let v = f.events.within in omega arith)

  -- there are as many steps as events
  module _ (n : ℕ) (e : n ≡ z.events.size) where
    pub all_steps : n ≡ length l
    all_steps = e ∙ sym (certain (ℕ_discrete (length l) z.events.size) (q.kept.0 []))

    -- the number of the step that is found, read from the bytes, is the evidence
    pub shown_33 : (i : ℕ) → (i < n) × Least (Differs z l) i → (r : ℕ) → r ≡ num 1 b i → (qs : List Rule) (ev : List ℕ) → 1 ≤ length ev
        → Given (Judged (entry_rule 33 (Differs z l) (λ k. (steps l).item k ∷ []) ∷ qs)) ev (set ev 0 r) 33 1
    unfolding Judged
    shown_33 i h r read qs ev k =
        let g = h.0 in
        let o = all_steps in
        let same = step_is z l b q.bytes i (omega arith) r read in
        (r ∷ [], inl ((i ∷ [], last_found n _ i (found_hit n _ i h) g, ap (λ (x : ℕ). x ∷ []) same), refl), (refl, put_one r ev k))

    pub kept_33 : None n (Differs z l) → Kept (entry_rule 33 (Differs z l) (λ k. (steps l).item k ∷ []))
    unfolding Differs
    kept_33 h = one_kept 33 n _ n (none_hit n _ h) (omega arith) (λ k d. let m = d.0 in let o = all_steps in omega arith)
