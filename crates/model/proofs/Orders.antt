-- Rules 24 and 27 are causality and atomicity.
use Prim.Native.Nat.{ℕ, ◌<◌}
use mathlib.Core.Path.{◌≡◌, sym, ◌∙◌, subst}
use mathlib.Core.Logic.{inl, inr, ◌↔◌}
use mathlib.Core.List.{[], ◌∷◌}
use native.Mathlib.Decide.{ℕ_discrete}
use Rattle.order.specs.Relation.{Rel}
use Rattle.order.specs.Rule.{Kept, rule, cycles_rule}
use Rattle.order.proofs.Rules.{cycles_kept, kept_cycles, cyclic_as}
use Rattle.order.proofs.Searches.{of_any}
use Rattle.record.specs.Execution.{Execution}
use Rattle.record.specs.Formed.{Formed}
use Rattle.record.specs.Words.{OfLock}
use Rattle.model.specs.Hol.{union, strict, happens_before, check_causality, check_atomicity}
use Rattle.model.specs.Model.{Locked, OrderFor}
use Rattle.model.specs.Rules.{WrongView, BreaksUp, Torn}
use Rattle.model.specs.Says.{structure_of, witness_of}
use Rattle.model.proofs.Cycles.{acyclic_not, not_acyclic}
use Rattle.model.proofs.Decisions.{certain, dec_instruction}
use Rattle.model.proofs.Lists.{before_ends, upto_ends, before_upto, upto_before, before_differ, before_trans}
use Rattle.model.proofs.Views.{Viewed, kept_viewed}
use Rattle.model.proofs.Words.{happens_to, to_happens}

module _ (z : Execution) (f : Formed z) (v : Viewed z) where
  -- 24
  module _ (p : ℕ) (h : p < z.processors) where
    joined : Rel
    joined = union (strict ((witness_of z).vo p)) (happens_before (structure_of z) (witness_of z))

    joined_to : (a b : ℕ) → joined a b → OrderFor z p a b
    unfolding joined
    joined_to a b (inl (u, n)) = inl (upto_before _ a b u.1 n)
    joined_to a b (inr q) = inr (happens_to z f a b q)

    to_joined : (a b : ℕ) → OrderFor z p a b → joined a b
    unfolding joined
    to_joined a b (inl q) = inl ((h, before_upto _ a b q), before_differ _ (v p h).single a b q)
    to_joined a b (inr q) = inr (to_happens z f a b q)

  pub kept_causality : Kept (cycles_rule 24 z.processors (OrderFor z))
      → check_causality (structure_of z) (witness_of z).vo (happens_before (structure_of z) (witness_of z))
  unfolding joined
  kept_causality k p h = not_acyclic _ (λ c. kept_cycles 24 _ (OrderFor z) k p h (cyclic_as (joined p h) (OrderFor z p) (joined_to p h) c))

  pub causality_kept : check_causality (structure_of z) (witness_of z).vo (happens_before (structure_of z) (witness_of z))
      → Kept (cycles_rule 24 z.processors (OrderFor z))
  unfolding joined
  causality_kept g = cycles_kept 24 _ (OrderFor z) (λ p h c. acyclic_not _ (g p h) (cyclic_as (OrderFor z p) (joined p h) (to_joined p h) c))

  -- 27
  pub kept_atomicity : Kept (rule 27 4 (Torn z)) → check_atomicity (structure_of z) (witness_of z).vo
  unfolding Torn BreaksUp Locked
  kept_atomicity k p h i l a b (ha, oa) (hb, ob) u x ax xb = go (ℕ_discrete a x) (ℕ_discrete x b)
    where
      go : Dec (a ≡ x) → Dec (x ≡ b) → OfLock z i x
      go (yes e) d = subst (OfLock z i) e (ha, oa)
      go (no n) (yes e) = subst (OfLock z i) (sym e) (hb, ob)
      go (no n) (no m) =
          let same = certain (dec_instruction (z.events.item a) (z.events.item x)) (λ s. k (p ∷ a ∷ x ∷ b ∷ []) (
            h,
            ((i, l, oa), (oa.0 ∙ sym ob.0, oa.1 ∙ sym ob.1), s, upto_before _ a x ax.1 n, upto_before _ x b xb.1 m),
          )) in
          (((v p h).due x (upto_ends _ a x ax.1).1).0, (sym same.0 ∙ oa.0, sym same.1 ∙ oa.1))

  pub atomicity_kept : check_atomicity (structure_of z) (witness_of z).vo → Kept (rule 27 4 (Torn z))
  unfolding Torn BreaksUp Locked
  atomicity_kept c w q =
      let (p, (a, (x, (b, (h, ((i, l, oa), same, other, ax, xb)))))) = of_any 4 (Torn z) w q in
      let ha = ((v p h).due a (before_ends _ a x ax).0).0 in
      let hb = ((v p h).due b (before_ends _ x b xb).1).0 in
      let ab = before_trans _ (v p h).single a x b ax xb in
      let ox = c p h i l a b (ha, oa) (hb, (sym same.0 ∙ oa.0, sym same.1 ∙ oa.1)) (h, before_upto _ a b ab) x (h, before_upto _ a x ax) (h, before_upto _ x b xb) in
      other (oa.0 ∙ sym ox.1.0, oa.1 ∙ sym ox.1.1)

-- what rule 24 and Causality ask to have no cycle is what HOL does: where rule 20 is kept, the two relations are one
pub order_joined : (z : Execution) → Formed z → Kept (rule 20 2 (WrongView z)) → (p : ℕ) → p < z.processors → (a b : ℕ)
    → OrderFor z p a b ↔ union (strict ((witness_of z).vo p)) (happens_before (structure_of z) (witness_of z)) a b
unfolding joined
order_joined z f k p h a b = let v = kept_viewed z k in (to_joined z f v p h a b, joined_to z f v p h a b)
