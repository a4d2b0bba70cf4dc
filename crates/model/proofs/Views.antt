-- Rule 20 is that the view orders are well formed, where no event stands twice in a view.
use Prim.Native.Nat.{ℕ, ◌<◌}
use mathlib.Core.Logic.{inl, inr, ⊎_elim}
use mathlib.Core.List.{[], ◌∷◌}
use Rattle.order.specs.Rule.{Kept, rule}
use Rattle.order.proofs.Searches.{of_any}
use Rattle.record.specs.Execution.{Execution}
use Rattle.record.specs.Formed.{Formed}
use Rattle.model.specs.Hol.{view_orders_well_formed}
use Rattle.model.specs.Model.{Sees}
use Rattle.model.specs.Rules.{WrongView}
use Rattle.model.specs.Says.{structure_of, witness_of}
use Rattle.model.proofs.Decisions.{dec_sees}
use Rattle.model.proofs.Lists.{Single, Proper, proper, misplaced_not, upto_ends, stands_upto, upto_linear}
use Rattle.model.proofs.Words.{seen_is}

module _ (z : Execution) where
  -- each view is the events seen, each once
  abbrev pub Viewed : Type 0
  Viewed = (p : ℕ) → p < z.processors → Proper (z.view p) (Sees z p)

  pub kept_viewed : Kept (rule 20 2 (WrongView z)) → Viewed
  unfolding WrongView
  kept_viewed k p h = proper _ _ (dec_sees z p) (λ e q. k (p ∷ e ∷ []) (h, q))

  pub viewed_kept : Viewed → Kept (rule 20 2 (WrongView z))
  unfolding WrongView
  viewed_kept v w q = let (p, (e, (h, m))) = of_any 2 (WrongView z) w q in misplaced_not _ _ (v p h) e m

  module _ (f : Formed z) where
    pub viewed_views : Viewed → view_orders_well_formed (structure_of z) (witness_of z).vo
    viewed_views v = record {
      linear = λ p h.
          let u = upto_linear _ _ (v p h) in
          record {
            domain = λ a b q. (seen_is z f p a).1 (u.domain a b q.1);
            range = λ a b q. (seen_is z f p b).1 (u.range a b q.1);
            transitive = λ a b c q r. (h, u.transitive a b c q.1 r.1);
            antisymmetric = λ a b q r. u.antisymmetric a b q.1 r.1;
            total = λ a b x y. ⊎_elim (λ q. inl (h, q)) (λ q. inr (h, q)) (u.total a b ((seen_is z f p a).0 x) ((seen_is z f p b).0 y));
          };
      founded = λ p h e s. (z.events.size, λ a q. ((v p h).due a (upto_ends _ a e q.1).0).0);
      others = λ p g a b q. g q.0;
    }

    pub views_viewed : view_orders_well_formed (structure_of z) (witness_of z).vo
        → ((p : ℕ) → p < z.processors → Single (z.view p)) → Viewed
    views_viewed w s p h = record {
      stands = λ e q. (upto_ends _ e e (⊎_elim (λ u. u.1) (λ u. u.1) ((w.linear p h).total e e ((seen_is z f p e).1 q) ((seen_is z f p e).1 q)))).0;
      due = λ e q. (seen_is z f p e).0 ((w.linear p h).domain e e (h, stands_upto _ e q));
      single = s p h;
    }
