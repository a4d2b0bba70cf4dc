-- The orders that are read off go along the list, so 24 is kept exactly if 32 is.
use Prim.Native.Nat.{ℕ, ◌<◌}
use mathlib.Core.Path.{◌≡◌, refl, sym}
use mathlib.Core.Logic.{◌⊎◌, inl, inr}
use native.Mathlib.Omega.{arith}
use mathlib.Core.List.{List, [], ◌∷◌}
use Rattle.order.specs.Relation.{Trail, Cyclic}
use Rattle.order.specs.Rule.{Kept, AllKept, cycles_rule}
use Rattle.order.proofs.Rules.{cycles_kept, kept_cycles, cyclic_as}
use Rattle.record.specs.Execution.{Execution}
use Rattle.record.specs.Formed.{Formed}
use Rattle.record.specs.Words.{Causes}
use Rattle.structure.specs.Structure.{Eventless, Repeated, structure_rules}
use Rattle.model.specs.Model.{Locked, KeepsOrder, Preserved, Before, StoreOrder, Source, HappensBefore, ViewOrder, OrderFor}
use Rattle.model.proofs.Bounds.{causes_low}
use Rattle.model.proofs.Lists.{Proper, before_or, before_trans}
use Rattle.model.proofs.Structures.{causes_one}
use Rattle.sequences.specs.Sequence.{steps, BrokenUp, Reversed}
use Rattle.sequences.specs.ReadOff.{event, read_off}
use Rattle.sequences.proofs.Locking.{locked_along}
use Rattle.sequences.proofs.Picking.{picked_before, before_picked}
use Rattle.sequences.proofs.Sourcing.{source_at}
use Rattle.sequences.proofs.Tests.{sees_decides, store_decides}

module _ (z : Execution) (l : List ℕ) where
  pub view_along : (p a b : ℕ) → ViewOrder (read_off z l) p a b → Before (steps l) a b
  view_along p = picked_before _ _ (sees_decides z p) l

  store_along : (a b : ℕ) → StoreOrder (read_off z l) a b → Before (steps l) a b
  store_along a b q = picked_before _ _ (λ e. store_decides (event z e)) l a b q.0

  source_along : (a b : ℕ) → Source (read_off z l) a b → Before (steps l) a b
  source_along a b q = let (i, h, (e, r, (j, u, d))) = source_at z l a b q in (i, h, (j, u.0, (d, e)))

  -- what is not of the witness is as it was
  pub locked_was : (e : ℕ) → Locked (read_off z l) e → Locked z e
  unfolding Locked
  locked_was e q = q

  abbrev pub Given : Execution → ℕ → ℕ → Type 0
  Given x a b = Causes x a b ⊎ Preserved x a b

  given_was : (a b : ℕ) → Given (read_off z l) a b → Given z a b
  unfolding Causes KeepsOrder Locked
  given_was a b q = q

  given_is : (a b : ℕ) → Given z a b → Given (read_off z l) a b
  unfolding Causes KeepsOrder Locked
  given_is a b q = q

  happens_given : (a b : ℕ) → Given (read_off z l) a b → HappensBefore (read_off z l) a b
  unfolding HappensBefore
  happens_given a b (inl q) = inl q
  happens_given a b (inr q) = inr (inl q)

  module _ (f : Formed z) (s : AllKept (structure_rules z)) (full : Proper (steps l) (λ e. e < z.events.size)) where
    -- both are events, which differ, of one processor
    pub record Apart (a b : ℕ) : Type 0 where
      pub from : a < z.events.size
      pub to : b < z.events.size
      pub differ : a ≡ b → ⊥
      pub processor : (event z a).processor ≡ (event z b).processor

    pub given_apart : (a b : ℕ) → Given z a b → Apart a b
    given_apart a b (inl q) = record {
      from = (causes_low z f a b q).0;
      to = (causes_low z f a b q).1;
      differ = λ e. s.1.0 (1 ∷ b ∷ []) (refl, rw e at q, tt);
      processor = (causes_one z f s a b q).0;
    }
    given_apart a b (inr (h, g, ((p, o), c))) = record {
      from = h;
      to = g;
      differ = λ e. let n = rw e at o in omega arith;
      processor = p;
    }

    -- 32 from 24
    pub kept_along : Kept (cycles_rule 24 z.processors (OrderFor (read_off z l))) → (a b : ℕ) → Reversed z l a b → ⊥
    unfolding Reversed
    kept_along k a b (q, c) = go (given_apart a b q)
      where
        go : Apart a b → ⊥
        go d =
            kept_cycles 24 _ (OrderFor (read_off z l)) k (event z a).processor (f.events.each a d.from).own (
              b ∷ a ∷ [],
              (
                inl (before_picked _ _ (sees_decides z (event z a).processor) l b a c (inl (sym d.processor)) (inl refl)),
                inr (happens_given a b (given_is a b q)),
              ),
            )

    -- 24 from 32
    module _ (some : (i : ℕ) → Eventless z i → ⊥) (repeats : (i : ℕ) → Repeated z i → ⊥) (unbroken : (a x b : ℕ) → BrokenUp z l a x b → ⊥)
        (k : (a b : ℕ) → Reversed z l a b → ⊥) where
      given_along : (a b : ℕ) → Given z a b → Before (steps l) a b
      unfolding Reversed
      given_along a b q = go (given_apart a b q)
        where
          go : Apart a b → Before (steps l) a b
          go d = by (before_or (steps l) a b (full.stands a d.from) (full.stands b d.to) d.differ)
            where
              by : Before (steps l) a b ⊎ Before (steps l) b a → Before (steps l) a b
              by (inl c) = c
              by (inr c) = absurd (k a b (q, c))

      order_along : (p a b : ℕ) → OrderFor (read_off z l) p a b → Before (steps l) a b
      unfolding HappensBefore
      order_along p a b (inl q) = view_along p a b q
      order_along p a b (inr (inl q)) = given_along a b (given_was a b (inl q))
      order_along p a b (inr (inr (inl q))) = given_along a b (given_was a b (inr q))
      order_along p a b (inr (inr (inr (inl q)))) = store_along a b q
      order_along p a b (inr (inr (inr (inr (inl q))))) = locked_along z l full some repeats unbroken a b q
      order_along p a b (inr (inr (inr (inr (inr q))))) = source_along a b q

      trail_before : (a : ℕ) (m : List ℕ) (b : ℕ) → Trail (Before (steps l)) a m b → Before (steps l) a b
      trail_before a [] b q = q
      trail_before a (c ∷ m) b (q, t) = before_trans (steps l) full.single a c b q (trail_before c m b t)

      acyclic : Cyclic (Before (steps l)) → ⊥
      acyclic ([], t) = t
      acyclic (a ∷ m, t) = full.single a (trail_before a m a t)

      pub along_kept : Kept (cycles_rule 24 z.processors (OrderFor (read_off z l)))
      along_kept = cycles_kept 24 _ (OrderFor (read_off z l)) (λ p h c. acyclic (cyclic_as (OrderFor (read_off z l) p) (Before (steps l)) (order_along p) c))
