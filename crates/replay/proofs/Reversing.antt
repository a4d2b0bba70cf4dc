-- Rule 32: the events that one is before and that stand earlier in the list.
use Prim.Native.Nat.{ℕ, ◌<◌}
use mathlib.Core.Path.{◌≡◌}
use mathlib.Core.Logic.{◌⊎◌, inl, inr}
use mathlib.Core.List.{List}
use Rattle.order.specs.Least.{None}
use Rattle.order.specs.Rule.{Any, AllKept}
use Rattle.rows.specs.Members.{In, Is}
use Rattle.rows.specs.Table.{rel}
use Rattle.rows.specs.declared.Set.{Set}
use Rattle.record.specs.Execution.{Execution}
use Rattle.record.specs.Formed.{Formed}
use Rattle.structure.specs.Structure.{structure_rules}
use Rattle.model.specs.Model.{Before}
use Rattle.model.proofs.Lists.{Proper, before_or, before_trans}
use Rattle.sequences.specs.Sequence.{steps, Reversed}
use Rattle.replay.specs.Known.{Sequenced, Programmed}
use Rattle.sequences.proofs.Along.{Apart, given_apart}
use Rattle.sequences.proofs.Agreement.{full}

module _ (z : Execution) (l b t u : List ℕ) (f : Formed z) (s : AllKept (structure_rules z)) (p : Programmed z t) (q : Sequenced z l b u) where
  once : Proper (steps l) (λ e. e < z.events.size)
  once = full z f s l q.kept

  pub reversed_is : (a : ℕ) (x y r : Set) → Is x (rel t a) → Is y (rel u a) → Is r (λ k. In x k × (In y k → ⊥)) → Is r (Reversed z l a)
  unfolding Reversed
  reversed_is a x y r ix iy ir = record { says = λ k m. there k (ir.says k m); has = λ k o. ir.has k (back k o) }
    where
      there : (k : ℕ) → In x k × (In y k → ⊥) → Reversed z l a k
      there k (m, n) = let g = (p.pairs a k).0 (ix.says k m) in (g, go (given_apart z l f s once a k g))
        where
          go : Apart z l f s once a k → Before (steps l) k a
          go d = by (before_or (steps l) a k (once.stands a d.from) (once.stands k d.to) d.differ)
            where
              by : Before (steps l) a k ⊎ Before (steps l) k a → Before (steps l) k a
              by (inl o) = absurd (n (iy.has k ((q.order a k).1 o)))
              by (inr o) = o

      back : (k : ℕ) → Reversed z l a k → In x k × (In y k → ⊥)
      back k (g, o) = (
        ix.has k ((p.pairs a k).1 g),
        λ n. once.single a (before_trans (steps l) once.single a k a ((q.order a k).0 (iy.says k n)) o),
      )

  -- what is before another is an event, so a search of the events is one of all
  pub reversed_none : (n : ℕ) → n ≡ z.events.size → None n (λ a. Any 1 (Reversed z l a)) → None 64 (λ a. Any 1 (Reversed z l a))
  unfolding Reversed
  reversed_none n e none a h (k, (g, o)) = none a (rw e (given_apart z l f s once a k g).from) (k, (g, o))
