-- The orders of an execution that has the form are between events.
use Prim.Native.Nat.{ℕ, ◌<◌}
use mathlib.Core.Logic.{inl, inr}
use Rattle.order.specs.Relation.{Below}
use Rattle.record.specs.Execution.{Items, Execution}
use Rattle.record.specs.Formed.{Formed}
use Rattle.record.specs.Words.{Causes}
use Rattle.model.specs.Model.{Before, Source, HappensBefore, OrderFor}
use Rattle.model.specs.Rules.{Stands, Misplaced}
use Rattle.model.proofs.Lists.{before_ends}

-- ---- lists of numbers below n

module _ (n : ℕ) (l : Items ℕ) (each : (i : ℕ) → i < l.size → l.item i < n) where
  pub stands_low : (e : ℕ) → Stands l e → e < n
  stands_low e (i, h, q) = rw q at (each i h)

  pub before_low : Below n (Before l)
  before_low a b q = let (u, v) = before_ends l a b q in (stands_low a u, stands_low b v)

  pub misplaced_low : (Due : Type 0) (e : ℕ) → (Due → e < n) → Misplaced Due l e → e < n
  unfolding Misplaced
  misplaced_low Due e d (inl q) = d q.0
  misplaced_low Due e d (inr (inl q)) = stands_low e q.1
  misplaced_low Due e d (inr (inr q)) = (before_low e e q).0

-- ---- the relations are between events

module _ (z : Execution) (f : Formed z) where
  pub causes_low : Below z.events.size (Causes z)
  unfolding Causes
  causes_low a b (i, h, (d, e)) = let q = f.causes.each i h in rw (d, e) at q

  pub source_low : Below z.events.size (Source z)
  unfolding Source
  source_low a b (i, h, (d, e)) = let q = f.sources.each i h in rw (d, e) at q

  pub happens_low : Below z.events.size (HappensBefore z)
  unfolding HappensBefore
  happens_low a b (inl q) = causes_low a b q
  happens_low a b (inr (inl q)) = (q.0, q.1)
  happens_low a b (inr (inr (inl q))) = before_low z.events.size z.stores f.stores.each a b q.0
  happens_low a b (inr (inr (inr (inl (j, h, (i, g, q)))))) = (q.0.0, q.1.0)
  happens_low a b (inr (inr (inr (inr q)))) = source_low a b q

  pub view_low : (p : ℕ) → p < z.processors → Below z.events.size (Before (z.view p))
  view_low p h = before_low z.events.size (z.view p) (f.view p h).each

  pub order_low : (p : ℕ) → p < z.processors → Below z.events.size (OrderFor z p)
  order_low p h a b (inl q) = view_low p h a b q
  order_low p h a b (inr q) = happens_low a b q
