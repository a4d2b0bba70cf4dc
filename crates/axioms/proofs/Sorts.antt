-- The sets of the writes and of the reads.
use Prim.Native.Nat.{ℕ, ◌<◌}
use mathlib.Core.Path.{◌≡◌}
use mathlib.Core.Logic.{◌⊎◌, inl, inr, ⊎_elim}
use native.Mathlib.Omega.{arith}
use Rattle.rows.specs.Members.{In, Is}
use Rattle.rows.specs.declared.Set.{Set}
use Rattle.record.specs.Execution.{Execution}
use Rattle.record.specs.declared.Event.{Event}
use Rattle.facts.specs.Facts.{Classed}
use Rattle.facts.specs.declared.Classes.{Classes}
use Rattle.model.specs.Model.{Reads, Writes}

pub reads_not : (x : Event) → Reads x → Writes x → ⊥
reads_not x (inl r) (inl w) = omega arith
reads_not x (inl r) (inr w) = omega arith
reads_not x (inr r) (inl w) = omega arith
reads_not x (inr r) (inr w) = omega arith

-- the events of either of two kinds
either : (z : Execution) (a b : ℕ) (x y both : Set) → Is x (λ e. (e < z.events.size) × ((z.events.item e).kind ≡ a))
    → Is y (λ e. (e < z.events.size) × ((z.events.item e).kind ≡ b)) → Is both (λ e. In x e ⊎ In y e)
    → Is both (λ e. (e < z.events.size) × (((z.events.item e).kind ≡ a) ⊎ ((z.events.item e).kind ≡ b)))
either z a b x y both ix iy i = record {
  says = λ e m. ⊎_elim (λ h. let q = ix.says e h in (q.0, inl q.1)) (λ h. let q = iy.says e h in (q.0, inr q.1)) (i.says e m);
  has = λ e q. i.has e (⊎_elim (λ k. inl (ix.has e (q.0, k))) (λ k. inr (iy.has e (q.0, k))) q.1);
}

module _ (z : Execution) (c : Classes) (k : Classed z c) where
  pub writes_is : (writes : Set) → Is writes (λ e. In c.stores e ⊎ In c.puts e)
      → Is writes (λ e. (e < z.events.size) × Writes (z.events.item e))
  writes_is writes i = either z 1 3 c.stores c.puts writes k.stores k.puts i

  pub reads_is : (reads : Set) → Is reads (λ e. In c.loads e ⊎ In c.gets e)
      → Is reads (λ e. (e < z.events.size) × Reads (z.events.item e))
  reads_is reads i = either z 0 2 c.loads c.gets reads k.loads k.gets i
