-- A table of a view's order and happens-before, and what it shows of the view.
use Prim.Native.Nat.{ℕ, ◌-◌, ◌<◌, ◌≤◌}
use mathlib.Core.Path.{◌≡◌, subst}
use mathlib.Core.Logic.{◌⊎◌, inl, inr, ⊎_elim}
use mathlib.Core.List.{List}
use native.Mathlib.Omega.{arith}
use lib.ListN.{length, length-drop, length-take, take, drop, replicate}
use Rattle.order.specs.Relation.{Cyclic}
use Rattle.rows.specs.Members.{In, Is}
use Rattle.rows.specs.Table.{HasRows, rel, Adds}
use Rattle.rows.specs.declared.Set.{Set}
use Rattle.rows.proofs.Table.{zeros_rel}
use Rattle.record.specs.Execution.{Items, Execution}
use Rattle.record.specs.Formed.{Formed}
use Rattle.record.specs.Says.{execution_of}
use Rattle.record.specs.Laid.{Views}
use Rattle.record.specs.declared.Part.{Part}
use Rattle.record.proofs.Formings.{formed}
use Rattle.facts.specs.Facts.{Sorted, Classed}
use Rattle.facts.specs.declared.Classes.{Classes}
use Rattle.facts.specs.Lists.{list_of, Listed}
use Rattle.facts.proofs.Listings.{view_list, view_listed, listed_more}
use Rattle.model.specs.Model.{Before, Sees, OrderFor}
use Rattle.axioms.specs.Scene.{Scene}
use Rattle.judge.specs.Ordered.{Ordered}
use Rattle.judge.specs.declared.Known.{Known}
use Rattle.judge.proofs.Scenes.{Arranged, arranged, viewed, paired}

module _ (s q m u h : List ℕ) (g : Known) (o : Ordered s q m u h g) where
  pub form : Formed (execution_of s)
  form = formed s o.ready.right

  pub events_are : g.layout.events ≡ (execution_of s).events.size
  events_are = o.ready.laid.events

  pub processor_is : (p : ℕ) → p < g.layout.processors → p < (execution_of s).processors
  processor_is p l = let e = o.ready.laid.processors in omega arith

  pub processors_end : (p : ℕ) → g.layout.processors ≤ p → (execution_of s).processors ≤ p
  processors_end p l = let e = o.ready.laid.processors in omega arith

  pub processor_low : (p : ℕ) → p < (execution_of s).processors → p < 4
  processor_low p l = let n = form.processors in omega arith

  module _ (p : ℕ) (l : p < (execution_of s).processors) (v : Part) (w : Views s p v) where
    pub view_fits : Listed s 64 v
    view_fits = let n = form.events.within in listed_more s _ 64 v n (view_listed s o.ready.right p l v w)

    pub arrange_ready : Listed s 64 v × (g.layout.events ≤ 64) × HasRows h g.layout.events × HasRows (replicate 64 0) 64
    arrange_ready =
        let n = form.events.within in
        let e = events_are in
        let r = o.before.rows in
        (view_fits, omega arith, omega arith, omega arith)

    module _ (t : List ℕ) (d : Adds (replicate 64 0) t (λ a b. ((a < g.layout.events) × rel h a b) ⊎ Before (list_of s v) a b)) where
      pub looked_arranged : Arranged (execution_of s) p t
      looked_arranged =
          arranged (execution_of s) p h (replicate 64 0) t g.layout.events events_are (omega arith) (zeros_rel 64) o.before.pairs form
          (subst (λ (x : Items ℕ). Adds (replicate 64 0) t (λ a b. ((a < g.layout.events) × rel h a b) ⊎ Before x a b)) (view_list s p v w) d)

      pub looked_scene : (seen : Set) → Is seen (Sees (execution_of s) p) → (Cyclic (OrderFor (execution_of s) p) → ⊥) → Scene (execution_of s) p t q g.classes seen
      looked_scene seen i f = record {
        view = viewed (execution_of s) form p l t looked_arranged g.layout.events events_are o.witness seen i f;
        places = o.ready.placed;
        classes = o.ready.classed;
        paired = paired (execution_of s) o.witness;
      }

      pub show_ready : (ev : List ℕ) → 65 ≤ length ev
          → (g.layout.events ≤ 64) × HasRows t g.layout.events × (g.layout.events ≤ length (take (length ev - 1) (drop 1 ev)))
      show_ready ev e =
          let n = arrange_ready.1 in
          let r = looked_arranged.rows in
          (n, omega arith, omega (arith, length-take (length ev - 1) (drop 1 ev), length-drop 1 ev))

-- what p sees
pub sees_is : (z : Execution) (f : List ℕ) (c : Classes) → Sorted z f → Classed z c → (p : ℕ) → p < 4 → (row out : Set) → Is row (rel f p)
    → Is out (λ k. In row k ⊎ In c.stores k) → Is out (Sees z p)
sees_is z f c sorted classed p l row out i j = record {
  says = λ k m. ⊎_elim
      (λ n. let (b, e) = (sorted.own p k l).0 (i.says k n) in (b, inl e))
      (λ n. let (b, e) = classed.stores.says k n in (b, inr e))
      (j.says k m);
  has = λ k (b, n). j.has k (⊎_elim (λ e. inl (i.has k ((sorted.own p k l).1 (b, e)))) (λ e. inr (classed.stores.has k (b, e))) n);
}
