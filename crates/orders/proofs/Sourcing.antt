-- The pairs of section 8, one after the other.
use Prim.Native.Nat.{ℕ, ◌+◌, ◌<◌}
use mathlib.Core.Path.{◌≡◌, refl, sym, ap, ◌∙◌, subst}
use mathlib.Core.Logic.{◌⊎◌, inl, inr, ⊎_elim}
use mathlib.Core.List.{List}
use native.Mathlib.Omega.{arith}
use Rattle.order.specs.Least.{Some}
use Rattle.order.proofs.Numbers.{last_or}
use Rattle.rows.specs.Members.{In, Is}
use Rattle.rows.specs.Table.{Adds}
use Rattle.rows.specs.declared.Set.{Set}
use Rattle.form.specs.Right.{Right}
use Rattle.record.specs.Execution.{Items, Pair, Execution}
use Rattle.record.specs.Says.{execution_of}
use Rattle.record.specs.Laid.{Stands}
use Rattle.record.specs.declared.Part.{Part}
use Rattle.record.proofs.Formings.{formed}
use Rattle.facts.proofs.Counting.{Upto, PairStep}
use Rattle.model.specs.Model.{Source, Sourced}

-- the events of pair i are below 64
module _ (s : List ℕ) (r : Right s) (p : Part) (q : Stands s 8 p) (i : ℕ) (h : i < p.count) where
  within : i < (execution_of s).sources.size
  within = subst (λ (x : ℕ). i < x) q.number h

  pub source_low : ((execution_of s).sources.item i).from < 64
  source_low = let f = formed s r in let a = (f.sources.each i within).0 in let b = f.events.within in omega arith

  pub reader_low : ((execution_of s).sources.item i).to < 64
  reader_low = let f = formed s r in let a = (f.sources.each i within).1 in let b = f.events.within in omega arith

-- what the pairs below i go to
unfoldable pub EndsTo : Items Pair → ℕ → ℕ → Type 0
EndsTo l i e = Some i (λ j. (l.item j).to ≡ e)

module _ (l : Items Pair) where
  pub ends_none : (r : Set) → Is r (λ k. ⊥) → Is r (EndsTo l 0)
  unfolding EndsTo
  ends_none r i = record { says = λ k m. absurd (i.says k m); has = λ k q. let h = q.1 in absurd (omega arith) }

  pub ends_more : (i : ℕ) (r : Set) → Is r (EndsTo l i) → (y : ℕ) → y ≡ (l.item i).to → (one both : Set) → Is one (λ k. k ≡ y)
      → Is both (λ k. In r k ⊎ In one k) → Is both (EndsTo l (i + 1))
  unfolding EndsTo
  ends_more i r p y e one both o u = record {
    says = λ k m. ⊎_elim (λ q. let (j, h, z) = p.says k q in (j, omega arith, z)) (λ q. (i, omega arith, sym e ∙ sym (o.says k q))) (u.says k m);
    has = λ k (j, h, z). u.has k (⊎_elim (λ (f : j ≡ i). inr (o.has k (sym z ∙ ap (λ (x : ℕ). (l.item x).to) f ∙ sym e))) (λ g. inl (p.has k (j, g, z))) (last_or i j (omega arith)));
  }

-- all of them
module _ (z : Execution) (i : ℕ) (e : i ≡ z.sources.size) where
  pub sources_all : (t u : List ℕ) → Adds t u (Upto (PairStep z.sources) i) → Adds t u (Source z)
  unfolding Upto Source
  sources_all t u d = rw e at d

  pub sourced_all : (r : Set) → Is r (EndsTo z.sources i) → Is r (Sourced z)
  unfolding EndsTo Source
  sourced_all r p = record {
    says = λ k m. let (j, h, f) = p.says k m in ((z.sources.item j).from, (j, omega arith, (refl, f)));
    has = λ k (w, (j, h, f)). p.has k (j, omega arith, f.1);
  }
