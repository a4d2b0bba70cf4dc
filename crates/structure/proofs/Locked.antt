-- Rules 13 and 14, from the events of each entry.
use Prim.Native.Nat.{ℕ, ◌+◌, ◌<◌}
use mathlib.Core.Path.{◌≡◌, sym, ap₂, ◌∙◌, subst}
use mathlib.Core.Logic.{◌⊎◌, inl, inr, ⊎_elim}
use mathlib.Core.List.{List}
use native.Mathlib.Omega.{arith}
use Rattle.order.specs.Least.{Some, None, Least}
use Rattle.order.proofs.Numbers.{last_or}
use Rattle.order.proofs.Searches.{none_next}
use Rattle.rows.specs.Members.{In, Is, Member, Meet}
use Rattle.rows.specs.Table.{rel}
use Rattle.rows.specs.declared.Set.{Set}
use Rattle.record.specs.Execution.{Instruction, Execution}
use Rattle.record.specs.Words.{Belongs, OfLock}
use Rattle.facts.specs.Facts.{Entered}
use Rattle.structure.specs.Structure.{Eventless, Repeated}

module _ (x : Execution) (k : List ℕ) (f : Entered x k) (i : ℕ) (l : i < x.locks.size) (here : Set) (h : Is here (rel k i)) where
  -- ---- rule 13
  pub eventless_is : (Member here → ⊥) → Eventless x i
  unfolding Eventless
  eventless_is g = (l, λ e n b. g (e, h.has e ((f.entry i e l).1 (n, b))))

  pub eventless_not : Member here → Eventless x i → ⊥
  unfolding Eventless
  eventless_not (e, m) q = let b = (f.entry i e l).0 (h.says e m) in q.1 e b.0 b.1

  -- ---- rule 14: entries that share an event are one
  module _ (earlier : Set) (g : Is earlier (λ e. Some i (λ j. OfLock x j e))) where
    pub repeated_is : Meet here earlier → Repeated x i
    unfolding Repeated
    repeated_is (e, m, n) =
        let b = ((f.entry i e l).0 (h.says e m)).1 in
        let (j, o, c) = g.says e n in
        (l, (j, o, ap₂ (λ (p a : ℕ). record { processor = p; index = a }) (sym c.1.0 ∙ b.0) (sym c.1.1 ∙ b.1)))

    -- each entry has an event
    pub repeated_not : (Eventless x i → ⊥) → (Meet here earlier → ⊥) → Repeated x i → ⊥
    unfolding Repeated Eventless
    repeated_not some apart (m, (j, o, e)) = some (l, λ y n b. apart (y, h.has y ((f.entry i y l).1 (n, b)), g.has y (j, o, (n, subst (λ (a : Instruction). Belongs (x.events.item y) a) (sym e) b))))

    pub earlier_next : (both : Set) → Is both (λ e. In earlier e ⊎ In here e) → Is both (λ e. Some (i + 1) (λ j. OfLock x j e))
    earlier_next both u = record {
      says = λ e m. ⊎_elim (λ q. let (j, o, c) = g.says e q in (j, omega arith, c)) (λ q. (i, omega arith, (f.entry i e l).0 (h.says e q))) (u.says e m);
      has = λ e (j, o, c). u.has e (go e j (last_or i j (omega arith)) c);
    }
      where
        go : (e j : ℕ) → (j ≡ i) ⊎ (j < i) → OfLock x j e → In earlier e ⊎ In here e
        go e j (inl q) c = inr (h.has e ((f.entry i e l).1 (rw q at c)))
        go e j (inr o) c = inl (g.has e (j, o, c))

-- the events of the entries before i, none of which repeats another
pub record Repeats (x : Execution) (earlier : Set) (i : ℕ) : Type 0 where
  pub is : Is earlier (λ e. Some i (λ j. OfLock x j e))
  pub none : None i (Repeated x)

module _ (x : Execution) (k : List ℕ) (f : Entered x k) (g i : ℕ) (e : g ≡ x.locks.size) (l : i < g) (here : Set) (h : Is here (rel k i))
    (earlier : Set) (r : Repeats x earlier i) where
  within : i < x.locks.size
  within = omega arith

  pub repeats_found : Meet here earlier → (i < g) × Least (Repeated x) i
  repeats_found m = (l, (repeated_is x k f i within here h earlier r.is m, r.none))

  pub repeats_more : None g (Eventless x) → (Meet here earlier → ⊥) → (both : Set) → Is both (λ e. In earlier e ⊎ In here e) → Repeats x both (i + 1)
  repeats_more some apart both u = record {
    is = earlier_next x k f i within here h earlier r.is both u;
    none = none_next _ i r.none (repeated_not x k f i within here h earlier r.is (some i l) apart);
  }
