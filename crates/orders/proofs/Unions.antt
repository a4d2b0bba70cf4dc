-- Happens-before, order after order.
use Prim.Native.Nat.{ℕ, ◌<◌}
use mathlib.Core.Path.{◌≡◌, subst}
use mathlib.Core.Logic.{◌⊎◌, inl, inr, ⊎_elim}
use mathlib.Core.List.{List}
use native.Mathlib.Omega.{arith}
use Rattle.rows.specs.Members.{In, Is}
use Rattle.rows.specs.Table.{rel, Adds}
use Rattle.rows.specs.declared.Set.{Set}
use Rattle.rows.proofs.Table.{adds_as, adds_then}
use Rattle.record.specs.Execution.{Items, Execution}
use Rattle.record.specs.Formed.{Formed}
use Rattle.record.specs.Words.{Memory, SameAddress, SamePlace}
use Rattle.facts.specs.Facts.{Placed, Entered, Classed}
use Rattle.facts.specs.declared.Classes.{Classes}
use Rattle.model.specs.Model.{Before, Preserved, StoreOrder, LockedOrder, Source, HappensBefore}
use Rattle.structure.specs.Held.{Held}
use Rattle.model.proofs.Bounds.{before_low}
use Rattle.orders.specs.Groups.{BeforeIn, Happens}
use Rattle.orders.proofs.Instructions.{memory_classed}

module _ (z : Execution) (f : Formed z) where
  -- the part of section 6's order that is at one place and leads to memory is store order
  module _ (q : List ℕ) (p : Placed z q) (c : Classes) (d : Classed z c) (memory : Set) (u : Is memory (λ k. In c.loads k ⊎ In c.stores k)) where
    stores_says : (a b : ℕ) → Before z.stores a b × (rel q a b × In memory b) → StoreOrder z a b
    stores_says a b (o, (r, m)) = (o, go ((p.pairs a b).0 r).2 (⊎_elim load store (u.says b m)))
      where
        load : In c.loads b → Memory (z.events.item b)
        load i = let e = (d.loads.says b i).1 in omega arith

        store : In c.stores b → Memory (z.events.item b)
        store i = let e = (d.stores.says b i).1 in omega arith

        go : SamePlace (z.events.item a) (z.events.item b) → Memory (z.events.item b) → SameAddress (z.events.item a) (z.events.item b)
        go (inl s) h = s
        go (inr s) h = let g = s.1.0 in absurd (omega arith)

    stores_has : (a b : ℕ) → StoreOrder z a b → Before z.stores a b × (rel q a b × In memory b)
    stores_has a b (o, s) = (o, ((p.pairs a b).1 (ends.0, ends.1, inl s), u.has b (memory_classed z c d b ends.1 s.1.0)))
      where
        ends : (a < z.events.size) × (b < z.events.size)
        ends = before_low _ z.stores f.stores.each a b o

    pub stores_adds : (l : Items ℕ) → l ≡ z.stores → (t v : List ℕ) → Adds t v (λ a b. Before l a b × (rel q a b × In memory b)) → Adds t v (StoreOrder z)
    stores_adds l e t v a =
        adds_as t v _ _ stores_says stores_has (subst (λ (x : Items ℕ). Adds t v (λ a b. Before x a b × (rel q a b × In memory b))) e a)

  -- the order of the rows of section 4's entries is locked order
  module _ (k : List ℕ) (e : Entered z k) where
    locks_says : (a b : ℕ) → BeforeIn (rel k) z.lock_order a b → LockedOrder z a b
    locks_says a b (j, hj, (i, hi, (x, y))) =
        (j, hj, (i, hi, ((e.entry _ a (f.lock_order.each i (omega arith))).0 x, (e.entry _ b (f.lock_order.each j hj)).0 y)))

    locks_has : (a b : ℕ) → LockedOrder z a b → BeforeIn (rel k) z.lock_order a b
    locks_has a b (j, hj, (i, hi, (x, y))) =
        (j, hj, (i, hi, ((e.entry _ a (f.lock_order.each i (omega arith))).1 x, (e.entry _ b (f.lock_order.each j hj)).1 y)))

    pub locks_adds : (l : Items ℕ) → l ≡ z.lock_order → (t v : List ℕ) → Adds t v (BeforeIn (rel k) l) → Adds t v (LockedOrder z)
    locks_adds l q t v a = adds_as t v _ _ locks_says locks_has (subst (λ (x : Items ℕ). Adds t v (BeforeIn (rel k) x)) q a)

-- one order after the other, behind section 3
pub happens : (z : Execution) (t v w x y : List ℕ) → Held z t → Adds t v (Preserved z) → Adds v w (StoreOrder z) → Adds w x (LockedOrder z)
    → Adds x y (Source z) → Happens z y
unfolding HappensBefore
happens z t v w x y h b c d e = record {
  rows = let l = all.same in let n = h.rows in omega arith;
  pairs = λ m n. (
    λ r. ⊎_elim (λ q. inl ((h.pairs m n).0 q)) (λ q. there m n q) ((all.pairs m n).0 r),
    λ r. (all.pairs m n).1 (⊎_elim (λ q. inl ((h.pairs m n).1 q)) (λ q. inr (back m n q)) r),
  );
}
  where
    all : Adds t y (λ m n. ((Preserved z m n ⊎ StoreOrder z m n) ⊎ LockedOrder z m n) ⊎ Source z m n)
    all = adds_then t x y _ _ (adds_then t w x _ _ (adds_then t v w _ _ b c) d) e

    there : (m n : ℕ) → ((Preserved z m n ⊎ StoreOrder z m n) ⊎ LockedOrder z m n) ⊎ Source z m n → HappensBefore z m n
    there m n (inl (inl (inl q))) = inr (inl q)
    there m n (inl (inl (inr q))) = inr (inr (inl q))
    there m n (inl (inr q)) = inr (inr (inr (inl q)))
    there m n (inr q) = inr (inr (inr (inr q)))

    back : (m n : ℕ) → Preserved z m n ⊎ (StoreOrder z m n ⊎ (LockedOrder z m n ⊎ Source z m n))
        → ((Preserved z m n ⊎ StoreOrder z m n) ⊎ LockedOrder z m n) ⊎ Source z m n
    back m n (inl q) = inl (inl (inl q))
    back m n (inr (inl q)) = inl (inl (inr q))
    back m n (inr (inr (inl q))) = inl (inr q)
    back m n (inr (inr (inr q))) = inr q
