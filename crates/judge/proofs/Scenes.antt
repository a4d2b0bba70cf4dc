-- A view that has passed rules 20 and 24, as the rules after them see it.
use Prim.Native.Nat.{ℕ, ◌<◌}
use mathlib.Core.Path.{◌≡◌, sym}
use mathlib.Core.Logic.{◌⊎◌, ◌↔◌, inl, inr, ⊎_elim}
use mathlib.Core.List.{List, [], ◌∷◌}
use native.Mathlib.Omega.{arith}
use native.Mathlib.Decide.{ℕ_discrete}
use Rattle.order.specs.Relation.{Cyclic}
use Rattle.order.specs.Rule.{AllKept}
use Rattle.rows.specs.Members.{In, Is}
use Rattle.rows.specs.Table.{HasRows, rel, on, Adds}
use Rattle.rows.specs.declared.Set.{Set}
use Rattle.rows.proofs.Members.{dec_in}
use Rattle.record.specs.Execution.{Execution}
use Rattle.record.specs.Formed.{Formed}
use Rattle.facts.specs.Facts.{Blank}
use Rattle.model.specs.Model.{Source, Sees, ViewOrder, HappensBefore, OrderFor}
use Rattle.model.specs.Rules.{Stands, Misplaced, WrongView, WrongSource, witness_rules}
use Rattle.axioms.specs.Scene.{Viewed, Paired}
use Rattle.model.proofs.Bounds.{happens_low, order_low}
use Rattle.model.proofs.Decisions.{certain, dec_stands, dec_pair}
use Rattle.model.proofs.Lists.{before_ends, before_or, before_trans}

-- ---- what the witness rules leave
module _ (z : Execution) (k : AllKept (witness_rules z)) where
  right_view : (p e : ℕ) → WrongView z p e → ⊥
  right_view p e w = k.0 (p ∷ e ∷ []) w

  module _ (p : ℕ) (h : p < z.processors) where
    right_place : (e : ℕ) → Misplaced (Sees z p e) (z.view p) e → ⊥
    unfolding WrongView
    right_place e m = right_view p e (h, m)

    pub view_once : (e : ℕ) → ViewOrder z p e e → ⊥
    unfolding Misplaced
    view_once e b = right_place e (inr (inr b))

    pub view_stands : (e : ℕ) → Sees z p e → Stands (z.view p) e
    unfolding Misplaced
    view_stands e s = certain (dec_stands (z.view p) e) (λ g. right_place e (inl (s, g)))

  pub paired : Paired z
  unfolding Source WrongSource
  paired w r (i, h, (ew, er)) =
      rw (sym ew, sym er) (certain (dec_pair (z.events.item (z.sources.item i).from) (z.events.item (z.sources.item i).to)) (λ g. k.1.1.1.0 (i ∷ []) (h, g)))

  -- what does not stand in the view is not seen, and the other way round
  view_seen : (p : ℕ) → p < z.processors → (e : ℕ) → Stands (z.view p) e → (Sees z p e → ⊥) → ⊥
  unfolding Misplaced
  view_seen p h e s g = right_place p h e (inr (inl (g, s)))

-- ---- a table of the view order and happens-before together
pub record Arranged (z : Execution) (p : ℕ) (t : List ℕ) : Type 0 where
  pub rows : HasRows t 64
  pub pairs : (a b : ℕ) → rel t a b ↔ OrderFor z p a b

module _ (z : Execution) (p : ℕ) (h t u : List ℕ) (n : ℕ) (e : n ≡ z.events.size) (rows : HasRows t 64) (blank : Blank t)
    (before : (a b : ℕ) → rel h a b ↔ HappensBefore z a b) (f : Formed z) where
  pub arranged : Adds t u (λ a b. ((a < n) × rel h a b) ⊎ ViewOrder z p a b) → Arranged z p u
  arranged d = record {
    rows = let s = d.same in omega arith;
    pairs = λ a b. (
      λ r. ⊎_elim (λ q. absurd (blank a b q)) (λ q. ⊎_elim (λ x. inr ((before a b).0 x.1)) (λ x. inl x) q) ((d.pairs a b).0 r),
      λ r. (d.pairs a b).1 (inr (⊎_elim (λ x. inr x) (λ x. inl (let l = (happens_low z f a b x).0 in omega arith, (before a b).1 x)) r)),
    );
  }

module _ (z : Execution) (f : Formed z) (p : ℕ) (h : p < z.processors) (t : List ℕ) (g : Arranged z p t) (n : ℕ) (e : n ≡ z.events.size) where
  pub rows_order : (a b : ℕ) → on n t a b → OrderFor z p a b
  rows_order a b r = (g.pairs a b).0 r.2

  pub order_rows : (a b : ℕ) → OrderFor z p a b → on n t a b
  order_rows a b r = let l = order_low z f p h a b r in let x = l.0 in let y = l.1 in (omega arith, omega arith, (g.pairs a b).1 r)

  -- no cycle: among what p sees the table has the view order alone
  module _ (k : AllKept (witness_rules z)) (seen : Set) (i : Is seen (Sees z p)) (acyclic : Cyclic (OrderFor z p) → ⊥) where
    stands : (a : ℕ) → In seen a → Stands (z.view p) a
    stands a m = view_stands z k p h a (i.says a m)

    total : (a b : ℕ) → In seen a → In seen b → (a ≡ b → ⊥) → ViewOrder z p a b ⊎ ViewOrder z p b a
    total a b ma mb = before_or (z.view p) a b (stands a ma) (stands b mb)

    order : (a b : ℕ) → In seen a → In seen b → OrderFor z p a b → ViewOrder z p a b
    order a b ma mb (inl v) = v
    order a b ma mb (inr q) = go (ℕ_discrete a b)
      where
        back : (a ≡ b → ⊥) → ViewOrder z p a b ⊎ ViewOrder z p b a → ViewOrder z p a b
        back d (inl v) = v
        back d (inr v) = absurd (acyclic (a ∷ b ∷ [], (inr q, inl v)))

        go : Dec (a ≡ b) → ViewOrder z p a b
        go (yes d) = absurd (acyclic (b ∷ [], inr (rw d at q)))
        go (no d) = back d (total a b ma mb d)

    member : (a : ℕ) → Stands (z.view p) a → In seen a
    member a s = certain (dec_in seen a) (λ d. view_seen z k p h a s (λ x. d (i.has a x)))

    pub viewed : Viewed z p t seen
    viewed = record {
      processor = h;
      sees = i;
      line = record {
        low = λ a m. (i.says a m).0;
        rows = g.rows;
        order = λ a b ma mb. (λ r. order a b ma mb ((g.pairs a b).0 r), λ v. (g.pairs a b).1 (inl v));
        within = λ a b v. let s = before_ends (z.view p) a b v in (member a s.0, member b s.1);
        once = view_once z k p h;
        opposite = λ a b v w. view_once z k p h a (before_trans (z.view p) (view_once z k p h) a b a v w);
        total = total;
      };
    }
