-- Witnesses that are the same are valid together.
use Prim.Native.Nat.{ℕ}
use mathlib.Core.Logic.{◌↔◌, ⊎_map}
use Rattle.order.specs.Relation.{Rel}
use Rattle.order.proofs.Rules.{cyclic_as}
use Rattle.model.specs.Hol.{Set, EventStructure, ExecutionWitness, acyclic, linear_order, strict_linear_order, happens_before, view_orders_well_formed, write_serialization_candidates, lock_serialization_candidates, valid_execution}
use Rattle.model.proofs.Cycles.{acyclic_not, not_acyclic}
use Rattle.sequences.specs.Sequential.{SameWitness}

pub same_sym : (X Y : ExecutionWitness) → SameWitness X Y → SameWitness Y X
same_sym X Y g = record {
  initial_state = λ l v. ((g.initial_state l v).1, (g.initial_state l v).0);
  vo = λ p a b. ((g.vo p a b).1, (g.vo p a b).0);
  write_serialization = λ a b. ((g.write_serialization a b).1, (g.write_serialization a b).0);
  lock_serialization = λ a b. ((g.lock_serialization a b).1, (g.lock_serialization a b).0);
  rfmap = λ a b. ((g.rfmap a b).1, (g.rfmap a b).0);
}

-- ---- a relation under two names

module _ (r q : Rel) (g : (a b : ℕ) → r a b ↔ q a b) where
  linear_as : (s : Set) → linear_order r s → linear_order q s
  linear_as s o = record {
    domain = λ a b u. o.domain a b ((g a b).1 u);
    range = λ a b u. o.range a b ((g a b).1 u);
    transitive = λ a b c u v. (g a c).0 (o.transitive a b c ((g a b).1 u) ((g b c).1 v));
    antisymmetric = λ a b u v. o.antisymmetric a b ((g a b).1 u) ((g b a).1 v);
    total = λ a b x y. ⊎_map (g a b).0 (g b a).0 (o.total a b x y);
  }

  strict_as : (s : Set) → strict_linear_order r s → strict_linear_order q s
  strict_as s o = record {
    domain = λ a b u. o.domain a b ((g a b).1 u);
    range = λ a b u. o.range a b ((g a b).1 u);
    transitive = λ a b c u v. (g a c).0 (o.transitive a b c ((g a b).1 u) ((g b c).1 v));
    irreflexive = λ a u. o.irreflexive a ((g a a).1 u);
    total = λ a b x y n. ⊎_map (g a b).0 (g b a).0 (o.total a b x y n);
  }

acyclic_as : (r q : Rel) → ((a b : ℕ) → q a b → r a b) → acyclic r → acyclic q
acyclic_as r q g k = not_acyclic q (λ c. acyclic_not r k (cyclic_as q r g c))

-- ---- the axioms

module _ (E : EventStructure) (X Y : ExecutionWitness) (g : SameWitness X Y) where
  views_same : view_orders_well_formed E X.vo → view_orders_well_formed E Y.vo
  views_same v = record {
    linear = λ p h. linear_as _ _ (g.vo p) _ (v.linear p h);
    founded = λ p h e s. let (n, low) = v.founded p h e s in (n, λ a u. low a ((g.vo p a e).1 u));
    others = λ p n a b u. v.others p n a b ((g.vo p a b).1 u);
  }

  stores_same : write_serialization_candidates E X.write_serialization → write_serialization_candidates E Y.write_serialization
  stores_same c = record {
    stores = λ a b u. c.stores a b ((g.write_serialization a b).1 u);
    linear = λ l. strict_as _ _ (λ a b. (
      λ (u, x, y). ((g.write_serialization a b).0 u, x, y),
      λ (u, x, y). ((g.write_serialization a b).1 u, x, y),
    )) _ (c.linear l);
  }

  locks_same : lock_serialization_candidates E X.lock_serialization → lock_serialization_candidates E Y.lock_serialization
  locks_same c = record {
    lin = c.lin;
    linear = c.linear;
    is = λ a b. (λ u. (c.is a b).0 ((g.lock_serialization a b).1 u), λ u. (g.lock_serialization a b).0 ((c.is a b).1 u));
  }

  happens_back : (a b : ℕ) → happens_before E Y a b → happens_before E X a b
  happens_back a b q =
      ⊎_map
      (λ u. u)
      (⊎_map (λ u. u) (⊎_map (g.write_serialization a b).1 (⊎_map (g.lock_serialization a b).1 (g.rfmap a b).1)))
      q

  pub valid_same : valid_execution E X → valid_execution E Y
  valid_same v = record {
    views = views_same v.views;
    stores = stores_same v.stores;
    locks = locks_same v.locks;
    sources = λ ew er u. v.sources ew er ((g.rfmap ew er).1 u);
    causality = λ p h. acyclic_as _ _ (λ a b q. ⊎_map (λ (u, n). ((g.vo p a b).1 u, n)) (happens_back a b) q) (v.causality p h);
    written = λ p h ew er (u, x, y) ew' w (n, a, b). v.written p h ew er ((g.rfmap ew er).1 u, x, y) ew' w (n, (g.vo p ew ew').1 a, (g.vo p ew' er).1 b);
    initial = λ p h er r none s.
        let (l, c, d, i, f) = v.initial p h er r (λ ew u. none ew ((g.rfmap ew er).0 u)) s in
        (l, c, d, (g.initial_state l c).0 i, λ ew w u. f ew w ((g.vo p ew er).1 u));
    atomicity = λ p h i k a b x y u e m n. v.atomicity p h i k a b x y ((g.vo p a b).1 u) e ((g.vo p a e).1 m) ((g.vo p e b).1 n);
  }
