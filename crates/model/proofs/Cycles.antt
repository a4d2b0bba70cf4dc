-- That HOL's word acyclic is that there is no cycle.
use mathlib.Core.List.{[], ◌∷◌}
use Rattle.order.specs.Relation.{Rel, Cyclic}
use Rattle.model.specs.Hol.{acyclic}

module _ (R : Rel) where
  pub acyclic_not : acyclic R → Cyclic R → ⊥
  acyclic_not f ([], c) = c
  acyclic_not f (a ∷ l, t) = f a (l, t)

  pub not_acyclic : (Cyclic R → ⊥) → acyclic R
  not_acyclic f a (l, t) = f (a ∷ l, t)
