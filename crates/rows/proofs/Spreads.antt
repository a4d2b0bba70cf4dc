-- A loop that takes the members of a set out, one by one, and adds the steps of each to a table.
use Prim.Native.Nat.{ℕ}
use mathlib.Core.Path.{◌≡◌, refl}
use mathlib.Core.Logic.{◌⊎◌, inl, inr}
use mathlib.Core.List.{List}
use native.Mathlib.Decide.{ℕ_discrete}
use Rattle.order.specs.Relation.{Rel}
use Rattle.rows.specs.Members.{In, Is, Member}
use Rattle.rows.specs.Table.{Adds}
use Rattle.rows.specs.declared.Set.{Set}
use Rattle.rows.proofs.Members.{dec_in}
use Rattle.rows.proofs.Table.{adds_none, adds_as, adds_then}

-- u is t with the steps of R from the members of all that are not in `from` any more
pub record Spreading (R : Rel) (all from : Set) (t u : List ℕ) : Type 0 where
  pub part : (a : ℕ) → In from a → In all a
  pub adds : Adds t u (λ a b. In all a × (In from a → ⊥) × R a b)

module _ (R : Rel) (all : Set) (t : List ℕ) where
  pub spread_begin : Spreading R all all t t
  spread_begin = record { part = λ a m. m; adds = adds_none t _ (λ a b q. q.1 q.0) }

  pub spread_more : (from : Set) (u v : List ℕ) → Spreading R all from t u → (a : ℕ) → In from a → (s : Set) → Is s (R a)
      → Adds u v (λ x y. (x ≡ a) × In s y) → (less : Set) → Is less (λ j. In from j × (j ≡ a → ⊥)) → Spreading R all less t v
  spread_more from u v p a m s i d less k = record {
    part = λ x l. p.part x (k.says x l).0;
    adds = adds_as t v _ _ there back (adds_then t u v _ _ p.adds d);
  }
    where
      there : (x y : ℕ) → (In all x × (In from x → ⊥) × R x y) ⊎ ((x ≡ a) × In s y) → In all x × (In less x → ⊥) × R x y
      there x y (inl q) = (q.0, (λ l. q.1 (k.says x l).0), q.2)
      there x y (inr (e, h)) = rw e (p.part a m, (λ l. (k.says a l).1 refl), i.says y h)

      back : (x y : ℕ) → In all x × (In less x → ⊥) × R x y → (In all x × (In from x → ⊥) × R x y) ⊎ ((x ≡ a) × In s y)
      back x y q = go (dec_in from x) (ℕ_discrete x a)
        where
          go : Dec (In from x) → Dec (x ≡ a) → (In all x × (In from x → ⊥) × R x y) ⊎ ((x ≡ a) × In s y)
          go (no g) d = inl (q.0, g, q.2)
          go (yes h) (yes e) = inr (e, i.has y (rw e at q.2))
          go (yes h) (no g) = absurd (q.1 (k.has x (h, g)))

  pub spread_done : (from : Set) (u : List ℕ) → Spreading R all from t u → (Member from → ⊥) → Adds t u (λ a b. In all a × R a b)
  spread_done from u p g = adds_as t u _ _ (λ a b q. (q.0, q.2)) (λ a b q. (q.0, (λ l. g (a, l)), q.1)) p.adds
