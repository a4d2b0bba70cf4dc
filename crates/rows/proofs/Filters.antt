-- A loop that takes the members of a set out, one by one, and keeps those with a property.
use Prim.Native.Nat.{ℕ}
use mathlib.Core.Path.{◌≡◌, refl}
use mathlib.Core.Logic.{◌⊎◌, inl, inr, ⊎_elim}
use native.Mathlib.Decide.{ℕ_discrete}
use Rattle.rows.specs.Members.{In, Is, Member}
use Rattle.rows.specs.declared.Set.{Set}
use Rattle.rows.proofs.Members.{dec_in, is_as}

-- r has the members of all that are not in `from` any more and have P
pub record Filtering (P : ℕ → Type 0) (all from r : Set) : Type 0 where
  pub part : (a : ℕ) → In from a → In all a
  pub is : Is r (λ a. In all a × (In from a → ⊥) × P a)

module _ (P : ℕ → Type 0) (all : Set) where
  pub filter_begin : (r : Set) → Is r (λ k. ⊥) → Filtering P all all r
  filter_begin r i = record { part = λ a m. m; is = record { says = λ a m. absurd (i.says a m); has = λ a q. absurd (q.1 q.0) } }

  module _ (from r : Set) (p : Filtering P all from r) (a : ℕ) (m : In from a) (less : Set) (k : Is less (λ j. In from j × (j ≡ a → ⊥))) where
    kept : (x : ℕ) → In all x × (In from x → ⊥) × P x → In all x × (In less x → ⊥) × P x
    kept x q = (q.0, (λ l. q.1 (k.says x l).0), q.2)

    -- out of what is left: it was before, or it is a
    out : (x : ℕ) → In all x × (In less x → ⊥) × P x → In r x ⊎ (x ≡ a)
    out x q = go (dec_in from x) (ℕ_discrete x a)
      where
        go : Dec (In from x) → Dec (x ≡ a) → In r x ⊎ (x ≡ a)
        go (no g) d = inl (p.is.has x (q.0, g, q.2))
        go (yes h) (yes e) = inr e
        go (yes h) (no g) = absurd (q.1 (k.has x (h, g)))

    part : (x : ℕ) → In less x → In all x
    part x l = p.part x (k.says x l).0

    pub filter_more : P a → (one both : Set) → Is one (λ j. j ≡ a) → Is both (λ x. In r x ⊎ In one x) → Filtering P all less both
    filter_more h one both o u = record {
      part = part;
      is = record {
        says = λ c z. ⊎_elim (λ q. kept c (p.is.says c q)) (λ q. let e = o.says c q in rw e (p.part a m, (λ l. (k.says a l).1 refl), h)) (u.says c z);
        has = λ c q. u.has c (⊎_elim (λ z. inl z) (λ e. inr (o.has c e)) (out c q));
      };
    }

    pub filter_skip : (P a → ⊥) → Filtering P all less r
    filter_skip g = record {
      part = part;
      is = record {
        says = λ c z. kept c (p.is.says c z);
        has = λ c q. ⊎_elim (λ z. z) (λ (e : c ≡ a). let h : P a = rw e at q.2 in absurd (g h)) (out c q);
      };
    }

  pub filter_done : (from r : Set) → Filtering P all from r → (Member from → ⊥) → Is r (λ a. In all a × P a)
  filter_done from r p g = is_as r _ _ (λ a q. (q.0, q.2)) (λ a q. (q.0, (λ l. g (a, l)), q.1)) p.is
