-- A loop that goes through a set, least member first, until one has a property.
use Prim.Native.Nat.{ℕ, ◌<◌}
use mathlib.Core.Path.{◌≡◌}
use Rattle.order.specs.Least.{None, Least}
use Rattle.rows.specs.Members.{In, Is, Member}
use Rattle.rows.specs.declared.Set.{Set}
use Rattle.rows.proofs.Members.{in_low}

-- `rest` is what is left of `all`, and every number with P is left
pub record Seeking (P : ℕ → Type 0) (all rest : Set) : Type 0 where
  pub part : (k : ℕ) → In rest k → In all k
  pub each : (k : ℕ) → P k → In rest k

module _ (P : ℕ → Type 0) (all : Set) where
  pub seek_begin : ((k : ℕ) → P k → In all k) → Seeking P all all
  seek_begin f = record { part = λ k m. m; each = f }

  module _ (rest : Set) (s : Seeking P all rest) where
    pub seek_next : (a : ℕ) → (P a → ⊥) → (less : Set) → Is less (λ j. In rest j × (j ≡ a → ⊥)) → Seeking P all less
    seek_next a g less i = record {
      part = λ k m. s.part k (i.says k m).0;
      each = λ k p. i.has k (s.each k p, λ e. g (rw e at p));
    }

    pub seek_found : (a : ℕ) → Least (In rest) a → P a → (a < 64) × Least P a
    seek_found a h p = (in_low _ _ h.0, (p, (λ k l q. h.1 k l (s.each k q))))

    pub seek_none : (n : ℕ) → (Member rest → ⊥) → None n P
    seek_none n g k l q = g (k, s.each k q)
