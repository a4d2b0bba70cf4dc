-- A loop that takes the members of a set out, one by one, and keeps those that pass a test.
use Prim.Native.Nat.{ℕ}
use mathlib.Core.Bool.{Bool, true, false}
use mathlib.Core.Path.{◌≡◌}
use mathlib.Core.Logic.{◌⊎◌, inl, inr, ⊎_elim}
use native.Mathlib.Decide.{ℕ_discrete}
use Rattle.rows.specs.Members.{In, Is}
use Rattle.rows.specs.declared.Set.{Set}
use Rattle.rows.proofs.Members.{dec_in}
use Rattle.facts.specs.Sets.{Kept}

-- r has the members of all that are not in rest any more and pass the test
pub record Keeping (Says : ℕ → Bool → Type 0) (all rest r : Set) : Type 0 where
  pub part : (e : ℕ) → In rest e → In all e
  pub kept : (e : ℕ) → In r e → In all e × Says e true
  pub left : (e : ℕ) → In all e → (In rest e → ⊥) → (In r e → ⊥) → Says e false

module _ (Says : ℕ → Bool → Type 0) (all : Set) where
  module _ (rest r : Set) (p : Keeping Says all rest r) (a : ℕ) (m : In rest a) (less : Set) (k : Is less (λ j. In rest j × (j ≡ a → ⊥))) where
    part : (e : ℕ) → In less e → In all e
    part e l = p.part e (k.says e l).0

    -- out of what is left: it was before, or it is a
    out : (e : ℕ) → (In less e → ⊥) → (In rest e → ⊥) ⊎ (e ≡ a)
    out e g = go (ℕ_discrete e a)
      where
        go : Dec (e ≡ a) → (In rest e → ⊥) ⊎ (e ≡ a)
        go (yes q) = inr q
        go (no q) = inl (λ h. g (k.has e (h, q)))

    pub keep_skip : Says a false → Keeping Says all less r
    keep_skip s = record {
      part = part;
      kept = p.kept;
      left = λ e n g h. ⊎_elim (λ w. p.left e n w h) (λ (w : e ≡ a). rw w s) (out e g);
    }

-- what is kept, by a property that the test decides
pub kept_is : (Says : ℕ → Bool → Type 0) (all r : Set) (P : ℕ → Type 0) → Kept Says all r → ((e : ℕ) → In all e → Says e true → P e)
    → ((e : ℕ) → In all e → Says e false → P e → ⊥) → Is r (λ e. In all e × P e)
kept_is Says all r P k f g = record { says = λ e m. let (i, s) = k.kept e m in (i, f e i s); has = λ e (i, p). go e i p (dec_in r e) }
  where
    go : (e : ℕ) → In all e → P e → Dec (In r e) → In r e
    go e i p (yes m) = m
    go e i p (no h) = absurd (g e i (k.left e i h) p)
