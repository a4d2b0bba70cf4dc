-- A loop over the numbers below a bound that adds the steps of each to a table.
use Prim.Native.Nat.{ℕ, ◌+◌}
use mathlib.Core.Path.{◌≡◌, sym, ◌∙◌}
use mathlib.Core.Logic.{◌⊎◌, ◌↔◌, inl, inr, ⊎_elim}
use mathlib.Core.List.{List}
use native.Mathlib.Omega.{arith}
use Rattle.order.specs.Least.{Some}
use Rattle.order.specs.Relation.{Rel}
use Rattle.order.proofs.Numbers.{last_or}
use Rattle.rows.specs.Members.{Is}
use Rattle.rows.specs.Table.{rel, Adds}
use Rattle.rows.specs.declared.Set.{Set}
use Rattle.rows.proofs.Table.{adds_none, adds_as, adds_then}
use Rattle.record.specs.Execution.{Items, Pair}
use Rattle.facts.specs.Facts.{Blank}

-- the steps of the numbers below i
unfoldable pub Upto : (ℕ → Rel) → ℕ → Rel
Upto R i a b = Some i (λ j. R j a b)

module _ (R : ℕ → Rel) (t : List ℕ) where
  pub upto_none : Adds t t (Upto R 0)
  unfolding Upto
  upto_none = adds_none t _ (λ a b q. let l = q.1 in omega arith)

  pub upto_more : (i : ℕ) (u v : List ℕ) → Adds t u (Upto R i) → Adds u v (R i) → Adds t v (Upto R (i + 1))
  unfolding Upto
  upto_more i u v d e = adds_as t v _ _ there back (adds_then t u v _ _ d e)
    where
      there : (a b : ℕ) → Some i (λ j. R j a b) ⊎ R i a b → Some (i + 1) (λ j. R j a b)
      there a b (inl (j, l, q)) = (j, omega arith, q)
      there a b (inr q) = (i, omega arith, q)

      back : (a b : ℕ) → Some (i + 1) (λ j. R j a b) → Some i (λ j. R j a b) ⊎ R i a b
      back a b (j, l, q) = ⊎_elim (λ (e : j ≡ i). inr (rw e at q)) (λ h. inl (j, h, q)) (last_or i j (omega arith))

-- the step of pair i of a list, and the pairs one after the other
abbrev pub PairStep : Items Pair → ℕ → Rel
PairStep l i a b = ((l.item i).from ≡ a) × ((l.item i).to ≡ b)

pub pairs_more : (l : Items Pair) (t : List ℕ) (i : ℕ) (u v : List ℕ) → Adds t u (Upto (PairStep l) i) → (x y : ℕ) → x ≡ (l.item i).from
    → y ≡ (l.item i).to → Adds u v (λ a b. (a ≡ x) × (b ≡ y)) → Adds t v (Upto (PairStep l) (i + 1))
pairs_more l t i u v d x y ex ey e =
    upto_more (PairStep l) t i u v d
    (adds_as u v _ _ (λ a b q. (sym ex ∙ sym q.0, sym ey ∙ sym q.1)) (λ a b q. (sym q.0 ∙ sym ex, sym q.1 ∙ sym ey)) e)

-- all that a blank table got
pub blank_adds : (t u : List ℕ) (R : Rel) → Blank t → Adds t u R → (a b : ℕ) → rel u a b ↔ R a b
blank_adds t u R f d a b = (λ r. ⊎_elim (λ p. absurd (f a b p)) (λ p. p) ((d.pairs a b).0 r), λ r. (d.pairs a b).1 (inr r))

pub blank_upto : (R : ℕ → Rel) (t u : List ℕ) (i : ℕ) → Blank t → Adds t u (Upto R i) → (a b : ℕ) → rel u a b ↔ Some i (λ j. R j a b)
unfolding Upto
blank_upto R t u i f d = blank_adds t u _ f d

-- two additions as one
pub adds_two : (t u v : List ℕ) (R P Q : Rel) → ((a b : ℕ) → P a b ⊎ Q a b → R a b) → ((a b : ℕ) → R a b → P a b ⊎ Q a b)
    → Adds t u P → Adds u v Q → Adds t v R
adds_two t u v R P Q f g d e = adds_as t v _ _ f g (adds_then t u v _ _ d e)

-- a set under another name for its property
pub is_by : (s : Set) (P Q : ℕ → Type 0) → ((k : ℕ) → P k ↔ Q k) → Is s P → Is s Q
is_by s P Q f i = record { says = λ k m. (f k).0 (i.says k m); has = λ k q. i.has k ((f k).1 q) }
