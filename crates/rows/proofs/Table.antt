-- Tables: steps added row by row.
use Prim.Native.Nat.{ℕ, zero, suc, ◌+◌, ◌^◌, ◌<◌}
use mathlib.Core.Path.{◌≡◌, refl, sym, ap, ◌∙◌}
use mathlib.Core.List.{List}
use mathlib.Core.Logic.{◌⊎◌, ◌↔◌, inl, inr, ⊎_elim}
use native.Mathlib.Omega.{arith}
use native.Mathlib.Decide.{ℕ_discrete}
use lib.ListN.{get_or, set, length, length-set, replicate}
use lib.Seq.{get_or-set_same, get_or-set_other}
use lib.Bits.{bit_or, or_zero_r}
use Rattle.order.specs.Relation.{Rel}
use Rattle.order.proofs.Numbers.{last_or}
use Rattle.rows.specs.Members.{In, Is}
use Rattle.rows.specs.Table.{row_of, rel, Adds}
use Rattle.rows.specs.declared.Set.{Set}
use Rattle.rows.proofs.Members.{word, is_none, is_union, dec_in, none_zero}

pub is_row : (t : List ℕ) (a : ℕ) → Is (row_of t a) (rel t a)
unfolding rel
is_row t a = record { says = λ b i. i; has = λ b i. i }

pub dec_rel : (t : List ℕ) (a b : ℕ) → Dec (rel t a b)
unfolding rel
dec_rel t a b = dec_in (row_of t a) b

-- nothing is added
pub adds_none : (t : List ℕ) (R : Rel) → ((a b : ℕ) → R a b → ⊥) → Adds t t R
adds_none t R f = record { same = refl; pairs = λ a b. (λ r. inl r, λ r. ⊎_elim (λ p. p) (λ p. absurd (f a b p)) r); rest = λ a g. refl }

-- the same steps under another name
pub adds_as : (t u : List ℕ) (R Q : Rel) → ((a b : ℕ) → R a b → Q a b) → ((a b : ℕ) → Q a b → R a b) → Adds t u R → Adds t u Q
adds_as t u R Q f g d = record {
  same = d.same;
  pairs = λ a b. (
    λ r. ⊎_elim (λ p. inl p) (λ p. inr (f a b p)) ((d.pairs a b).0 r),
    λ r. (d.pairs a b).1 (⊎_elim (λ p. inl p) (λ p. inr (g a b p)) r),
  );
  rest = λ a h. d.rest a (λ b r. h b (f a b r));
}

-- steps added after others
pub adds_then : (t u v : List ℕ) (R Q : Rel) → Adds t u R → Adds u v Q → Adds t v (λ a b. R a b ⊎ Q a b)
adds_then t u v R Q d e = record {
  same = e.same ∙ d.same;
  pairs = λ a b. (
    λ r. ⊎_elim (λ p. ⊎_elim (λ q. inl q) (λ q. inr (inl q)) ((d.pairs a b).0 p)) (λ q. inr (inr q)) ((e.pairs a b).0 r),
    λ r. (e.pairs a b).1 (⊎_elim (λ p. inl ((d.pairs a b).1 (inl p))) (λ p. ⊎_elim (λ q. inl ((d.pairs a b).1 (inr q))) (λ q. inr q) p) r),
  );
  rest = λ a h. e.rest a (λ b q. h b (inr q)) ∙ d.rest a (λ b q. h b (inl q));
}

-- a set joined to a row
module _ (t : List ℕ) (a : ℕ) (s : Set) (h : a < length t) (fits : s.word < 2 ^ 64) where
  w : ℕ
  w = bit_or (get_or t a 0) s.word

  there : (x : ℕ) → x ≡ a → row_of (set t a w) x ≡ record { word = w }
  there x e = ap word (rw e (get_or-set_same t a w 0 h))

  elsewhere : (x : ℕ) → (x ≡ a → ⊥) → row_of (set t a w) x ≡ row_of t x
  elsewhere x g = ap word (get_or-set_other t a x w 0 g)

  pairs : (x y : ℕ) → Dec (x ≡ a) → rel (set t a w) x y ↔ (rel t x y ⊎ ((x ≡ a) × In s y))
  unfolding w rel
  pairs x y (yes e) =
      let i = is_union (get_or t a 0) s.word in (
        λ r. ⊎_elim (λ p. inl (rw e p)) (λ p. inr (e, p)) (i.says y (rw (there x e) at r)),
        λ r. rw (there x e) (i.has y (⊎_elim (λ p. inl (rw e at p)) (λ p. inr p.1) r)),
      )
  pairs x y (no g) = (λ r. inl (rw (elsewhere x g) at r), λ r. ⊎_elim (λ p. rw (elsewhere x g) p) (λ p. absurd (g p.0)) r)

  rest : (x : ℕ) → ((y : ℕ) → (x ≡ a) × In s y → ⊥) → Dec (x ≡ a) → row_of (set t a w) x ≡ row_of t x
  unfolding w
  rest x f (yes e) =
      let z : s.word ≡ 0 = none_zero s fits (λ k i. f k (e, i)) in
      there x e ∙ ap word (ap (bit_or (get_or t a 0)) z ∙ or_zero_r (get_or t a 0) ∙ ap (λ (k : ℕ). get_or t k 0) (sym e))
  rest x f (no g) = elsewhere x g

  pub adds_row : Adds t (set t a (bit_or (get_or t a 0) s.word)) (λ x y. (x ≡ a) × In s y)
  unfolding w
  adds_row = record { same = length-set t a w; pairs = λ x y. pairs x y (ℕ_discrete x a); rest = λ x f. rest x f (ℕ_discrete x a) }

-- the rows of s below n are joined, one after the other
module _ (t s : List ℕ) where
  pub joined_none : Adds t t (λ x y. (x < 0) × rel s x y)
  joined_none = adds_none t _ (λ x y r. let l = r.0 in omega arith)

  pub joined_more : (n : ℕ) (u v : List ℕ) (r : Set) → Is r (rel s n) → Adds t u (λ x y. (x < n) × rel s x y)
      → Adds u v (λ x y. (x ≡ n) × In r y) → Adds t v (λ x y. (x < n + 1) × rel s x y)
  joined_more n u v r i d e =
      adds_as t v _ _
      (λ x y q. ⊎_elim (λ p. (omega arith, p.1)) (λ p. (omega arith, rw p.0 (i.says y p.1))) q)
      (λ x y q. ⊎_elim (λ (f : x ≡ n). inr (f, i.has y (rw f at q.1))) (λ l. inl (l, q.1)) (last_or n x (omega arith)))
      (adds_then t u v _ _ d e)

-- a table of empty rows has no step
zeros_row : (n a : ℕ) → ◌≡◌ {A = ℕ} (get_or (replicate n 0) a 0) 0
zeros_row zero a = refl
zeros_row (suc n) zero = refl
zeros_row (suc n) (suc a) = zeros_row n a

pub zeros_rel : (n a b : ℕ) → rel (replicate n 0) a b → ⊥
unfolding rel
zeros_rel n a b r = let e : row_of (replicate n 0) a ≡ word 0 = ap word (zeros_row n a) in is_none.says b (rw e at r)
