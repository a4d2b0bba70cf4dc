-- Chains to an event: who has one.
use Prim.Native.Nat.{ℕ, ◌<◌}
use mathlib.Core.Path.{◌≡◌, refl}
use mathlib.Core.List.{List, [], ◌∷◌}
use mathlib.Core.Logic.{◌⊎◌, inl, inr, ⊎_elim}
use Rattle.order.specs.Relation.{Trail, Chain}
use Rattle.rows.specs.Members.{In, Is, Member, Meet}
use Rattle.rows.specs.Table.{rel, on}
use Rattle.rows.specs.declared.Set.{Set}
use Rattle.rows.proofs.Members.{value, dec_in, is_as, subset_less}
use Rattle.cycles.specs.Search.{Into}

-- a row that meets w: a step into w
module _ (t : List ℕ) (w : Set) (a : ℕ) (row : Set) (i : Is row (rel t a)) where
  pub meet_into : Meet row w → Into (rel t) w a
  meet_into (b, x, y) = (b, y, i.says b x)

  pub into_meet : Into (rel t) w a → Meet row w
  into_meet (b, y, x) = (b, i.has b x, y)

-- ---- from all sides

-- what is not in `rest` has a chain to s, and so has what is found; who has a step to s, or to one that is not in `rest`, is found
pub record Reaching (t : List ℕ) (n s : ℕ) (rest found : Set) : Type 0 where
  pub low : (a : ℕ) → In rest a → a < n
  pub part : (a : ℕ) → In found a → In rest a
  pub says : (a : ℕ) → a < n → (In rest a → ⊥) → Chain (on n t) a s
  pub more : (a : ℕ) → In found a → Chain (on n t) a s
  pub closed : (a b : ℕ) → In rest a → on n t a b → (b ≡ s) ⊎ (In rest b → ⊥) → In found a

module _ (t : List ℕ) (n s : ℕ) where
  pub reach_begin : s < n → (rest one found : Set) → Is rest (λ k. k < n) → Is one (λ j. j ≡ s)
      → Is found (λ a. In rest a × Into (rel t) one a) → Reaching t n s rest found
  reach_begin h rest one found i o f = record {
    low = i.says;
    part = λ a m. (f.says a m).0;
    says = λ a l g. absurd (g (i.has a l));
    more = λ a m. let q = f.says a m in let e = o.says q.1.0 q.1.1 in ([], (i.says a q.0, h, rw e at q.1.2));
    closed = λ a b m r d. f.has a (m, ⊎_elim (λ e. (b, o.has b e, r.2)) (λ g. absurd (g (i.has b r.1))) d);
  }

  module _ (rest found : Set) (p : Reaching t n s rest found) (less : Set) (i : Is less (λ a. In rest a × (In found a → ⊥))) where
    reach_low : (a : ℕ) → In less a → a < n
    reach_low a m = p.low a (i.says a m).0

    pub reach_less : Member found → value less < value rest
    reach_less (a, m) = subset_less rest less (λ k q. (i.says k q).0) a (p.part a m) (λ q. (i.says a q).1 m)

    -- not in less: not in rest, or found
    gone : (a : ℕ) → (In less a → ⊥) → (In rest a → ⊥) ⊎ In found a
    gone a g = go (dec_in rest a) (dec_in found a)
      where
        go : Dec (In rest a) → Dec (In found a) → (In rest a → ⊥) ⊎ In found a
        go (no x) d = inl x
        go (yes x) (yes y) = inr y
        go (yes x) (no y) = absurd (g (i.has a (x, y)))

    pub reach_more : (new : Set) → Is new (λ a. In less a × Into (rel t) found a) → Reaching t n s less new
    reach_more new f = record {
      low = reach_low;
      part = λ a m. (f.says a m).0;
      says = λ a l g. ⊎_elim (λ x. p.says a l x) (λ x. p.more a x) (gone a g);
      more = λ a m. let q = f.says a m in step a q.1.0 (reach_low a q.0) q.1.2 q.1.1;
      closed = λ a b m r d. let q = i.says a m in ⊎_elim
          (λ e. absurd (q.1 (p.closed a b q.0 r (inl e))))
          (λ g. ⊎_elim (λ x. absurd (q.1 (p.closed a b q.0 r (inr x)))) (λ x. f.has a (m, (b, x, r.2))) (gone b g))
          d;
    }
      where
        step : (a b : ℕ) → a < n → rel t a b → In found b → Chain (on n t) a s
        step a b l r m = let (k, c) = p.more b m in (b ∷ k, ((l, p.low b (p.part b m), r), c))

  pub reach_done : (rest found : Set) → Reaching t n s rest found → (Member found → ⊥) → (all r : Set) → Is all (λ k. k < n)
      → Is r (λ a. In all a × (In rest a → ⊥)) → Is r (λ a. Chain (on n t) a s)
  reach_done rest found p g all r i j = is_as r _ _
      (λ a q. p.says a (i.says a q.0) q.1)
      (λ a q. (i.has a (first a q.0 q.1), out a q.0 q.1))
      j
    where
      first : (a : ℕ) (l : List ℕ) → Trail (on n t) a l s → a < n
      first a [] r = r.0
      first a (c ∷ l) (r, u) = r.0

      out : (a : ℕ) (l : List ℕ) → Trail (on n t) a l s → In rest a → ⊥
      out a [] r m = g (a, p.closed a s m r (inl refl))
      out a (c ∷ l) (r, u) m = let q = out c l u in g (a, p.closed a c m r (inr q))
