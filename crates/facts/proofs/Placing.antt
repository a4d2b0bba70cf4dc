-- The events at one place.
use Prim.Native.Nat.{ℕ, ◌<◌, ◌≤◌}
use mathlib.Core.Path.{◌≡◌, refl, sym, ap, ◌∙◌}
use mathlib.Core.Logic.{◌⊎◌, inl, inr, ⊎_elim}
use mathlib.Core.List.{List}
use native.Mathlib.Omega.{arith}
use native.Mathlib.Decide.{dec_lt}
use Rattle.order.specs.Relation.{Rel}
use Rattle.order.proofs.Numbers.{last_or}
use Rattle.rows.specs.Members.{In, Is, Member}
use Rattle.rows.specs.Table.{HasRows, rel, Adds}
use Rattle.rows.specs.declared.Set.{Set}
use Rattle.rows.proofs.Members.{value, dec_in, is_as, subset_less}
use Rattle.rows.proofs.Table.{adds_as}
use Rattle.record.specs.Execution.{Execution}
use Rattle.record.specs.Words.{Memory, Register, SamePlace}
use Rattle.record.specs.declared.Event.{Event}
use Rattle.facts.specs.Facts.{Blank, Sorted, Peers, Placed}
use Rattle.facts.proofs.Counting.{adds_two, blank_adds}

-- ---- events at one place

pub place_refl : (x : Event) → SamePlace x x
place_refl x = go (dec_lt x.kind 2)
  where
    go : Dec (x.kind < 2) → SamePlace x x
    go (yes l) = inl (l, (l, refl))
    go (no g) = inr (omega arith, (omega arith, (refl, refl)))

pub place_sym : (x y : Event) → SamePlace x y → SamePlace y x
place_sym x y (inl (a, (b, e))) = inl (b, (a, sym e))
place_sym x y (inr (a, (b, (p, e)))) = inr (b, (a, (sym p, sym e)))

pub place_trans : (x y z : Event) → SamePlace x y → SamePlace y z → SamePlace x z
place_trans x y z (inl (a, (b, e))) (inl (c, (d, f))) = inl (a, (d, e ∙ f))
place_trans x y z (inr (a, (b, (p, e)))) (inr (c, (d, (q, f)))) = inr (a, (d, (p ∙ q, e ∙ f)))
place_trans x y z (inl (a, (b, e))) (inr (c, d)) = absurd (omega arith)
place_trans x y z (inr (a, (b, e))) (inl (c, d)) = absurd (omega arith)

-- ---- the members that may be at the place of event e

module _ (x : Execution) (f : List ℕ) (sorted : Sorted x f) (left : Set) (e : ℕ) (y : Event) (q : y ≡ x.events.item e) where
  same_kind : y.kind ≡ (x.events.item e).kind
  same_kind = ap (λ (z : Event). z.kind) q

  same_owner : y.processor ≡ (x.events.item e).processor
  same_owner = ap (λ (z : Event). z.processor) q

  pub peers_memory : y.kind < 2 → (a b u r : Set) → Is a (rel f 4) → Is b (rel f 5) → Is u (λ k. In a k ⊎ In b k)
      → Is r (λ k. In left k × In u k) → Is r (λ k. In left k × Peers x e k)
  peers_memory h a b u r ia ib iu ir = is_as r _ _ (λ k m. (m.0, there k (iu.says k m.1))) (λ k m. (m.0, iu.has k (back k m.1))) ir
    where
      own : Memory (x.events.item e)
      own = let z = same_kind in omega arith

      there : (k : ℕ) → In a k ⊎ In b k → Peers x e k
      there k (inl m) = let z = (sorted.kind 0 k (omega arith)).0 (ia.says k m) in let w = z.1 in (z.0, inl (own, omega arith))
      there k (inr m) = let z = (sorted.kind 1 k (omega arith)).0 (ib.says k m) in let w = z.1 in (z.0, inl (own, omega arith))

      back : (k : ℕ) → Peers x e k → In a k ⊎ In b k
      back k (l, inl (m, n)) =
          ⊎_elim
          (λ z. inr (ib.has k ((sorted.kind 1 k (omega arith)).1 (l, z))))
          (λ z. inl (ia.has k ((sorted.kind 0 k (omega arith)).1 (l, omega arith))))
          (last_or 1 (x.events.item k).kind n)
      back k (l, inr (m, n)) = let o = own in absurd (omega arith)

  pub peers_register : 2 ≤ y.kind → y.processor < 4 → ((k : ℕ) → k < x.events.size → (x.events.item k).kind < 4)
      → (o a b u t r : Set) → Is o (rel f y.processor) → Is a (rel f 6) → Is b (rel f 7) → Is u (λ k. In a k ⊎ In b k)
      → Is t (λ k. In left k × In o k) → Is r (λ k. In t k × In u k) → Is r (λ k. In left k × Peers x e k)
  peers_register h p low o a b u t r io ia ib iu it ir =
      is_as r _ _
      (λ k m. let w = it.says k m.0 in (w.0, there k ((sorted.own _ k p).0 (io.says k w.1)).1 (iu.says k m.1)))
      (λ k m. let w = back k m.1 in (it.has k (m.0, w.0), w.1))
      ir
    where
      own : Register (x.events.item e)
      own = let z = same_kind in omega arith

      there : (k : ℕ) → (x.events.item k).processor ≡ y.processor → In a k ⊎ In b k → Peers x e k
      there k c (inl m) = let z = (sorted.kind 2 k (omega arith)).0 (ia.says k m) in let w = z.1 in (z.0, inr (own, (omega arith, sym (c ∙ same_owner))))
      there k c (inr m) = let z = (sorted.kind 3 k (omega arith)).0 (ib.says k m) in let w = z.1 in (z.0, inr (own, (omega arith, sym (c ∙ same_owner))))

      back : (k : ℕ) → Peers x e k → In o k × In u k
      back k (l, inl (m, n)) = let z = own in absurd (omega arith)
      back k (l, inr (m, (n, c))) = (
        io.has k ((sorted.own _ k p).1 (l, sym c ∙ sym same_owner)),
        iu.has k
            (⊎_elim
            (λ z. inr (ib.has k ((sorted.kind 3 k (omega arith)).1 (l, z))))
            (λ z. inl (ia.has k ((sorted.kind 2 k (omega arith)).1 (l, omega arith))))
            (last_or 3 (x.events.item k).kind (low k l))),
      )

-- of these the ones with its place
pub alike_is : (x : Execution) (e place : ℕ) → place ≡ (x.events.item e).place → (left from r : Set) → Is from (λ k. In left k × Peers x e k)
    → Is r (λ k. In from k × ((x.events.item k).place ≡ place))
    → Is r (λ k. In left k × ((k < x.events.size) × SamePlace (x.events.item e) (x.events.item k)))
alike_is x e place q left from r i j = is_as r _ _ (λ k m. there k (i.says k m.0) m.1) back j
  where
    there : (k : ℕ) → In left k × Peers x e k → (x.events.item k).place ≡ place
        → In left k × ((k < x.events.size) × SamePlace (x.events.item e) (x.events.item k))
    there k (m, (l, inl (a, b))) p = (m, (l, inl (a, (b, sym (p ∙ q)))))
    there k (m, (l, inr (a, (b, c)))) p = (m, (l, inr (a, (b, (c, sym (p ∙ q))))))

    back : (k : ℕ) → In left k × ((k < x.events.size) × SamePlace (x.events.item e) (x.events.item k))
        → In from k × ((x.events.item k).place ≡ place)
    back k (m, (l, inl (a, (b, p)))) = (i.has k (m, (l, inl (a, b))), sym (q ∙ p))
    back k (m, (l, inr (a, (b, (c, p))))) = (i.has k (m, (l, inr (a, (b, c)))), sym (q ∙ p))

-- ---- the classes of events at one place, taken out of a set one by one

abbrev Alike : Execution → Rel
Alike x a b = (a < x.events.size) × (b < x.events.size) × SamePlace (x.events.item a) (x.events.item b)

-- u is t with the pairs at one place whose events are not in `left` any more
pub record Placing (x : Execution) (t u : List ℕ) (left : Set) : Type 0 where
  pub low : (a : ℕ) → In left a → a < x.events.size
  pub closed : (a b : ℕ) → In left a → Alike x a b → In left b
  pub adds : Adds t u (λ a b. (In left a → ⊥) × Alike x a b)

module _ (x : Execution) (t : List ℕ) where
  module _ (u : List ℕ) (left : Set) (p : Placing x t u left) (e : ℕ) (m : In left e) (like less : Set)
      (i : Is like (λ k. In left k × ((k < x.events.size) × SamePlace (x.events.item e) (x.events.item k))))
      (j : Is less (λ k. In left k × (In like k → ⊥))) where
    -- like has e, and with an event all at its place
    itself : In like e
    itself = i.has e (m, (p.low e m, place_refl (x.events.item e)))

    onward : (a b : ℕ) → In like a → Alike x a b → In like b
    onward a b c s = let w = i.says a c in i.has b (p.closed a b w.0 s, (s.1, place_trans (x.events.item e) (x.events.item a) (x.events.item b) w.1.1 s.2))

    within : (a b : ℕ) → In like a → In like b → Alike x a b
    within a b c d = let w = (i.says a c).1 in let z = (i.says b d).1 in (w.0, z.0, place_trans (x.events.item a) (x.events.item e) (x.events.item b) (place_sym (x.events.item e) (x.events.item a) w.1) z.1)

    turned : (a b : ℕ) → Alike x a b → Alike x b a
    turned a b s = (s.1, s.0, place_sym (x.events.item a) (x.events.item b) s.2)

    pub place_more : (v : List ℕ) → Adds u v (λ a b. In like a × In like b) → Placing x t v less
    place_more v d = record {
      low = λ a c. p.low a (j.says a c).0;
      closed = λ a b c s. let w = j.says a c in j.has b (p.closed a b w.0 s, λ z. w.1 (onward b a z (turned a b s)));
      adds = adds_two t u v _ _ _ there back p.adds d;
    }
      where
        there : (a b : ℕ) → ((In left a → ⊥) × Alike x a b) ⊎ (In like a × In like b) → (In less a → ⊥) × Alike x a b
        there a b (inl (g, s)) = (λ c. g (j.says a c).0, s)
        there a b (inr (c, z)) = (λ w. (j.says a w).1 c, within a b c z)

        back : (a b : ℕ) → (In less a → ⊥) × Alike x a b → ((In left a → ⊥) × Alike x a b) ⊎ (In like a × In like b)
        back a b (g, s) = go (dec_in left a) (dec_in like a)
          where
            go : Dec (In left a) → Dec (In like a) → ((In left a → ⊥) × Alike x a b) ⊎ (In like a × In like b)
            go (no c) z = inl (c, s)
            go (yes c) (yes z) = inr (z, onward a b z s)
            go (yes c) (no z) = absurd (g (j.has a (c, z)))

    pub place_less : value less < value left
    place_less = subset_less left less (λ k c. (j.says k c).0) e m (λ c. (j.says e c).1 itself)

  pub place_done : (u : List ℕ) (left : Set) → Placing x t u left → (Member left → ⊥) → HasRows t 64 → Blank t → Placed x u
  place_done u left p g h f = record {
    rows = let e = p.adds.same in omega arith;
    pairs = blank_adds t u _ f (adds_as t u _ _ (λ a b s. s.1) (λ a b s. (λ c. g (a, c), s)) p.adds);
  }
