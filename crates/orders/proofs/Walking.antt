-- A list walked from its end: what an item stands for gets steps to what stands at the places walked before.
use Prim.Native.Nat.{ℕ, ◌+◌, ◌<◌, ◌≤◌}
use mathlib.Core.Path.{◌≡◌, refl, sym, ap, ◌∙◌, subst}
use mathlib.Core.Logic.{◌⊎◌, ◌↔◌, inl, inr}
use mathlib.Core.List.{List}
use native.Mathlib.Omega.{arith}
use native.Mathlib.Decide.{ℕ_discrete, dec_le}
use Rattle.order.specs.Least.{Some}
use Rattle.order.specs.Relation.{Rel}
use Rattle.rows.specs.Members.{In, Is}
use Rattle.rows.specs.Table.{rel, Adds}
use Rattle.rows.specs.declared.Set.{Set}
use Rattle.rows.proofs.Members.{in_low, is_as}
use Rattle.rows.proofs.Table.{adds_none, adds_as, adds_then}
use Rattle.record.specs.Execution.{Items}
use Rattle.model.specs.Model.{Before}
use Rattle.orders.specs.Groups.{BeforeIn}
use Rattle.orders.specs.Walks.{Itself, Walked}

-- the places from i on are walked: `later` has what stands there, and u is t with the steps from each to what stands after it
pub record Walking (Of To : ℕ → Set → Type 0) (l : Items ℕ) (i : ℕ) (later : Set) (t u : List ℕ) : Type 0 where
  pub here : ℕ → Set
  pub into : ℕ → Set
  pub upto : i ≤ l.size
  pub said : (j : ℕ) → i ≤ j → j < l.size → Of (l.item j) (here j) × To (l.item j) (into j)
  pub is : Is later (λ b. Some l.size (λ j. (i ≤ j) × In (here j) b))
  pub adds : Adds t u (λ a b. Some l.size (λ j. Some j (λ k. (i ≤ k) × (In (here k) a × (In (here j) b × In (into k) b)))))

-- f but at k, where it is s
pick : (j k : ℕ) → Dec (j ≡ k) → Set → Set → Set
pick j k (yes e) s o = s
pick j k (no g) s o = o

at : ℕ → Set → (ℕ → Set) → ℕ → Set
at k s f j = pick j k (ℕ_discrete j k) s (f j)

at_same : (k : ℕ) (s : Set) (f : ℕ → Set) (j : ℕ) → j ≡ k → at k s f j ≡ s
unfolding at pick
at_same k s f j q = go (ℕ_discrete j k)
  where
    go : (d : Dec (j ≡ k)) → pick j k d s (f j) ≡ s
    go (yes e) = refl
    go (no g) = absurd (g q)

at_other : (k : ℕ) (s : Set) (f : ℕ → Set) (j : ℕ) → (j ≡ k → ⊥) → at k s f j ≡ f j
unfolding at pick
at_other k s f j g = go (ℕ_discrete j k)
  where
    go : (d : Dec (j ≡ k)) → pick j k d s (f j) ≡ f j
    go (yes e) = absurd (g e)
    go (no h) = refl

-- a property of the set at k, or elsewhere
module _ (P : Set → Type 0) (k : ℕ) (s : Set) (f : ℕ → Set) (j : ℕ) where
  at_new : j ≡ k → P s ↔ P (at k s f j)
  at_new q = let w = at_same k s f j q in (subst P (sym w), subst P w)

  at_old : (j ≡ k → ⊥) → P (f j) ↔ P (at k s f j)
  at_old g = let w = at_other k s f j g in (subst P (sym w), subst P w)

first_or : (i k j : ℕ) → k + 1 ≡ i → k ≤ j → (j ≡ k) ⊎ (i ≤ j)
first_or i k j e h = go (dec_le i j)
  where
    go : Dec (i ≤ j) → (j ≡ k) ⊎ (i ≤ j)
    go (yes l) = inr l
    go (no g) = inl (omega arith)

module _ (Of To : ℕ → Set → Type 0) (l : Items ℕ) (t : List ℕ) where
  pub walk_begin : (later : Set) → Is later (λ k. ⊥) → Walking Of To l l.size later t t
  walk_begin later i = record {
    here = λ j. later;
    into = λ j. later;
    upto = omega arith;
    said = λ j h k. absurd (omega arith);
    is = record { says = λ b m. absurd (i.says b m); has = λ b (j, h, (g, m)). absurd (i.says b m) };
    adds = adds_none t _ (λ a b (j, h, (k, g, (f, (m, n)))). i.says a m);
  }

  -- one place more, whose item is n
  module _ (i : ℕ) (later : Set) (u : List ℕ) (p : Walking Of To l i later t u) (k : ℕ) (e : k + 1 ≡ i) (n : ℕ) (en : n ≡ l.item k) (x y : Set)
      (ox : Of n x) (oy : To n y) where
    abbrev here : ℕ → Set
    here = at k x p.here

    abbrev into : ℕ → Set
    into = at k y p.into

    here_new : (P : Set → Type 0) (j : ℕ) → j ≡ k → P x ↔ P (here j)
    here_new P j q = at_new P k x p.here j q

    here_old : (P : Set → Type 0) (j : ℕ) → i ≤ j → P (p.here j) ↔ P (here j)
    here_old P j h = at_old P k x p.here j (λ q. omega arith)

    into_new : (P : Set → Type 0) (j : ℕ) → j ≡ k → P y ↔ P (into j)
    into_new P j q = at_new P k y p.into j q

    into_old : (P : Set → Type 0) (j : ℕ) → i ≤ j → P (p.into j) ↔ P (into j)
    into_old P j h = at_old P k y p.into j (λ q. omega arith)

    said : (j : ℕ) → k ≤ j → j < l.size → Of (l.item j) (here j) × To (l.item j) (into j)
    said j h g = go (first_or i k j e h)
      where
        go : (j ≡ k) ⊎ (i ≤ j) → Of (l.item j) (here j) × To (l.item j) (into j)
        go (inl q) =
            let w : n ≡ l.item j = en ∙ ap l.item (sym q) in
            (subst (λ m. Of m (here j)) w ((here_new (Of n) j q).0 ox), subst (λ m. To m (into j)) w ((into_new (To n) j q).0 oy))
        go (inr q) = let (a, b) = p.said j q g in ((here_old (Of (l.item j)) j q).0 a, (into_old (To (l.item j)) j q).0 b)

    abbrev From : ℕ → (ℕ → Set) → ℕ → Type 0
    From m f b = Some l.size (λ j. (m ≤ j) × In (f j) b)

    abbrev Steps : ℕ → (ℕ → Set) → (ℕ → Set) → Rel
    Steps m f g a b = Some l.size (λ j. Some j (λ c. (m ≤ c) × (In (f c) a × (In (f j) b × In (g c) b))))

    module _ (to next : Set) (v : List ℕ) (o : Is to (λ b. In later b × In y b)) (d : Adds u v (λ a b. In x a × In to b))
        (nx : Is next (λ b. In later b ⊎ In x b)) where
      says : (b : ℕ) → In next b → From k here b
      says b m = go (nx.says b m)
        where
          go : In later b ⊎ In x b → From k here b
          go (inl q) = let (j, h, (g, z)) = p.is.says b q in (j, h, (omega arith, (here_old (λ s. In s b) j g).0 z))
          go (inr q) = let h = p.upto in (k, omega arith, (omega arith, (here_new (λ s. In s b) k refl).0 q))

      has : (b : ℕ) → From k here b → In next b
      has b (j, h, (g, z)) = go (first_or i k j e g)
        where
          go : (j ≡ k) ⊎ (i ≤ j) → In next b
          go (inl q) = nx.has b (inr ((here_new (λ s. In s b) j q).1 z))
          go (inr q) = nx.has b (inl (p.is.has b (j, h, (q, (here_old (λ s. In s b) j q).1 z))))

      there : (a b : ℕ) → Steps i p.here p.into a b ⊎ (In x a × In to b) → Steps k here into a b
      there a b (inl (j, h, (c, g, (f, (m, (q, r)))))) = (
        j,
        h,
        (
          c,
          g,
          (
            omega arith,
            (
              (here_old (λ s. In s a) c f).0 m,
              ((here_old (λ s. In s b) j (omega arith)).0 q, (into_old (λ s. In s b) c f).0 r),
            ),
          ),
        ),
      )
      there a b (inr (m, q)) =
          let (w, r) = o.says b q in
          let (j, h, (g, z)) = p.is.says b w in (
            j,
            h,
            (
              k,
              omega arith,
              (
                omega arith,
                (
                  (here_new (λ s. In s a) k refl).0 m,
                  ((here_old (λ s. In s b) j g).0 z, (into_new (λ s. In s b) k refl).0 r),
                ),
              ),
            ),
          )

      back : (a b : ℕ) → Steps k here into a b → Steps i p.here p.into a b ⊎ (In x a × In to b)
      back a b (j, h, (c, g, (f, (m, (q, r))))) = go (first_or i k c e f)
        where
          go : (c ≡ k) ⊎ (i ≤ c) → Steps i p.here p.into a b ⊎ (In x a × In to b)
          go (inl w) = inr (
            (here_new (λ s. In s a) c w).1 m,
            o.has b (p.is.has b (j, h, (omega arith, (here_old (λ s. In s b) j (omega arith)).1 q)), (into_new (λ s. In s b) c w).1 r),
          )
          go (inr w) = inl (
            j,
            h,
            (
              c,
              g,
              (
                w,
                (
                  (here_old (λ s. In s a) c w).1 m,
                  ((here_old (λ s. In s b) j (omega arith)).1 q, (into_old (λ s. In s b) c w).1 r),
                ),
              ),
            ),
          )

      pub walk_more : Walking Of To l k next t v
      walk_more = record {
        here = here;
        into = into;
        upto = let h = p.upto in omega arith;
        said = said;
        is = record { says = says; has = has };
        adds = adds_as t v _ _ there back (adds_then t u v _ _ p.adds d);
      }

  -- all places
  pub walk_done : (i : ℕ) (later : Set) (u : List ℕ) → Walking Of To l i later t u → i ≤ 0 → Walked Of To l t u
  walk_done i later u p z = record {
    here = p.here;
    into = p.into;
    said = λ j h. p.said j (omega arith) h;
    adds =
        adds_as t u _ _
        (λ a b (j, h, (k, g, (f, q))). (j, h, (k, g, q)))
        (λ a b (j, h, (k, g, q)). (j, h, (k, g, (omega arith, q))))
        p.adds;
  }

-- the steps from an event alone
pub add_one : (u v : List ℕ) (e : ℕ) (x s : Set) → Itself e x → Adds u v (λ a b. (a ≡ e) × In s b) → Adds u v (λ a b. In x a × In s b)
add_one u v e x s i d = adds_as u v _ _ (λ a b (p, q). (i.has a p, q)) (λ a b (p, q). (i.says a p, q)) d

-- the order of what the items stand for, as far as M has it
pub walked_is : (Of To : ℕ → Set → Type 0) (l : Items ℕ) (t u : List ℕ) → Walked Of To l t u → (R : ℕ → ℕ → Type 0) (M : Rel)
    → ((j : ℕ) (s : Set) → j < l.size → Of (l.item j) s → Is s (R (l.item j)))
    → ((j a : ℕ) (s : Set) → j < l.size → To (l.item j) s → R (l.item j) a → Is s (M a)) → Adds t u (λ a b. BeforeIn R l a b × M a b)
walked_is Of To l t u w R M f g = adds_as t u _ _ there back w.adds
  where
    of : (j : ℕ) → j < l.size → Is (w.here j) (R (l.item j))
    of j h = f j (w.here j) h (w.said j h).0

    to : (j a : ℕ) → j < l.size → R (l.item j) a → Is (w.into j) (M a)
    to j a h r = g j a (w.into j) h (w.said j h).1 r

    there : (a b : ℕ) → Some l.size (λ j. Some j (λ i. In (w.here i) a × (In (w.here j) b × In (w.into i) b))) → BeforeIn R l a b × M a b
    there a b (j, h, (i, k, (m, (n, q)))) =
        let r = (of i (omega arith)).says a m in ((j, h, (i, k, (r, (of j h).says b n))), (to i a (omega arith) r).says b q)

    back : (a b : ℕ) → BeforeIn R l a b × M a b → Some l.size (λ j. Some j (λ i. In (w.here i) a × (In (w.here j) b × In (w.into i) b)))
    back a b ((j, h, (i, k, (r, s))), m) =
        (j, h, (i, k, ((of i (omega arith)).has a r, ((of j h).has b s, (to i a (omega arith) r).has b m))))

-- each item stands for itself
pub walked_events : (Of To : ℕ → Set → Type 0) (l : Items ℕ) (t u : List ℕ) → Walked Of To l t u → (M : Rel)
    → ((j : ℕ) (s : Set) → j < l.size → Of (l.item j) s → Is s (λ b. b ≡ l.item j))
    → ((j : ℕ) (s : Set) → j < l.size → To (l.item j) s → Is s (M (l.item j))) → Adds t u (λ a b. Before l a b × M a b)
walked_events Of To l t u w M f g =
    walked_is Of To l t u w (λ x b. x ≡ b) M
    (λ j s h p. is_as s _ _ (λ b q. sym q) (λ b q. sym q) (f j s h p))
    (λ j a s h p q. subst (λ x. Is s (M x)) q (g j s h p))

-- steps to every event below 64 are all steps
abbrev pub Every : Rel
Every a b = b < 64

-- a set and all events below 64 have its members in common
pub is_within : (s all : Set) → Is all (λ b. b < 64) → Is s (λ b. In s b × In all b)
is_within s all f = record { says = λ b m. (m, f.has b (in_low s b m)); has = λ b q. q.0 }

pub adds_every : (t u : List ℕ) (P : Rel) → ((a b : ℕ) → P a b → b < 64) → Adds t u (λ a b. P a b × Every a b) → Adds t u P
adds_every t u P f d = adds_as t u _ _ (λ a b q. q.0) (λ a b q. (q, f a b q)) d

pub row_low : (t : List ℕ) (a b : ℕ) → rel t a b → b < 64
unfolding rel
row_low t a b r = in_low _ b r

-- the steps of q to the members of s
abbrev pub Into : List ℕ → Set → Rel
Into q s a b = rel q a b × In s b

pub is_into : (q : List ℕ) (s : Set) (x : ℕ) (row r : Set) → Is row (rel q x) → Is r (λ b. In row b × In s b) → Is r (λ b. rel q x b × In s b)
is_into q s x row r a b = is_as r _ _ (λ k m. (a.says k m.0, m.1)) (λ k m. (a.has k m.0, m.1)) b
