-- Steps away: who is reached in one step from a set, and in how many steps from an event.
use Prim.Native.Nat.{ℕ, zero, suc, ◌+◌, ◌-◌, ◌<◌, ◌≤◌}
use mathlib.Core.Path.{◌≡◌, refl, sym, subst}
use mathlib.Core.List.{List}
use Rattle.std.specs.Prelude.{Some, None}
use mathlib.Core.Logic.{◌⊎◌, inl, inr, ⊎_elim}
use native.Mathlib.Omega.{arith}
use native.Mathlib.Decide.{ℕ_discrete, dec_lt}
use lib.ListN.{replicate}
use Rattle.order.specs.Relation.{Rel}
use Rattle.order.specs.Walk.{Walk}
use Rattle.order.proofs.Numbers.{last_or}
use Rattle.order.proofs.Walks.{snoc, last}
use Rattle.rows.specs.Members.{In, Is, Member}
use Rattle.rows.specs.Table.{Adds, rel, on}
use Rattle.rows.specs.declared.Set.{Set}
use Rattle.rows.proofs.Members.{dec_in, is_as}
use Rattle.rows.proofs.Table.{adds_none, adds_as, adds_then, zeros_rel}
use Rattle.cycles.specs.Search.{among, From, Reached, Distance, Away, Levels}

-- r has the steps from the members of w that are not in `from` any more
pub record Going (t : List ℕ) (w from r : Set) : Type 0 where
  pub part : (a : ℕ) → In from a → In w a
  pub is : Is r (λ b. (a : ℕ) × In w a × (In from a → ⊥) × rel t a b)

module _ (t : List ℕ) (w : Set) where
  pub go_begin : (r : Set) → Is r (λ k. ⊥) → Going t w w r
  go_begin r i = record { part = λ a m. m; is = record { says = λ b m. absurd (i.says b m); has = λ b q. absurd (q.2 q.1) } }

  pub go_more : (from r : Set) → Going t w from r → (a : ℕ) → In from a → (row both rest : Set) → Is row (rel t a)
      → Is both (λ k. In r k ⊎ In row k) → Is rest (λ j. In from j × (j ≡ a → ⊥)) → Going t w rest both
  go_more from r p a m row both rest i j k = record {
    part = λ x y. p.part x (k.says x y).0;
    is = record {
      says = λ b x. ⊎_elim (λ y. let q = p.is.says b y in (q.0, q.1, (λ z. q.2 (k.says q.0 z).0), q.3)) (λ y. (a, p.part a m, (λ z. (k.says a z).1 refl), i.says b y)) (j.says b x);
      has = λ b q. j.has b (pick b q.0 q.1 q.2 q.3 (dec_in from q.0));
    };
  }
    where
      pick : (b c : ℕ) → In w c → (In rest c → ⊥) → rel t c b → Dec (In from c) → In r b ⊎ In row b
      pick b c x y z (no g) = inl (p.is.has b (c, x, g, z))
      pick b c x y z (yes h) = at (ℕ_discrete c a)
        where
          at : Dec (c ≡ a) → In r b ⊎ In row b
          at (yes e) = inr (i.has b (rw e at z))
          at (no g) = absurd (y (k.has c (h, g)))

  pub go_done : (all : Set) → ((a : ℕ) → In w a → In all a) → (from r res : Set) → Going t w from r → (Member from → ⊥)
      → Is res (λ k. In r k × In all k) → Is res (From (among t all) w)
  go_done all f from r res p g j = is_as res _ _
      (λ b x. let q = p.is.says b x.0 in (q.0, q.1, (f q.0 q.1, x.1, q.3)))
      (λ b x. (p.is.has b (x.0, x.1, (λ y. g (x.0, y)), x.2.2), x.2.1))
      j

-- the same of the events below n
pub from_on : (t : List ℕ) (n : ℕ) (all w r : Set) → Is all (λ k. k < n) → Is r (From (among t all) w) → Is r (From (on n t) w)
from_on t n all w r i j = is_as r _ _
    (λ b (a, m, q). (a, m, (i.says a q.0, i.says b q.1, q.2)))
    (λ b (a, m, q). (a, m, (i.has a q.0, i.has b q.1, q.2)))
    j

-- ---- by the number of steps

-- s is reached in fewer than k steps; f in k - 1 steps and no fewer
pub record Layered (R : Rel) (all : Set) (a : ℕ) (s f : Set) (k : ℕ) : Type 0 where
  pub positive : 0 < k
  pub low : (v : ℕ) → In f v → In all v
  pub seen : Is s (Reached R a k)
  pub front : Is f (Distance R (k - 1) a)

-- and b is not reached yet
pub record Nearing (R : Rel) (all : Set) (a b : ℕ) (s f : Set) (k : ℕ) : Type 0 where
  pub layer : Layered R all a s f k
  pub none : Reached R a k b → ⊥

-- and row j of u has got what is j steps away, for j below k
pub record Levelling (R : Rel) (all : Set) (a : ℕ) (before u : List ℕ) (s f : Set) (k : ℕ) : Type 0 where
  pub layer : Layered R all a s f (k + 1)
  pub adds : Adds before u (λ j x. (j < k) × Distance R j a x)

module _ (R : Rel) (all : Set) (into : (a b : ℕ) → R a b → In all b) (a : ℕ) where
  early : (v : ℕ) → Reached R a 1 v → ⊥
  early v q = let z = q.1 in let y = q.2 in omega arith

  pub layer_begin : In all a → (seen front : Set) → Is seen (λ k. ⊥) → Is front (λ j. j ≡ a) → Layered R all a seen front 1
  layer_begin h seen front i j = record {
    positive = omega arith;
    low = λ v m. let e = j.says v m in rw e h;
    seen = record { says = λ v m. absurd (i.says v m); has = λ v q. absurd (early v q) };
    front = record { says = λ v m. (sym (j.says v m), λ q. let z = q.2 in omega arith); has = λ v q. j.has v (sym q.0) };
  }

  module _ (seen front : Set) (k : ℕ) (p : Layered R all a seen front k) (ahead new : Set)
      (i : Is ahead (From R front)) (j : Is new (λ v. In ahead v × (In seen v → ⊥))) where
    one_more : k ≡ suc (k - 1)
    one_more = let h = p.positive in omega arith

    -- what is new is reached in k steps and no fewer
    arrives : (v : ℕ) → In new v → Distance R k a v
    arrives v m =
        let q = j.says v m in
        let f = i.says v q.0 in
        let w = snoc R (k - 1) a f.0 v (p.front.says f.0 f.1).0 f.2 in
        (subst (λ (x : ℕ). Walk R x a v) (sym one_more) w, λ r. q.1 (p.seen.has v r))

    -- and all that is
    takes : (v : ℕ) → Distance R k a v → In new v
    takes v (w, f) =
        let (u, x, r) = last R (k - 1) a v (subst (λ (x : ℕ). Walk R x a v) one_more w) in
        j.has v (i.has v (u, p.front.has u (x, λ q. f (suc q.0, omega arith, later q.2, snoc R q.0 a u v q.3 r)), r), λ s. f (p.seen.says v s))
      where
        later : {x : ℕ} → x < k - 1 → suc x < k
        later h = omega arith

    -- one more step: reached before, or new
    within_k : (v : ℕ) → Walk R k a v → In seen v ⊎ In new v
    within_k v w = go (dec_in seen v)
      where
        go : Dec (In seen v) → In seen v ⊎ In new v
        go (yes m) = inl m
        go (no g) = inr (takes v (w, λ q. g (p.seen.has v q)))

    pub layer_more : (both : Set) → Is both (λ v. In seen v ⊎ In new v) → Layered R all a both new (k + 1)
    layer_more both u = record {
      positive = omega arith;
      low = λ v m. into _ v (i.says v (j.says v m).0).2;
      seen = record {
        says = λ v m. ⊎_elim (λ s. let q = p.seen.says v s in (q.0, q.1, omega arith, q.3)) (λ s. (k, p.positive, omega arith, (arrives v s).0)) (u.says v m);
        has = λ v q. u.has v (⊎_elim (λ (e : q.0 ≡ k). within_k v (rw e at q.3)) (λ h. inl (p.seen.has v (q.0, q.1, h, q.3))) (last_or k q.0 (omega arith)));
      };
      front = subst (λ (x : ℕ). Is new (Distance R x a)) back record { says = arrives; has = takes };
    }
      where
        back : k ≡ k + 1 - 1
        back = omega arith

  -- ---- until b is reached

  module _ (b : ℕ) where
    pub near_begin : In all a → (seen front : Set) → Is seen (λ k. ⊥) → Is front (λ j. j ≡ a) → Nearing R all a b seen front 1
    near_begin h seen front i j = record { layer = layer_begin h seen front i j; none = early b }

    module _ (seen front : Set) (k : ℕ) (p : Nearing R all a b seen front k) (ahead new : Set)
        (i : Is ahead (From R front)) (j : Is new (λ v. In ahead v × (In seen v → ⊥))) where
      l : Layered R all a seen front k
      l = p.layer

      pub near_found : (limit : ℕ) → k < limit → In new b → Away R a b limit (Some k)
      near_found limit h m = (p.layer.positive, h, arrives seen front k l ahead new i j b m)

      pub near_more : (In new b → ⊥) → (both : Set) → Is both (λ v. In seen v ⊎ In new v) → Nearing R all a b both new (k + 1)
      near_more g both u = record {
        layer = layer_more seen front k l ahead new i j both u;
        none = λ q. ⊎_elim (λ (e : q.0 ≡ k). g (takes seen front k l ahead new i j b (rw e at q.3, p.none))) (λ h. p.none (q.0, q.1, h, q.3)) (last_or k q.0 (omega arith));
      }

      -- nothing is new: whatever is reached is reached in fewer than k steps
      module _ (g : Member new → ⊥) where
        at_k : (v : ℕ) → Walk R k a v → Reached R a k v
        at_k v w = ⊎_elim (λ m. p.layer.seen.says v m) (λ m. absurd (g (v, m))) (within_k seen front k l ahead new i j v w)

        one_on : (u v : ℕ) → Reached R a k u → R u v → Reached R a k v
        one_on u v (j, h, l, w) r = go (dec_lt (suc j) k)
          where
            go : Dec (suc j < k) → Reached R a k v
            go (yes m) = (suc j, omega arith, m, snoc R j a u v w r)
            go (no m) = let e : suc j ≡ k = omega arith in at_k v (subst (λ (x : ℕ). Walk R x a v) e (snoc R j a u v w r))

        dry : (d v : ℕ) → Walk R (d + k) a v → Reached R a k v
        dry zero v w = let e : 0 + k ≡ k = omega arith in at_k v (subst (λ (x : ℕ). Walk R x a v) e w)
        dry (suc d) v w =
            let e : suc d + k ≡ suc (d + k) = omega arith in
            let (u, x, r) = last R (d + k) a v (subst (λ (x : ℕ). Walk R x a v) e w) in
            one_on u v (dry d u x) r

        pub near_none : (limit : ℕ) → Away R a b limit None
        near_none limit q = far q.0 q.1 q.3 (dec_lt q.0 k)
          where
            far : (j : ℕ) → 0 < j → Walk R j a b → Dec (j < k) → ⊥
            far j h w (yes m) = p.none (j, h, m, w)
            far j h w (no m) = let e : j ≡ j - k + k = omega arith in p.none (dry (j - k) b (subst (λ (x : ℕ). Walk R x a b) e w))

    pub near_limit : (seen front : Set) (k limit : ℕ) → Nearing R all a b seen front k → limit ≤ k → Away R a b limit None
    near_limit seen front k limit p h q = p.none (q.0, q.1, omega arith, q.3)

  -- ---- into a table

  module _ (before : List ℕ) where
    pub level_begin : In all a → (seen front : Set) → Is seen (λ k. ⊥) → Is front (λ j. j ≡ a) → Levelling R all a before before seen front 0
    level_begin h seen front i j = record {
      layer = layer_begin h seen front i j;
      adds = adds_none before _ (λ j x q. let l = q.0 in omega arith);
    }

    pub level_more : (u : List ℕ) (seen front : Set) (k : ℕ) → Levelling R all a before u seen front k → (v : List ℕ) → Adds u v (λ x y. (x ≡ k) × In front y) → (ahead new : Set) → Is ahead (From R front)
        → Is new (λ v. In ahead v × (In seen v → ⊥)) → (both : Set) → Is both (λ v. In seen v ⊎ In new v) → Levelling R all a before v both new (k + 1)
    level_more u seen front k p v d ahead new i j both o = record {
      layer = layer_more seen front (k + 1) p.layer ahead new i j both o;
      adds = adds_as before v _ _ there back (adds_then before u v _ _ p.adds d);
    }
      where
        same : k + 1 - 1 ≡ k
        same = omega arith

        here : Is front (Distance R k a)
        here = subst (λ (x : ℕ). Is front (Distance R x a)) same p.layer.front

        there : (x y : ℕ) → ((x < k) × Distance R x a y) ⊎ ((x ≡ k) × In front y) → (x < k + 1) × Distance R x a y
        there x y (inl q) = (omega arith, q.1)
        there x y (inr (e, m)) = (omega arith, rw e (here.says y m))

        back : (x y : ℕ) → (x < k + 1) × Distance R x a y → ((x < k) × Distance R x a y) ⊎ ((x ≡ k) × In front y)
        back x y q = ⊎_elim (λ (e : x ≡ k). inr (e, here.has y (rw e at q.1))) (λ l. inl (l, q.1)) (last_or k x (omega arith))

-- the rows of a blank table
pub levels_blank : (R : Rel) (s len : ℕ) (u : List ℕ) → Adds (replicate 64 0) u (λ k x. (k < len) × Distance R k s x) → Levels R u s len
levels_blank R s len u d k x h = (
  λ r. ⊎_elim (λ z. absurd (zeros_rel 64 k x z)) (λ q. q.1) ((d.pairs k x).0 r),
  λ q. (d.pairs k x).1 (inr (h, q)),
)
