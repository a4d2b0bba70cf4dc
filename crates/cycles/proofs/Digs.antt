-- One path, depth first: what holds between the turns of `dig`.
use Prim.Native.Nat.{ℕ, zero, suc, ◌<◌}
use mathlib.Core.Path.{◌≡◌, refl, sym, ◌∙◌, subst}
use mathlib.Core.List.{List, [], ◌∷◌}
use mathlib.Core.Logic.{◌⊎◌, inl, inr, ⊎_elim}
use native.Mathlib.Omega.{arith}
use native.Mathlib.Decide.{ℕ_discrete}
use lib.ListN.{length, get_or, set, length-set, replicate, get_or-replicate}
use lib.Seq.{get_or-set_same, get_or-set_other}
use Rattle.std.specs.Prelude.{Option, Some, None, is_some, true, false}
use Rattle.order.specs.Relation.{Rel}
use Rattle.order.specs.Walk.{Walk}
use Rattle.order.proofs.Walks.{peel, snoc}
use Rattle.order.proofs.Cycles.{walk_cyclic, cyclic_walk}
use Rattle.rows.specs.Members.{In, Is, Member, Meet}
use Rattle.rows.specs.Table.{rel, on}
use Rattle.rows.specs.declared.Set.{Set}
use Rattle.rows.proofs.Members.{value, in_low, is_as, subset_less}
use Rattle.cycles.specs.Search.{among, Left}

-- the path came to x from p
abbrev pub Came : List (Option ℕ) → ℕ → ℕ → Type 0
Came from x p = get_or from x None ≡ Some p

-- the path goes from x to v in k steps
abbrev pub Along : List (Option ℕ) → ℕ → ℕ → ℕ → Type 0
Along from zero x v = x ≡ v
Along from (suc k) x v = (p : ℕ) × Came from v p × Along from k x p

-- the path has been at x, which is its start or came from another
abbrev pub Been : List (Option ℕ) → ℕ → ℕ → Type 0
Been from start x = (x ≡ start) ⊎ ((p : ℕ) × Came from x p)

-- every closed walk is in live, and no path came there
pub record Fresh (t : List ℕ) (all live : Set) (from : List (Option ℕ)) : Type 0 where
  pub same : length from ≡ 64
  pub low : (a : ℕ) → In live a → In all a
  pub covers : (k a : ℕ) → Walk (among t all) (suc k) a a → In live a
  pub blank : (x : ℕ) → In live x → get_or from x None ≡ None

-- every closed walk is in live; where the path has been and what is live is the path to v
pub record Digging (t : List ℕ) (all live : Set) (from : List (Option ℕ)) (start v : ℕ) : Type 0 where
  pub same : length from ≡ 64
  pub low : (a : ℕ) → In live a → In all a
  pub covers : (k a : ℕ) → Walk (among t all) (suc k) a a → In live a
  pub here : In live v
  pub been : Been from start v
  pub back : (x p : ℕ) → In live x → Came from x p → In live p × Been from start p × rel t p x
  pub path : (x : ℕ) → In live x → Been from start x → (k : ℕ) × Along from k x v

-- ---- an entry has one number or none

pub some_of : (o : Option ℕ) → is_some o ≡ true → (p : ℕ) × (o ≡ Some p)
some_of None e = absurd (cc)
some_of (Some p) e = (p, refl)

pub none_of : (o : Option ℕ) → is_some o ≡ false → o ≡ None
none_of None e = refl
none_of (Some p) e = absurd (cc)

none_or : (o : Option ℕ) → (o ≡ None) ⊎ ((p : ℕ) × (o ≡ Some p))
none_or None = inl refl
none_or (Some p) = inr (p, refl)

some_not : (o : Option ℕ) (p : ℕ) → o ≡ None → o ≡ Some p → ⊥
some_not o p e f = cc

some_same : (o : Option ℕ) (p q : ℕ) → o ≡ Some p → o ≡ Some q → p ≡ q
some_same o p q e f = cc

-- ---- how many entries have none

unfoldable pub free : List (Option ℕ) → ℕ
free [] = 0
free (None ∷ l) = suc (free l)
free (Some x ∷ l) = free l

pub free_less : (l : List (Option ℕ)) (i x : ℕ) → i < length l → get_or l i None ≡ None → free (set l i (Some x)) < free l
unfolding free
free_less [] i x h e = absurd (omega arith)
free_less (None ∷ l) zero x h e = omega arith
free_less (Some y ∷ l) zero x h e = absurd (some_not (Some y) y e refl)
free_less (None ∷ l) (suc i) x h e = omega (arith, free_less l i x (omega arith) e)
free_less (Some y ∷ l) (suc i) x h e = omega (arith, free_less l i x (omega arith) e)

-- ---- a path begins

module _ (t : List ℕ) (all : Set) where
  pub fresh_begin : Fresh t all all (replicate 64 None)
  fresh_begin = record {
    same = refl;
    low = λ a i. i;
    covers = λ k a w. w.1.0;
    blank = λ x i. get_or-replicate 64 x None None (in_low all x i);
  }

  module _ (live : Set) (from : List (Option ℕ)) (p : Fresh t all live from) where
    pub fresh_start : (a : ℕ) → In live a → Digging t all live from a a
    fresh_start a i = record {
      same = p.same;
      low = p.low;
      covers = p.covers;
      here = i;
      been = inl refl;
      back = λ x y j b. absurd (some_not _ y (p.blank x j) b);
      path = λ x j m. (0, ⊎_elim (λ e. e) (λ b. absurd (some_not _ b.0 (p.blank x j) b.1)) m);
    }

    pub fresh_done : (Member live → ⊥) → Left (among t all) live × ((a : ℕ) → In live a → In all a)
    fresh_done f = (record { covers = p.covers; cyclic = λ a i. absurd (f (a, i)) }, p.low)

  -- ---- it goes on, closes a cycle, or goes back

  module _ (live : Set) (from : List (Option ℕ)) (start v : ℕ) (p : Digging t all live from start v) where
    walk : (k x u : ℕ) → In live u → Along from k x u → Walk (among t all) k x u
    walk zero x u i e = e
    walk (suc k) x u i (y, c, h) =
        let m = p.back u y i c in
        snoc (among t all) k x y u (walk k x y m.0 h) (p.low y m.0, p.low u i, m.2)

    -- an event without a step into live is taken out
    module _ (u : ℕ) (i : In live u) (stuck : (c : ℕ) → rel t u c → In live c → ⊥) (rest : Set) (q : Is rest (λ j. In live j × (j ≡ u → ⊥))) where
      pub dig_less : value rest < value live
      dig_less = subset_less live rest (λ k r. (q.says k r).0) u i (λ r. (q.says u r).1 refl)

      covers : (k a : ℕ) → Walk (among t all) (suc k) a a → In rest a
      covers k a w = q.has a (p.covers k a w, peel (among t all) (In live) u p.covers (λ c r. stuck c r.2) k a w)

      taken : (a : ℕ) → In rest a → Been from start a → ((x : ℕ) → In rest x → Been from start x → (k : ℕ) × Along from k x a)
          → Digging t all rest from start a
      taken a j m f = record {
        same = p.same;
        low = λ x r. p.low x (q.says x r).0;
        covers = covers;
        here = j;
        been = m;
        back = λ x y r b. let c = p.back x y (q.says x r).0 b in (q.has y (c.0, λ e. stuck x (rw e at c.2) (q.says x r).0), c.1, c.2);
        path = f;
      }

    module _ (w : ℕ) (i : In live w) (r : rel t v w) where
      -- the path can go to w, which ends there
      pub dig_leaf : (stuck : (c : ℕ) → rel t w c → In live c → ⊥) (rest : Set) → Is rest (λ j. In live j × (j ≡ w → ⊥)) → Digging t all rest from start v
      dig_leaf stuck rest q = taken w i stuck rest q v (q.has v (p.here, λ e. stuck w (rw e at r) i)) p.been (λ x j m. p.path x (q.says x j).0 m)

      -- it has been at w
      pub dig_found : Been from start w → Left (among t all) live × ((a : ℕ) → In live a → In all a)
      dig_found m =
          let (k, h) = p.path w i m in
          let c = walk_cyclic (among t all) k w (snoc (among t all) k w v w (walk k w v p.here h) (p.low v p.here, p.low w i, r)) in
          (record { covers = p.covers; cyclic = λ a j. c }, p.low)

      -- it goes to w
      module _ (e : get_or from w None ≡ None) where
        there : Came (set from w (Some v)) w v
        there = let l = in_low live w i in get_or-set_same from w (Some v) None (omega (arith, p.same))

        other : (x : ℕ) → (x ≡ w → ⊥) → get_or (set from w (Some v)) x None ≡ get_or from x None
        other x f = get_or-set_other from w x (Some v) None f

        still : (x y : ℕ) → Came from x y → Came (set from w (Some v)) x y
        still x y b = other x (λ f. some_not _ y e (rw f at b)) ∙ b

        keeps : (x : ℕ) → Been from start x → Been (set from w (Some v)) start x
        keeps x m = ⊎_elim (λ f. inl f) (λ b. inr (b.0, still x b.0 b.1)) m

        along : (k x y : ℕ) → In live y → Along from k x y → Along (set from w (Some v)) k x y
        along zero x y j h = h
        along (suc k) x y j (z, c, h) = (z, still y z c, along k x z (p.back y z j c).0 h)

        pub dig_on : Digging t all live (set from w (Some v)) start w
        dig_on = record {
          same = length-set from w (Some v) ∙ p.same;
          low = p.low;
          covers = p.covers;
          here = i;
          been = inr (v, there);
          back = λ x y j b. back x y j b (ℕ_discrete x w);
          path = λ x j m. path x j m (ℕ_discrete x w);
        }
          where
            before : (x : ℕ) → (x ≡ w → ⊥) → Been (set from w (Some v)) start x → Been from start x
            before x f m = ⊎_elim (λ e. inl e) (λ b. inr (b.0, sym (other x f) ∙ b.1)) m

            back : (x y : ℕ) → In live x → Came (set from w (Some v)) x y → Dec (x ≡ w) → In live y × Been (set from w (Some v)) start y × rel t y x
            back x y j b (yes f) =
                let s : y ≡ v = some_same _ y v (rw f at b) there in
                rw (f, s) (p.here, keeps v p.been, r)
            back x y j b (no f) = let c = p.back x y j (sym (other x f) ∙ b) in (c.0, keeps y c.1, c.2)

            path : (x : ℕ) → In live x → Been (set from w (Some v)) start x → Dec (x ≡ w) → (k : ℕ) × Along (set from w (Some v)) k x w
            path x j m (yes f) = (0, f)
            path x j m (no f) = let (k, h) = p.path x j (before x f m) in (suc k, (v, there, along k x v p.here h))

    -- v has no step into live
    module _ (stuck : (c : ℕ) → rel t v c → In live c → ⊥) (rest : Set) (q : Is rest (λ j. In live j × (j ≡ v → ⊥))) where
      -- the path began at v
      pub dig_end : get_or from v None ≡ None → Fresh t all rest from
      dig_end e = record {
        same = p.same;
        low = λ a j. p.low a (q.says a j).0;
        covers = covers v p.here stuck rest q;
        blank = λ x j. blank x j (none_or (get_or from x None));
      }
        where
          gone : (x : ℕ) → In rest x → (k : ℕ) → Along from k x v → ⊥
          gone x j zero h = (q.says x j).1 h
          gone x j (suc k) (y, c, h) = some_not _ y e c

          blank : (x : ℕ) → In rest x → (get_or from x None ≡ None) ⊎ ((y : ℕ) × Came from x y) → get_or from x None ≡ None
          blank x j (inl f) = f
          blank x j (inr b) = let (k, h) = p.path x (q.says x j).0 (inr b) in absurd (gone x j k h)

      -- it came from another
      pub dig_back : (y : ℕ) → Came from v y → Digging t all rest from start y
      dig_back y c =
          let m = p.back v y p.here c in
          taken v p.here stuck rest q y (q.has y (m.0, λ e. stuck v (rw e at m.2) p.here)) m.1
          (λ x j n. let (k, h) = p.path x (q.says x j).0 n in shorter x j k h)
        where
          shorter : (x : ℕ) → In rest x → (k : ℕ) → Along from k x v → (l : ℕ) × Along from l x y
          shorter x j zero h = absurd ((q.says x j).1 h)
          shorter x j (suc k) (z, d, h) = (k, subst (λ (a : ℕ). Along from k x a) (some_same _ z y d c) h)

-- ---- what the sets say

-- all but v
pub but_one : (live one rest : Set) (v : ℕ) → Is one (λ j. j ≡ v) → Is rest (λ k. In live k × (In one k → ⊥)) → Is rest (λ j. In live j × (j ≡ v → ⊥))
but_one live one rest v o i = is_as rest _ _ (λ k q. (q.0, λ e. q.1 (o.has k e))) (λ k q. (q.0, λ m. q.1 (o.says k m))) i

-- no member is found
pub no_member : (s : Set) → ((k : ℕ) → k < 64 → In s k → ⊥) → Member s → ⊥
no_member s f (a, i) = f a (in_low s a i) i

module _ (t : List ℕ) (live : Set) (v : ℕ) (row : Set) (ir : Is row (rel t v)) where
  pub no_meet : (Meet row live → ⊥) → (c : ℕ) → rel t v c → In live c → ⊥
  no_meet f c r i = f (c, ir.has c r, i)

  module _ (next : Set) (q : Is next (λ k. In row k × In live k)) where
    pub no_next : (Member next → ⊥) → (c : ℕ) → rel t v c → In live c → ⊥
    no_next f c r i = f (c, q.has c (ir.has c r, i))

    pub next_in : (w : ℕ) → In next w → In live w × rel t v w
    next_in w i = let h = q.says w i in (h.1, ir.says w h.0)

-- ---- of the events below n

-- steps of one relation are steps of another
pub walk_as : (R Q : Rel) → ((a b : ℕ) → R a b → Q a b) → (k a b : ℕ) → Walk R k a b → Walk Q k a b
walk_as R Q f zero a b w = w
walk_as R Q f (suc k) a b (c, r, w) = (c, f a c r, walk_as R Q f k c b w)

pub left_on : (t : List ℕ) (n : ℕ) (all live : Set) → Is all (λ k. k < n) → Left (among t all) live → Left (on n t) live
left_on t n all live i p = record {
  covers = λ k a w. p.covers k a (walk_as (on n t) (among t all) (λ x y r. (i.has x r.0, i.has y r.1, r.2)) (suc k) a a w);
  cyclic = λ a m.
      let (k, b, w) = cyclic_walk (among t all) (p.cyclic a m) in
      walk_cyclic (on n t) k b (walk_as (among t all) (on n t) (λ x y r. (i.says x r.0, i.says y r.1, r.2)) (suc k) b b w);
}
