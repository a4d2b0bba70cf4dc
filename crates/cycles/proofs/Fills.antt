-- The writing of the cycle that is shown.
use Prim.Native.Nat.{ℕ, zero, suc, ◌+◌, ◌-◌, ◌<◌, ◌≤◌}
use mathlib.Core.Path.{◌≡◌, refl, sym, ap, ◌∙◌, subst}
use mathlib.Core.List.{List, [], ◌∷◌, ◌++◌, append_assoc, append-nil}
use mathlib.Core.Logic.{◌⊎◌, inl, inr, ⊎_elim}
use native.Mathlib.Omega.{arith}
use native.Mathlib.Decide.{dec_lt}
use native.Mathlib.Numerals.{add-one}
use lib.ListN.{get_or, set, length, drop, length-append, length-set}
use lib.Seq.{drop-cons, set_at, drop-set-lt}
use Rattle.std.specs.Prelude.{Option, Some, None, IsSome}
use Rattle.order.specs.Least.{Least, Found}
use Rattle.order.specs.Relation.{Rel, Below}
use Rattle.order.specs.Walk.{Walk}
use Rattle.order.proofs.Searches.{found_as}
use Rattle.order.proofs.Walks.{join, snoc, last, within_below}
use Rattle.order.proofs.Cycles.{Greedy, shown}
use Rattle.rows.specs.Members.{In, Is}
use Rattle.rows.specs.Table.{rel, on}
use Rattle.rows.specs.declared.Set.{Set}
use Rattle.rows.proofs.Members.{in_low, is_as}
use Rattle.cycles.specs.Search.{Into, Distance, Shortest, Levels, Round}
use Rattle.cycles.specs.Showing.{Exhibited}
use Rattle.cycles.proofs.Searches.{walk_low}

-- i events are written, the last of them v; whatever goes on greedily from v ends a greedy trail from s
pub record Filling (R : Rel) (n s len : ℕ) (before out : List ℕ) (v i : ℕ) : Type 0 where
  pub positive : 0 < i
  pub low : v < n
  pub room : len ≤ length before
  pub same : length out ≡ length before
  pub behind : Walk R (i - 1) s v
  pub ahead : Walk R (suc (len - i)) v s
  pub prefix : List ℕ
  pub long : suc (length prefix) ≡ i
  pub written : out ≡ (s ∷ prefix) ++ drop i before
  pub on_from : (m : List ℕ) → Greedy R s v m → length m + i ≡ len → Greedy R s s (prefix ++ m)

first_set : (l : List ℕ) (s : ℕ) → 0 < length l → set l 0 s ≡ s ∷ drop 1 (set l 0 s)
first_set [] s h = absurd (omega arith)
first_set (x ∷ l) s h = refl

module _ (R : Rel) (n : ℕ) (below : Below n R) (s len : ℕ) (p : Shortest R len s) where
  start_low : s < n
  start_low = walk_low R n below len s s p.positive p.closed

  pub fill_begin : (l : List ℕ) → len ≤ length l → Filling R n s len (set l 0 s) (set l 0 s) s 1
  fill_begin l q =
      let h = p.positive in
      let e : len ≡ suc (len - 1) = omega arith in
      record {
        positive = omega arith;
        low = start_low;
        room = omega (arith, length-set l 0 s);
        same = refl;
        behind = refl;
        ahead = subst (λ (k : ℕ). Walk R k s s) e p.closed;
        prefix = [];
        long = refl;
        written = first_set l s (omega arith);
        on_from = λ m g e. g;
      }

  module _ (before out : List ℕ) (v i : ℕ) (f : Filling R n s len before out v i) (h : i < len) where
    module _ (c : ℕ) (g : Least (λ x. R v x × Walk R (len - i) x s) c) where
      least : (m : List ℕ) → suc (length m) ≡ len - i → Least (λ x. R v x × Walk R (suc (length m)) x s) c
      least m e = subst (λ (k : ℕ). Least (λ x. R v x × Walk R k x s) c) (sym e) g

      next_written : set out i c ≡ (s ∷ (f.prefix ++ (c ∷ []))) ++ drop (i + 1) before
      next_written =
          let r = f.room in
          let d : out ≡ (s ∷ f.prefix) ++ (get_or before i 0 ∷ drop (suc i) before) = f.written ∙ ap (λ (l : List ℕ). (s ∷ f.prefix) ++ l) (drop-cons before i 0 (omega arith)) in
          ap (λ (l : List ℕ). set l i c) d ∙ set_at (s ∷ f.prefix) (get_or before i 0) (drop (suc i) before) c i f.long
          ∙ simp (append_assoc, add-one)

      pub fill_more : Filling R n s len before (set out i c) c (i + 1)
      fill_more =
          let q = f.positive in
          let e : len - i ≡ suc (len - (i + 1)) = omega arith in
          let b : suc (i - 1) ≡ i + 1 - 1 = omega arith in
          record {
            positive = omega arith;
            low = (below v c g.0.0).1;
            room = f.room;
            same = length-set out i c ∙ f.same;
            behind = subst (λ (k : ℕ). Walk R k s c) b (snoc R (i - 1) s v c f.behind g.0.0);
            ahead = subst (λ (k : ℕ). Walk R k c s) e g.0.1;
            prefix = f.prefix ++ (c ∷ []);
            long = omega (arith, length-append f.prefix (c ∷ []), f.long);
            written = next_written;
            on_from = λ m g q. rw append_assoc (f.on_from (c ∷ m) (least m (omega arith), g) (omega arith));
          }

  one_step : (v : ℕ) → Walk R 1 v s → R v s
  one_step v (x, r, y) = rw y at r

  pub fill_done : (l out : List ℕ) (v i : ℕ) → Filling R n s len (set l 0 s) out v i → len ≤ i → i ≤ len → Exhibited R l out len
  fill_done l out v i f h u =
      let e : i ≡ len = omega arith in
      let z : len - i ≡ 0 = omega arith in
      let w : Walk R 1 v s = subst (λ (k : ℕ). Walk R (suc k) v s) z f.ahead in
      let g : Greedy R s s f.prefix = rw append-nil at (f.on_from [] (one_step v w) (omega arith)) in
      let long : suc (length f.prefix) ≡ len = f.long ∙ e in (
        s ∷ f.prefix,
        shown R s f.prefix g
            (λ k a y w. p.none a (suc k, omega arith, omega arith, w))
            (λ a y w. p.least a y (subst (λ (k : ℕ). Walk R k a a) long w)),
        (
          sym long,
          f.written ∙ ap (λ (k : List ℕ). (s ∷ f.prefix) ++ k) (drop-set-lt i l 0 s f.positive ∙ ap (λ (j : ℕ). drop j l) e),
        ),
      )

-- ---- which events are on a shortest closed walk at s

module _ (t : List ℕ) (n s len : ℕ) (p : Shortest (on n t) len s) where
  end_low : (k x : ℕ) → 0 < k → Walk (on n t) k s x → x < n
  end_low zero x h w = absurd (omega arith)
  end_low (suc k) x h w = let (b, v, r) = last (on n t) k s x w in r.1

  -- a shorter way there would close a shorter cycle
  nearest : (i x : ℕ) → i < len → Walk (on n t) i s x → Walk (on n t) (len - i) x s → Distance (on n t) i s x
  nearest i x h v w = (v, λ (m, y, z, u). p.none s (m + (len - i), omega arith, omega arith, join (on n t) m (len - i) s x s u w))

  one_distance : (i k x : ℕ) → 0 < i → 0 < k → Distance (on n t) i s x → Distance (on n t) k s x → i ≡ k
  one_distance i k x a b d e = go (dec_lt i k) (dec_lt k i)
    where
      go : Dec (i < k) → Dec (k < i) → i ≡ k
      go (yes l) f = absurd (e.1 (i, a, l, d.0))
      go (no g) (yes l) = absurd (d.1 (k, b, l, e.0))
      go (no g) (no h) = omega arith

  pub close_begin : (r : Set) → Is r (λ j. j ≡ s) → Is r (Round (on n t) s len len)
  close_begin r i = record {
    says = λ x m. inl (i.says x m);
    has = λ x q. i.has x (⊎_elim (λ e. e) (λ z. let l = z.1 in let h = z.2 in absurd (omega arith)) q);
  }

  module _ (u : List ℕ) (v : Levels (on n t) u s len) where
    pub level_low : (k : ℕ) → 0 < k → k < len → (row : Set) → Is row (rel u k) → (x : ℕ) → In row x → x < n
    level_low k h l row i x m = end_low k x h ((v k x l).0 (i.says x m)).0

    module _ (r : Set) (k : ℕ) (q : Is r (Round (on n t) s len k)) (h : 1 < k) (most : k ≤ len) (row found both : Set)
        (i : Is row (rel u (k - 1))) (b : Is found (λ a. In row a × Into (rel t) r a)) (o : Is both (λ a. In r a ⊎ In found a)) where
      k_more : suc (k - 1) ≡ k
      k_more = omega arith

      k_less : suc (len - k) ≡ len - (k - 1)
      k_less = omega arith

      far : (a : ℕ) → In row a → Distance (on n t) (k - 1) s a
      far a m = (v (k - 1) a (omega arith)).0 (i.says a m)

      onto : (a c : ℕ) → In row a → on n t a c → Walk (on n t) k s c
      onto a c m r = subst (λ (j : ℕ). Walk (on n t) j s c) k_more (snoc (on n t) (k - 1) s a c (far a m).0 r)

      -- a step to a member leads to s in as many steps as are left
      leads : (a c : ℕ) → In row a → rel t a c → Round (on n t) s len k c → Walk (on n t) (len - (k - 1)) a s
      leads a c m e (inl z) = go (dec_lt k len)
        where
          to : on n t a s
          to = (level_low (k - 1) (omega arith) (omega arith) row i a m, walk_low (on n t) n (within_below n (rel t)) len s s p.positive p.closed, rw z at e)

          go : Dec (k < len) → Walk (on n t) (len - (k - 1)) a s
          go (yes l) = absurd (p.none s (k, omega arith, l, onto a s m to))
          go (no g) = let f : 1 ≡ len - (k - 1) = omega arith in subst (λ (j : ℕ). Walk (on n t) j a s) f (s, to, refl)
      leads a c m e (inr (j, y, l, d, w)) = go (dec_lt k j)
        where
          to : on n t a c
          to = (level_low (k - 1) (omega arith) (omega arith) row i a m, walk_low (on n t) n (within_below n (rel t)) (len - j) c s (omega arith) w, e)

          go : Dec (k < j) → Walk (on n t) (len - (k - 1)) a s
          go (yes g) = absurd (d.1 (k, omega arith, g, onto a c m to))
          go (no g) =
              let f : j ≡ k = omega arith in
              subst (λ (z : ℕ). Walk (on n t) z a s) k_less (c, to, subst (λ (z : ℕ). Walk (on n t) (len - z) c s) f w)

      next_in : (c : ℕ) → Walk (on n t) k s c → Walk (on n t) (len - k) c s → In r c
      next_in c x w = go (dec_lt k len)
        where
          go : Dec (k < len) → In r c
          go (yes l) = q.has c (inr (k, omega arith, l, nearest k c l x w, w))
          go (no g) = let z : len - k ≡ 0 = omega arith in q.has c (inl (subst (λ (j : ℕ). Walk (on n t) j c s) z w))

      new : (a : ℕ) → Distance (on n t) (k - 1) s a → Walk (on n t) (suc (len - k)) a s → In found a
      new a d (c, r, w) =
          let m = i.has a ((v (k - 1) a (omega arith)).1 d) in
          b.has a (m, (c, next_in c (onto a c m r) w, r.2))

      has : (a : ℕ) → Round (on n t) s len (k - 1) a → In r a ⊎ In found a
      has a (inl e) = inl (q.has a (inl e))
      has a (inr (j, y, l, d, w)) = go (dec_lt j k)
        where
          go : Dec (j < k) → In r a ⊎ In found a
          go (no g) = inl (q.has a (inr (j, omega arith, l, d, w)))
          go (yes g) =
              let e : j ≡ k - 1 = omega arith in
              let x : Walk (on n t) (len - (k - 1)) a s = subst (λ (z : ℕ). Walk (on n t) (len - z) a s) e w in
              inr (new a (subst (λ (z : ℕ). Distance (on n t) z s a) e d) (subst (λ (z : ℕ). Walk (on n t) z a s) (sym k_less) x))

      says : (a : ℕ) → In r a ⊎ In found a → Round (on n t) s len (k - 1) a
      says a (inl m) = ⊎_elim (λ e. inl e) (λ z. let y = z.1 in inr (z.0, omega arith, z.2, z.3, z.4)) (q.says a m)
      says a (inr m) =
          let z = b.says a m in
          inr (k - 1, omega arith, omega arith, far a z.0, leads a z.1.0 z.0 z.1.2 (q.says z.1.0 z.1.1))

      pub close_more : Is both (Round (on n t) s len (k - 1))
      close_more = is_as both _ _ says has o

    pub close_done : (r : Set) (k : ℕ) → Is r (Round (on n t) s len k) → 0 < k → k ≤ 1 → Is r (Round (on n t) s len 1)
    close_done r k q h l = let e : k ≡ 1 = omega arith in subst (λ (z : ℕ). Is r (Round (on n t) s len z)) e q

    -- where the walk can go
    module _ (good : Set) (q : Is good (Round (on n t) s len 1)) (before out : List ℕ) (a i : ℕ) (f : Filling (on n t) n s len before out a i) (h : i < len)
        (from level some go : Set) (x : Is from (rel t a)) (y : Is level (rel u i)) (z : Is some (λ k. In level k × In good k)) (w : Is go (λ k. In from k × In some k)) where
      back : (c : ℕ) → Distance (on n t) i s c → Round (on n t) s len 1 c → Walk (on n t) (len - i) c s
      back c d (inl e) = let o = f.positive in absurd (p.none s (i, o, h, (rw e at d.0)))
      back c d (inr (k, l, m, g, v)) =
          let o = f.positive in
          subst (λ (j : ℕ). Walk (on n t) (len - j) c s) (one_distance k i c (omega arith) o g d) v

      way : (c : ℕ) → In from c × In some c → on n t a c × Walk (on n t) (len - i) c s
      way c (l, m) =
          let g = z.says c m in
          let v = back c ((v i c h).0 (y.says c g.0)) (q.says c g.1) in
          ((f.low, walk_low (on n t) n (within_below n (rel t)) (len - i) c s (omega arith) v, x.says c l), v)

      no_other : (c : ℕ) → on n t a c × Walk (on n t) (len - i) c s → In from c × In some c
      no_other c (r, m) =
          let o = f.positive in
          let e : suc (i - 1) ≡ i = omega arith in
          let d = nearest i c h (subst (λ (k : ℕ). Walk (on n t) k s c) e (snoc (on n t) (i - 1) s a c f.behind r)) m in
          (x.has c r.2, z.has c (y.has c ((v i c h).1 d), q.has c (inr (i, o, h, d, m))))

      -- it can go on, and goes to the least event that leads back to s
      pub fill_goes : (r : Option ℕ) → Found 64 (In go) r → IsSome r
      fill_goes None g = let (c, r, m) = f.ahead in let l = w.has c (no_other c (r, m)) in absurd (g c (in_low go c l) l)
      fill_goes (Some c) g = refl

      pub fill_next : (c : ℕ) → (c < 64) × Least (In go) c → Least (λ x. on n t a x × Walk (on n t) (len - i) x s) c
      fill_next c l = (found_as 64 (In go) _ (λ k m. way k (w.says k m)) (λ k m. w.has k (no_other k m)) c l).1
