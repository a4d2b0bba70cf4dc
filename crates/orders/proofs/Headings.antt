-- The heads of a program that stands in order, found member by member, and its instructions, from each head to the next.
use Prim.Native.Nat.{ℕ, ◌+◌, ◌<◌, ◌≤◌}
use mathlib.Core.Path.{◌≡◌, refl, ap}
use mathlib.Core.Logic.{◌⊎◌, inl, inr, ⊎_elim}
use native.Mathlib.Omega.{arith}
use native.Mathlib.Decide.{ℕ_discrete, dec_lt}
use Rattle.order.specs.Least.{Some, Least}
use Rattle.rows.specs.Members.{In, Is, Member}
use Rattle.rows.specs.declared.Set.{Set}
use Rattle.rows.proofs.Members.{dec_in}
use Rattle.record.specs.Execution.{Execution}
use Rattle.record.specs.declared.Event.{Event}
use Rattle.orders.specs.Programs.{Earliest, Headed}

-- a member of all that is not in `from` any more
abbrev pub Gone : Set → Set → ℕ → Type 0
Gone all from a = In all a × (In from a → ⊥)

-- r has the heads of those, which stand before the others; their indexes are below next, which is past the last head's
pub record Heading (z : Execution) (all from : Set) (next : ℕ) (r : Set) : Type 0 where
  pub part : (a : ℕ) → In from a → In all a
  pub before : (a b : ℕ) → Gone all from a → In from b → a < b
  pub headed : Headed z (Gone all from) r
  pub top : (a : ℕ) → Gone all from a → (z.events.item a).index < next
  pub last : (next ≡ 0) ⊎ ((h : ℕ) × In r h × (next ≡ (z.events.item h).index + 1))

module _ (z : Execution) (all : Set) where
  module _ (from : Set) (next : ℕ) (r : Set) (p : Heading z all from next r) (e : ℕ) (f : Least (In from) e)
      (x : Event) (q : x ≡ z.events.item e) (less : Set) (k : Is less (λ j. In from j × (j ≡ e → ⊥))) where
    here : In from e
    here = f.0

    same : x.index ≡ (z.events.item e).index
    same = ap (λ (y : Event). y.index) q

    out : (b : ℕ) → Gone all less b → Gone all from b ⊎ (b ≡ e)
    out b g = go (ℕ_discrete b e)
      where
        go : Dec (b ≡ e) → Gone all from b ⊎ (b ≡ e)
        go (yes w) = inr w
        go (no w) = inl (g.0, λ h. g.1 (k.has b (h, w)))

    gone : Gone all less e
    gone = (p.part e here, λ l. (k.says e l).1 refl)

    wider : (b : ℕ) → Gone all from b → Gone all less b
    wider b g = (g.0, λ l. g.1 (k.says b l).0)

    later : (b : ℕ) → In less b → e < b
    later b l = go (dec_lt e b)
      where
        go : Dec (e < b) → e < b
        go (yes w) = w
        go (no w) = let i = k.says b l in let d = i.1 in absurd (f.1 b (omega arith) i.0)

    before : (a b : ℕ) → Gone all less a → In less b → a < b
    before a b g l = ⊎_elim (λ w. p.before a b w (k.says b l).0) (λ (w : a ≡ e). let h = later b l in omega arith) (out a g)

    even : ((a : ℕ) → Gone all from a → (z.events.item a).index ≤ x.index)
        → (a b : ℕ) → Gone all less a → Gone all less b → a ≤ b → (z.events.item a).index ≤ (z.events.item b).index
    even low a b g h l = go (out a g) (out b h)
      where
        go : Gone all from a ⊎ (a ≡ e) → Gone all from b ⊎ (b ≡ e) → (z.events.item a).index ≤ (z.events.item b).index
        go (inl v) (inl w) = p.headed.even a b v w l
        go (inl v) (inr w) = rw w (let c = low a v in let d = same in omega arith)
        go (inr v) (inl w) = let c = p.before b e w here in absurd (omega arith)
        go (inr v) (inr w) = rw (v, w) (omega arith)

    rise : (a h : ℕ) → Gone all less a → In r h → a < h → (z.events.item a).index < (z.events.item h).index
    rise a h g m l =
        ⊎_elim
        (λ v. p.headed.rise a h v m l)
        (λ (v : a ≡ e). let c = p.before h e (p.headed.part h m) here in absurd (omega arith))
        (out a g)

    pub heads_more : next ≤ x.index → (one both : Set) → Is one (λ j. j ≡ e) → Is both (λ b. In r b ⊎ In one b)
        → Heading z all less (x.index + 1) both
    heads_more le one both o u = record {
      part = λ a l. p.part a (k.says a l).0;
      before = before;
      headed = record {
        part = λ h m. ⊎_elim (λ v. wider h (p.headed.part h v)) (λ v. let w = o.says h v in rw w gone) (u.says h m);
        even = even (λ a g. let c = p.top a g in omega arith);
        rise = λ a h g m l. ⊎_elim (λ v. rise a h g v l) (λ v. new a h g (o.says h v) l) (u.says h m);
        head = λ b g. ⊎_elim (λ v. old b (p.headed.head b v)) (λ v. own b v) (out b g);
      };
      top = λ a g. ⊎_elim (λ v. let c = p.top a v in omega arith) (λ (v : a ≡ e). rw v (let d = same in omega arith)) (out a g);
      last = inr (e, u.has e (inr (o.has e refl)), ap (λ (i : ℕ). i + 1) same);
    }
      where
        new : (a h : ℕ) → Gone all less a → h ≡ e → a < h → (z.events.item a).index < (z.events.item h).index
        new a h g w l = ⊎_elim (λ v. rw w (let c = p.top a v in let d = same in omega arith)) (λ (v : a ≡ e). absurd (omega arith)) (out a g)

        old : (b : ℕ) → Some (b + 1) (λ h. In r h × ((z.events.item h).index ≡ (z.events.item b).index))
            → Some (b + 1) (λ h. In both h × ((z.events.item h).index ≡ (z.events.item b).index))
        old b (h, l, (m, w)) = (h, l, (u.has h (inl m), w))

        own : (b : ℕ) → b ≡ e → Some (b + 1) (λ h. In both h × ((z.events.item h).index ≡ (z.events.item b).index))
        own b v = rw v (e, omega arith, (u.has e (inr (o.has e refl)), refl))

    pub heads_same : x.index < next → next ≤ x.index + 1 → Heading z all less next r
    heads_same lt le = record {
      part = λ a l. p.part a (k.says a l).0;
      before = before;
      headed = record {
        part = λ h m. wider h (p.headed.part h m);
        even = even (λ a g. let c = p.top a g in omega arith);
        rise = rise;
        head = λ b g. ⊎_elim (λ v. p.headed.head b v) (λ v. own b v p.last) (out b g);
      };
      top = λ a g. ⊎_elim (λ v. p.top a v) (λ (v : a ≡ e). rw v (let d = same in omega arith)) (out a g);
      last = p.last;
    }
      where
        own : (b : ℕ) → b ≡ e → (next ≡ 0) ⊎ ((h : ℕ) × In r h × (next ≡ (z.events.item h).index + 1))
            → Some (b + 1) (λ h. In r h × ((z.events.item h).index ≡ (z.events.item b).index))
        own b v (inl w) = absurd (omega arith)
        own b v (inr (h, m, w)) = rw v (h, (let c = p.before h e (p.headed.part h m) here in omega arith), (m, (let d = same in omega arith)))

  pub heads_done : (from : Set) (next : ℕ) (r : Set) → Heading z all from next r → (Member from → ⊥) → Headed z (In all) r
  heads_done from next r p g = record {
    part = λ h m. (p.headed.part h m).0;
    even = λ a b m n l. p.headed.even a b (m, out a) (n, out b) l;
    rise = λ a h m n l. p.headed.rise a h (m, out a) n l;
    head = λ b m. p.headed.head b (m, out b);
  }
    where
      out : (b : ℕ) → In from b → ⊥
      out b i = g (b, i)

-- ---- from each head to the next

-- the heads ahead are the last of all heads, and rest has the members of own from the last of the other heads on
pub record Ahead (own heads rest ahead : Set) : Type 0 where
  pub part : (h : ℕ) → In ahead h → In heads h
  pub is : Is rest (λ k. In own k × ((h : ℕ) → In heads h → (In ahead h → ⊥) → h ≤ k))

module _ (z : Execution) (own heads : Set) (hd : Headed z (In own) heads) where
  pub ahead_begin : Ahead own heads own heads
  ahead_begin = record { part = λ h m. m; is = record { says = λ k m. (m, λ h n g. absurd (g n)); has = λ k q. q.0 } }

  module _ (rest ahead : Set) (p : Ahead own heads rest ahead) (h : ℕ) (f : Least (In ahead) h)
      (fewer : Set) (k : Is fewer (λ j. In ahead j × (j ≡ h → ⊥))) (low here less : Set) (il : Is low (λ j. j < h))
      (ih : Is here (λ j. In rest j × In low j)) (ir : Is less (λ j. In rest j × (In here j → ⊥))) where
    -- a head before h is not ahead
    behind : (j : ℕ) → j < h → In ahead j → ⊥
    behind j l m = f.1 j l m

    -- what stands before h has the index of the last head before
    pub ahead_here : (e : ℕ) → In here e → Earliest z rest e
    ahead_here e m = let (i, j) = ih.says e m in let o = (p.is.says e i).0 in (i, λ a q. go a q o (il.says e j) (hd.head e o))
      where
        go : (a : ℕ) → In rest a → In own e → e < h → Some (e + 1) (λ g. In heads g × ((z.events.item g).index ≡ (z.events.item e).index))
            → (z.events.item e).index ≤ (z.events.item a).index
        go a q o l (g, lg, (mg, eg)) =
            let (oa, w) = p.is.says a q in
            let u = hd.even g a (hd.part g mg) oa (w g mg (behind g (omega arith))) in
            omega arith

    -- what is left stands at h or later
    past : (j : ℕ) → In less j → h ≤ j
    past j m = go (dec_lt j h)
      where
        go : Dec (j < h) → h ≤ j
        go (yes l) = let (i, g) = ir.says j m in absurd (g (ih.has j (i, il.has j l)))
        go (no l) = omega arith

    pub ahead_first : (a b : ℕ) → In here a → In less b → (z.events.item a).index < (z.events.item b).index
    ahead_first a b m n =
        let (i, j) = ih.says a m in
        let oa = (p.is.says a i).0 in
        let ob = (p.is.says b (ir.says b n).0).0 in
        let mh = p.part h f.0 in
        let u = hd.rise a h oa mh (il.says a j) in
        let v = hd.even h b (hd.part h mh) ob (past b n) in
        omega arith

    pub ahead_more : Ahead own heads less fewer
    ahead_more = record {
      part = λ j m. p.part j (k.says j m).0;
      is = record {
        says = λ j m. let (o, w) = p.is.says j (ir.says j m).0 in (o, λ g mg d. at g mg d j w (past j m) (dec_in ahead g));
        has = λ j (o, w). ir.has j (p.is.has j (o, λ g mg d. w g mg (λ i. d (k.says g i).0)), λ i. out j w (il.says j (ih.says j i).1));
      };
    }
      where
        at : (g : ℕ) → In heads g → (In fewer g → ⊥) → (j : ℕ) → ((c : ℕ) → In heads c → (In ahead c → ⊥) → c ≤ j) → h ≤ j → Dec (In ahead g) → g ≤ j
        at g mg d j w l (no i) = w g mg i
        at g mg d j w l (yes i) = same (ℕ_discrete g h)
          where
            same : Dec (g ≡ h) → g ≤ j
            same (yes e) = omega arith
            same (no e) = absurd (d (k.has g (i, e)))

        out : (j : ℕ) → ((c : ℕ) → In heads c → (In fewer c → ⊥) → c ≤ j) → j < h → ⊥
        out j w l = let u = w h (p.part h f.0) (λ i. (k.says h i).1 refl) in omega arith

  -- what is left after the last head is of one index
  pub ahead_done : (rest ahead : Set) → Ahead own heads rest ahead → (Member ahead → ⊥)
      → (a b : ℕ) → In rest a → In own b → (z.events.item a).index < (z.events.item b).index → ⊥
  ahead_done rest ahead p g a b m n l = go (hd.head b n)
    where
      go : Some (b + 1) (λ h. In heads h × ((z.events.item h).index ≡ (z.events.item b).index)) → ⊥
      go (h, lh, (mh, eh)) =
          let (oa, w) = p.is.says a m in
          let u = hd.even h a (hd.part h mh) oa (w h mh (λ i. g (h, i))) in
          omega arith
