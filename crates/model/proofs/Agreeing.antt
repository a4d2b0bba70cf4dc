-- The rules look only at what is there: executions that say the same have the form, and keep the rules, together.
use Prim.Native.Nat.{ℕ, ◌<◌}
use mathlib.Core.Path.{◌≡◌, sym, ◌∙◌}
use mathlib.Core.Logic.{◌⊎◌, inl, inr, ⊎_map}
use mathlib.Core.List.{List, [], ◌∷◌}
use native.Mathlib.Omega.{arith}
use Rattle.order.specs.Least.{Some, None}
use Rattle.order.specs.Rule.{AllKept}
use Rattle.order.proofs.Searches.{of_from, kept_from}
use Rattle.order.proofs.Rules.{cycle_kept, kept_cycle, cyclic_as, round_as}
use Rattle.record.specs.Execution.{Items, Pair, Execution}
use Rattle.record.specs.Formed.{Each, PairFormed, Formed}
use Rattle.record.specs.Words.{SameInstruction, Belongs, OfLock, Causes, InitialFor}
use Rattle.record.specs.declared.Event.{Event}
use Rattle.structure.specs.Structure.{Joining, Unordered, Eventless, Repeated, structure_rules}
use Rattle.model.specs.Agree.{Alike, AgreeIn, Agree}
use Rattle.model.specs.Model.{Store, Locked, KeepsOrder, Preserved, Before, StoreOrder, LockedOrder, Source, HappensBefore, Sees, OrderFor}
use Rattle.model.specs.Rules.{Misplaced, WriteAndRead, WrongSource, WritesPlace, Overwritten, Unsourced, Initially, WrongInitial, BreaksUp, Torn, order_rules, check_rules}
use Rattle.model.specs.ViewAlone.{Broken, Names}
use Rattle.model.proofs.Bounds.{before_low}
use Rattle.model.proofs.Breaks.{kept_unbroken, unbroken_kept, order_names}
use Rattle.model.proofs.Lists.{Proper}
use Rattle.model.proofs.Serializations.{Stored, kept_stored, stored_kept, Queued, kept_queued, queued_kept}
use Rattle.model.proofs.Views.{Viewed, kept_viewed, viewed_kept}

-- ---- lists

module _ {A : Type 0} (l m : Items A) (g : Alike l m) where
  pub alike_sym : Alike m l
  alike_sym = record { size = sym g.size; item = λ i h. sym (g.item i (rw g.size h)) }

  each_alike : (most : ℕ) (P : A → Type 0) → Each most P l → Each most P m
  each_alike most P f = record {
    within = rw g.size at f.within;
    each = λ i h. let k : i < l.size = rw g.size h in rw (g.item i k) at (f.each i k);
  }

  some_alike : (P : A → Type 0) → Some l.size (λ i. P (l.item i)) → Some m.size (λ i. P (m.item i))
  some_alike P (i, h, q) = (i, rw g.size at h, rw (g.item i h) at q)

  two_alike : (R : A → A → Type 0) → Some l.size (λ j. Some j (λ i. R (l.item i) (l.item j)))
      → Some m.size (λ j. Some j (λ i. R (m.item i) (m.item j)))
  two_alike R (j, h, (i, k, q)) = (j, rw g.size at h, (i, k, rw (g.item i (omega arith), g.item j h) at q))

  none_alike : (P : A → Type 0) → None l.size (λ i. P (l.item i)) → None m.size (λ i. P (m.item i))
  none_alike P n i h q = let k : i < l.size = rw g.size h in n i k (rw (g.item i k) q)

pub before_alike : (l m : Items ℕ) → Alike l m → (a b : ℕ) → Before l a b → Before m a b
before_alike l m g a b q = two_alike l m g (λ c d. (c ≡ a) × (d ≡ b)) q

pub misplaced_alike : (D E : Type 0) (l m : Items ℕ) (e : ℕ) → (D → E) → (E → D) → Alike l m → Misplaced D l e → Misplaced E m e
unfolding Misplaced
misplaced_alike D E l m e t u g (inl (d, n)) = inl (t d, λ s. n (some_alike m l (alike_sym l m g) (λ a. a ≡ e) s))
misplaced_alike D E l m e t u g (inr (inl (n, s))) = inr (inl (λ d. n (u d), some_alike l m g (λ a. a ≡ e) s))
misplaced_alike D E l m e t u g (inr (inr b)) = inr (inr (before_alike l m g e e b))

pub proper_alike : (D E : ℕ → Type 0) (l m : Items ℕ) → ((e : ℕ) → D e → E e) → ((e : ℕ) → E e → D e) → Alike l m → Proper l D → Proper m E
proper_alike D E l m t u g p =
    let b = alike_sym l m g in
    record {
      stands = λ e q. some_alike l m g (λ a. a ≡ e) (p.stands e (u e q));
      due = λ e q. t e (p.due e (some_alike m l b (λ a. a ≡ e) q));
      single = λ e q. p.single e (before_alike m l b e e q);
    }

-- ---- the form, and the words of the rules

-- turned round, in the same views or in fewer
turned : (S T : ℕ → Type 0) (x y : Execution) → ((p : ℕ) → T p → S p) → AgreeIn S x y → AgreeIn T y x
turned S T x y f g = record {
  processors = sym g.processors;
  events = alike_sym _ _ g.events;
  causes = alike_sym _ _ g.causes;
  locks = alike_sym _ _ g.locks;
  initials = alike_sym _ _ g.initials;
  stores = alike_sym _ _ g.stores;
  lock_order = alike_sym _ _ g.lock_order;
  sources = alike_sym _ _ g.sources;
  view = λ p h. alike_sym _ _ (g.view p (f p h));
}

pub agree_sym : (x y : Execution) → Agree x y → Agree y x
agree_sym x y g = turned _ _ x y (λ p h. rw g.processors h) g

module _ (x y : Execution) (g : Agree x y) where
  pub formed_agree : Formed x → Formed y
  formed_agree f = record {
    processors = rw g.processors at f.processors;
    events = rw g.processors at (each_alike _ _ g.events _ _ f.events);
    causes = rw g.events.size at (each_alike _ _ g.causes _ _ f.causes);
    locks = rw g.processors at (each_alike _ _ g.locks _ _ f.locks);
    stores = rw g.events.size at (each_alike _ _ g.stores _ _ f.stores);
    lock_order = rw g.locks.size at (each_alike _ _ g.lock_order _ _ f.lock_order);
    sources = rw g.events.size at (each_alike _ _ g.sources _ _ f.sources);
    view = λ p h.
        let k : p < x.processors = rw g.processors h in
        rw g.events.size at (each_alike _ _ (g.view p k) _ _ (f.view p k));
  }

module _ {S : ℕ → Type 0} (x y : Execution) (g : AgreeIn S x y) where
  causes_agree : (a b : ℕ) → Causes x a b → Causes y a b
  unfolding Causes
  causes_agree a b q = some_alike _ _ g.causes (λ c. (c.from ≡ a) × (c.to ≡ b)) q

  source_agree : (a b : ℕ) → Source x a b → Source y a b
  unfolding Source
  source_agree a b q = some_alike _ _ g.sources (λ c. (c.from ≡ a) × (c.to ≡ b)) q

  event_agree : (P : Event → Type 0) (e : ℕ) → (e < x.events.size) × P (x.events.item e) → (e < y.events.size) × P (y.events.item e)
  event_agree P e (h, q) = (rw g.events.size at h, rw (g.events.item e h) at q)

  sees_agree : (p e : ℕ) → Sees x p e → Sees y p e
  sees_agree p e q = event_agree (λ u. (u.processor ≡ p) ⊎ Store u) e q

-- ---- what breaks a rule in x breaks it in y; a rule about a view, where they agree in that view

module _ {S : ℕ → Type 0} (x y : Execution) (g : AgreeIn S x y) (f : Formed x) where
  back : AgreeIn S y x
  back = turned S S x y (λ p h. h) g

  -- an entry of a list of pairs, whose events are not as R says
  pair_agree : (R : Event → Event → Type 0) (most : ℕ) (l m : Items Pair) → Alike l m → Each most (PairFormed x.events.size) l
      → (i : ℕ) → (i < l.size) × (R (x.events.item (l.item i).from) (x.events.item (l.item i).to) → ⊥)
      → (i < m.size) × (R (y.events.item (m.item i).from) (y.events.item (m.item i).to) → ⊥)
  pair_agree R most l m t c i (h, n) =
      let (ha, hb) = c.each i h in
      (rw t.size at h, rw (g.events.item _ ha, g.events.item _ hb, t.item i h) at n)

  -- 10
  joining_agree : (i : ℕ) → Joining x i → Joining y i
  unfolding Joining
  joining_agree i q = pair_agree SameInstruction _ _ _ g.causes f.causes i q

  -- 12
  unordered_agree : (a b : ℕ) → Unordered x a b → Unordered y a b
  unfolding Unordered
  unordered_agree a b (l, h, i, r, w, n, m) =
      let ea = g.events.item a (omega arith) in
      let eb = g.events.item b h in (
        l,
        rw g.events.size at h,
        rw (ea, eb) at i,
        rw (ea, eb) at r,
        rw (ea, eb) at w,
        λ q. n (causes_agree y x back a b q),
        λ q. m (causes_agree y x back b a q),
      )

  -- 13
  eventless_agree : (i : ℕ) → Eventless x i → Eventless y i
  unfolding Eventless
  eventless_agree i (h, n) =
      (rw g.locks.size at h, none_alike _ _ g.events (λ u. Belongs u (y.locks.item i)) (rw (g.locks.item i h) at n))

  -- 14
  repeated_agree : (i : ℕ) → Repeated x i → Repeated y i
  unfolding Repeated
  repeated_agree i (h, (j, k, e)) = (rw g.locks.size at h, (j, k, sym (g.locks.item j (omega arith)) ∙ e ∙ g.locks.item i h))

  -- 20
  viewed_back : ((p : ℕ) → p < x.processors → S p) → Viewed y → Viewed x
  viewed_back all v p h =
      let k : p < y.processors = rw g.processors at h in
      proper_alike _ _ _ _ (sees_agree y x back p) (sees_agree x y g p) (back.view p (all p h)) (v p k)

  -- 21
  stored_back : Stored y → Stored x
  stored_back v = proper_alike _ _ _ _ (event_agree y x back Store) (event_agree x y g Store) back.stores v

  -- 22
  queued_back : Queued y → Queued x
  queued_back v = proper_alike _ _ _ _ (λ i h. rw g.locks.size h) (λ i h. rw g.locks.size at h) back.lock_order v

  -- 23
  wrong_agree : (i : ℕ) → WrongSource x i → WrongSource y i
  unfolding WrongSource
  wrong_agree i q = pair_agree WriteAndRead _ _ _ g.sources f.sources i q

  -- 24
  locked_agree : (e : ℕ) → e < x.events.size → Locked x e → Locked y e
  unfolding Locked
  locked_agree e h q = some_alike _ _ g.locks (Belongs (y.events.item e)) (rw (g.events.item e h) at q)

  keeps_agree : (a b : ℕ) → a < x.events.size → b < x.events.size → KeepsOrder x a b → KeepsOrder y a b
  unfolding KeepsOrder
  keeps_agree a b ha hb q =
      let o = rw (g.events.item a ha, g.events.item b hb) at q in
      ⊎_map
      (λ s. s)
      (⊎_map (λ s. s) (⊎_map (λ s. s) (⊎_map (λ s. s) (⊎_map (λ s. s) (⊎_map (λ (m, l). (m, locked_agree b hb l)) (λ (l, m). (locked_agree a ha l, m)))))))
      o

  happens_agree : (a b : ℕ) → HappensBefore x a b → HappensBefore y a b
  unfolding HappensBefore
  happens_agree a b q = ⊎_map (causes_agree x y g a b) (⊎_map preserved (⊎_map stores (⊎_map locks (source_agree x y g a b)))) q
    where
      preserved : Preserved x a b → Preserved y a b
      preserved (ha, hb, (e, k)) = (
        rw g.events.size at ha,
        rw g.events.size at hb,
        (rw (g.events.item a ha, g.events.item b hb) at e, keeps_agree a b ha hb k),
      )

      stores : StoreOrder x a b → StoreOrder y a b
      stores (o, s) =
          let (ha, hb) = before_low _ _ f.stores.each a b o in
          (before_alike _ _ g.stores a b o, rw (g.events.item a ha, g.events.item b hb) at s)

      of : (i e : ℕ) → i < x.locks.size → OfLock x i e → OfLock y i e
      of i e l o = event_agree x y g (λ u. Belongs u (y.locks.item i)) e (rw (g.locks.item i l) at o)

      locks : LockedOrder x a b → LockedOrder y a b
      locks (j, h, (i, k, (r, s))) =
          two_alike _ _ g.lock_order (λ c d. OfLock y c a × OfLock y d b)
          (j, h, (i, k, (of _ a (f.lock_order.each i (omega arith)) r, of _ b (f.lock_order.each j h) s)))

  order_agree : (p : ℕ) → S p → (a b : ℕ) → OrderFor x p a b → OrderFor y p a b
  order_agree p v a b q = ⊎_map (before_alike _ _ (g.view p v) a b) (happens_agree a b) q

  -- 25
  place_agree : (a b : ℕ) → a < x.events.size → b < x.events.size → WritesPlace x a b → WritesPlace y a b
  place_agree a b ha hb q = rw (g.events.item a ha, g.events.item b hb) at q

  overwritten_agree : (p : ℕ) → S p → (w r e : ℕ) → Overwritten x p w r e → Overwritten y p w r e
  unfolding Overwritten
  overwritten_agree p v w r e (h, s, (a, b), n, q, c, d) = (
    rw g.processors at h,
    source_agree x y g w r s,
    (sees_agree x y g p w a, sees_agree x y g p r b),
    n,
    place_agree e r (before_low _ _ (f.view p h).each e r d).0 b.0 q,
    before_alike _ _ (g.view p v) w e c,
    before_alike _ _ (g.view p v) e r d,
  )

  -- 26
  unsourced_agree : (p r : ℕ) → Unsourced x p r → Unsourced y p r
  unsourced_agree p r (h, s, d, n) = (
    rw g.processors at h,
    sees_agree x y g p r s,
    rw (g.events.item r s.0) at d,
    λ w o. n w (source_agree y x back w r o),
  )

  initial_agree : (p : ℕ) → S p → (w : List ℕ) → WrongInitial x (p ∷ w) → WrongInitial y (p ∷ w)
  unfolding WrongInitial
  initial_agree p h [] q = q
  initial_agree p h (r ∷ []) q = q
  initial_agree p h (r ∷ code ∷ []) (u, q) =
      let o = rw (g.events.item r u.1.0) at q in (
        unsourced_agree p r u,
        ⊎_map
            (λ (c, n). (c, none_alike _ _ g.initials (InitialFor (y.events.item r)) n))
            (λ (c, (v, i, d)). (c, (v, initially v i, d)))
            o,
      )
    where
      initially : (v : ℕ) → Initially x (y.events.item r) v → Initially y (y.events.item r) v
      initially v (i, h, (a, n, e)) = (
        i,
        rw g.initials.size at h,
        (
          rw (g.initials.item i h) at a,
          λ j k b. n j k (rw (g.initials.item j (omega arith)) b),
          rw (g.initials.item i h) at e,
        ),
      )
  initial_agree p h (r ∷ code ∷ a ∷ []) (u, c, q, b) = (
    unsourced_agree p r u,
    c,
    place_agree a r (before_low _ _ (f.view p u.0).each a r b).0 u.1.0 q,
    before_alike _ _ (g.view p h) a r b,
  )
  initial_agree p h (r ∷ code ∷ a ∷ b ∷ w) q = q

  -- 27
  torn_agree : (p : ℕ) → S p → (a e b : ℕ) → Torn x p a e b → Torn y p a e b
  unfolding Torn BreaksUp
  torn_agree p v a e b (h, (l, s, n, c, d)) =
      let (ha, he) = before_low _ _ (f.view p h).each a e c in
      let hb = (before_low _ _ (f.view p h).each e b d).1 in (
        rw g.processors at h,
        (
          locked_agree a ha l,
          rw (g.events.item a ha, g.events.item b hb) at s,
          rw (g.events.item a ha, g.events.item e he) at n,
          before_alike _ _ (g.view p v) a e c,
          before_alike _ _ (g.view p v) e b d,
        ),
      )

  -- 24 to 27: what names p
  pub broken_agree : (p : ℕ) → S p → (n : ℕ) (w e : List ℕ) → Names w p → Broken (order_rules x) n w e → Broken (order_rules y) n w e
  broken_agree p v n [] e i b = absurd i
  broken_agree p v n (q ∷ w) e i b =
      let h : S q = rw i at v in
      ⊎_map
      (λ (o, (l, r), s). (o, (rw g.processors at l, round_as _ _ (order_agree q h) w r), s))
      (⊎_map
      (λ (o, r, s). (o, of_from 3 (Overwritten y q) (Overwritten x q) (overwritten_agree q h) w r, s))
      (⊎_map
      (λ (o, r, s). (o, initial_agree q h w r, s))
      (⊎_map (λ (o, r, s). (o, of_from 3 (Torn y q) (Torn x q) (torn_agree q h) w r, s)) (λ r. r))))
      b

-- so what y keeps, x keeps
module _ (x y : Execution) (g : Agree x y) (f : Formed x) where
  structure_back : AllKept (structure_rules y) → AllKept (structure_rules x)
  structure_back (k10, (k11, (k12, (k13, (k14, t))))) = (
    kept_from 1 (Joining y) (Joining x) (joining_agree x y g f) k10,
    (
      cycle_kept _ 11 (λ c. kept_cycle _ 11 k11 (cyclic_as (Causes x) (Causes y) (causes_agree x y g) c)),
      (
        kept_from 2 (Unordered y) (Unordered x) (unordered_agree x y g f) k12,
        (kept_from 1 (Eventless y) (Eventless x) (eventless_agree x y g f) k13, (kept_from 1 (Repeated y) (Repeated x) (repeated_agree x y g f) k14, tt)),
      ),
    ),
  )

  order_back : AllKept (order_rules y) → AllKept (order_rules x)
  order_back k = unbroken_kept (order_rules x) (λ n w e b.
      let (p, h, i, j) = order_names x n w e b in kept_unbroken (order_rules y) k n w e (broken_agree x y g f p h n w e i b))

  check_back : AllKept (check_rules y) → AllKept (check_rules x)
  check_back (k20, (k21, (k22, (k23, k)))) = (
    viewed_kept x (viewed_back x y g f (λ p h. h) (kept_viewed y k20)),
    (
      stored_kept x (stored_back x y g f (kept_stored y k21)),
      (
        queued_kept x (queued_back x y g f (kept_queued y k22)),
        (kept_from 1 (WrongSource y) (WrongSource x) (wrong_agree x y g f) k23, order_back k),
      ),
    ),
  )

module _ (x y : Execution) (g : Agree x y) (f : Formed x) where
  pub structure_agree : AllKept (structure_rules x) → AllKept (structure_rules y)
  structure_agree = structure_back y x (agree_sym x y g) (formed_agree x y g f)

  pub check_agree : AllKept (check_rules x) → AllKept (check_rules y)
  check_agree = check_back y x (agree_sym x y g) (formed_agree x y g f)
