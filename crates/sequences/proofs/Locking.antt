-- The locked order that is read off: each locked entry once, in the order of their first events.
use Prim.Native.Nat.{ℕ, zero, suc, ◌+◌, ◌<◌, ◌≤◌}
use mathlib.Core.Path.{◌≡◌, refl, sym, ap, ap₂, ◌∙◌, subst}
use mathlib.Core.Logic.Dec
use mathlib.Core.Logic.{◌⊎◌, inl, inr, ⊎_elim}
use mathlib.Core.Bool.{Bool, true, false, ◌&&◌, not}
use mathlib.Core.List.{List, [], ◌∷◌, ◌++◌}
use lib.ListN.{length}
use native.Mathlib.Omega.{arith}
use native.Mathlib.Decide.{ℕ_discrete, dec_lt}
use Rattle.order.specs.Least.{Some, None, Least}
use Rattle.order.specs.Decides.{Decides}
use Rattle.order.proofs.Numbers.{last_or, first, least_unique}
use Rattle.order.proofs.Tests.{by_or, by_and, by_not, by_as, by_no}
use Rattle.record.specs.Execution.{Execution}
use Rattle.record.specs.Words.{Belongs, OfLock}
use Rattle.structure.specs.Structure.{Eventless, Repeated}
use Rattle.model.specs.Model.{Locked, Before, LockedOrder}
use Rattle.model.specs.Rules.{BreaksUp}
use Rattle.model.proofs.Lists.{Proper, before_ends}
use Rattle.sequences.specs.Sequence.{steps, BrokenUp}
use Rattle.sequences.specs.ReadOff.{choose, event, of_entry, any_of, entries_at, locks_from, read_off}
use Rattle.sequences.proofs.Members.{Member, Ahead, some_has, has_some, has_or, has_left, has_right, before_ahead, ahead_or}
use Rattle.sequences.proofs.Pasts.{Past, Rest, rest_all, past_next}
use Rattle.sequences.proofs.Tests.{entry_decides}

module _ (z : Execution) (l : List ℕ) where
  abbrev at : ℕ → ℕ
  at = (steps l).item

  -- entry i names the instruction of e
  abbrev Names : ℕ → ℕ → Type 0
  Names i e = Belongs (event z e) (z.locks.item i)

  -- that of the event at place k
  abbrev pub Of : ℕ → ℕ → Type 0
  Of i k = Names i (at k)

  -- entries that share an event are one
  pub shared : ((i : ℕ) → Repeated z i → ⊥) → (i j e : ℕ) → i < z.locks.size → j < z.locks.size → Names i e → Names j e → i ≡ j
  unfolding Repeated
  shared repeats i j e h g (p, q) (r, s) = go (dec_lt i j) (dec_lt j i)
    where
      go : Dec (i < j) → Dec (j < i) → i ≡ j
      go (yes n) d = absurd (repeats j (g, (i, n, ap₂ (λ (p a : ℕ). record { processor = p; index = a }) (sym p ∙ r) (sym q ∙ s))))
      go (no n) (yes m) = absurd (repeats i (h, (j, m, ap₂ (λ (p a : ℕ). record { processor = p; index = a }) (sym r ∙ p) (sym s ∙ q))))
      go (no n) (no m) = omega arith

  any_decides : (i c : ℕ) (e : List ℕ) → Past at c e → Decides (any_of z i e) (Some c (Of i))
  unfolding any_of
  any_decides i c [] p = by_no (λ s. let h = s.1 in omega arith)
  any_decides i c (x ∷ e) (k, n, q, p) = by_as _ to from (by_or _ _ (entry_decides z i x) (any_decides i k e p))
    where
      to : Names i x ⊎ Some k (Of i) → Some c (Of i)
      to (inl b) = (k, omega arith, subst (Names i) (sym q) b)
      to (inr (m, h, b)) = (m, omega arith, b)

      from : Some c (Of i) → Names i x ⊎ Some k (Of i)
      from (m, h, b) =
          ⊎_elim
          (λ (d : m ≡ k). inl (subst (Names i) (ap at d ∙ q) b))
          (λ g. inr (m, g, b))
          (last_or k m (omega arith))

  -- the entries whose first event stands at place c
  module _ (c x : ℕ) (e : List ℕ) (p : Past at c e) (q : at c ≡ x) where
    pub first_decides : (i : ℕ) → Decides (of_entry z i x && not (any_of z i e)) (Least (Of i) c)
    first_decides i =
        by_as _
        (λ (b, f). (subst (Names i) (sym q) b, λ k h o. f (k, h, o)))
        (λ (b, f). (subst (Names i) q b, λ (k, h, o). f k h o))
        (by_and _ _ (entry_decides z i x) (by_not _ (any_decides i c e p)))

    entries_member : (i n : ℕ) → Member i (entries_at z n e x) → (i < n) × Least (Of i) c
    unfolding entries_at
    entries_member i zero h = absurd h
    entries_member i (suc n) h = go (entries_member i n) _ (first_decides n) h
      where
        go : (Member i (entries_at z n e x) → (i < n) × Least (Of i) c) → (b : Bool) → Decides b (Least (Of n) c)
            → Member i (choose b (n ∷ entries_at z n e x) (entries_at z n e x)) → (i < suc n) × Least (Of i) c
        go rest true d (inl r) = (omega arith, subst (λ (j : ℕ). Least (Of j) c) r (d.holds refl))
        go rest true d (inr m) = let (g, s) = rest m in (omega arith, s)
        go rest false d m = let (g, s) = rest m in (omega arith, s)

    member_entries : (i n : ℕ) → i < n → Least (Of i) c → Member i (entries_at z n e x)
    unfolding entries_at
    member_entries i zero h s = absurd (omega arith)
    member_entries i (suc n) h s = go (last_or n i h) (λ g. member_entries i n g s) _ (first_decides n)
      where
        go : (i ≡ n) ⊎ (i < n) → (i < n → Member i (entries_at z n e x)) → (b : Bool) → Decides b (Least (Of n) c)
            → Member i (choose b (n ∷ entries_at z n e x) (entries_at z n e x))
        go (inl r) rest true d = inl (sym r)
        go (inl r) rest false d = absurd (d.fails refl (subst (λ (j : ℕ). Least (Of j) c) r s))
        go (inr g) rest true d = inr (rest g)
        go (inr g) rest false d = rest g

    entries_ahead : (i j n : ℕ) → Ahead i j (entries_at z n e x) → (j < i) × Least (Of i) c × Least (Of j) c
    unfolding entries_at
    entries_ahead i j zero h = absurd h
    entries_ahead i j (suc n) h = go (entries_ahead i j n) (entries_member j n) _ (first_decides n) h
      where
        go : (Ahead i j (entries_at z n e x) → (j < i) × Least (Of i) c × Least (Of j) c) → (Member j (entries_at z n e x) → (j < n) × Least (Of j) c)
            → (b : Bool) → Decides b (Least (Of n) c)
            → Ahead i j (choose b (n ∷ entries_at z n e x) (entries_at z n e x)) → (j < i) × Least (Of i) c × Least (Of j) c
        go rest has true d (inl (r, m)) = let (g, s) = has m in (omega arith, subst (λ (k : ℕ). Least (Of k) c) r (d.holds refl), s)
        go rest has true d (inr m) = rest m
        go rest has false d m = rest m

  -- the list of them all
  locks_member : (i c : ℕ) (e m : List ℕ) → Past at c e → Rest at c m → Member i (locks_from z e m)
      → (i < z.locks.size) × ((k : ℕ) × (c ≤ k) × Least (Of i) k)
  unfolding locks_from
  locks_member i c e [] p s h = absurd h
  locks_member i c e (x ∷ m) p (q, s) h =
      ⊎_elim
      (λ g. let (u, v) = entries_member c x e p q i z.locks.size g in (u, (c, omega arith, v)))
      (λ g. let (u, (k, o, v)) = locks_member i (suc c) (x ∷ e) m (past_next at c x e p q) s g in (u, (k, omega arith, v)))
      (has_or _ (entries_at z z.locks.size e x) (locks_from z (x ∷ e) m) h)

  member_locks : (i c k : ℕ) (e m : List ℕ) → Past at c e → Rest at c m → c ≤ k → k < c + length m → i < z.locks.size → Least (Of i) k
      → Member i (locks_from z e m)
  unfolding locks_from
  member_locks i c k e [] p s h g o f = absurd (omega arith)
  member_locks i c k e (x ∷ m) p (q, s) h g o f = go (dec_lt c k) (λ n. member_locks i (suc c) k (x ∷ e) m (past_next at c x e p q) s n (omega arith) o f)
    where
      go : Dec (c < k) → (suc c ≤ k → Member i (locks_from z (x ∷ e) m)) → Member i (entries_at z z.locks.size e x ++ locks_from z (x ∷ e) m)
      go (yes n) rest = has_right _ (entries_at z z.locks.size e x) (locks_from z (x ∷ e) m) (rest n)
      go (no n) rest =
          let d : k ≡ c = omega arith in
          has_left _ (entries_at z z.locks.size e x) (locks_from z (x ∷ e) m)
          (member_entries c x e p q i z.locks.size o (subst (Least (Of i)) d f))

  -- the first event of i stands ahead of that of j, or it is the same and j is less
  abbrev Sooner : ℕ → ℕ → Type 0
  Sooner i j = (k : ℕ) × (m : ℕ) × Least (Of i) k × Least (Of j) m × ((k < m) ⊎ ((k ≡ m) × (j < i)))

  locks_ahead : (i j c : ℕ) (e m : List ℕ) → Past at c e → Rest at c m → Ahead i j (locks_from z e m) → Sooner i j
  unfolding locks_from
  locks_ahead i j c e [] p s h = absurd h
  locks_ahead i j c e (x ∷ m) p (q, s) h = go (ahead_or i j (entries_at z z.locks.size e x) (locks_from z (x ∷ e) m) h) (locks_ahead i j (suc c) (x ∷ e) m (past_next at c x e p q) s)
    where
      go : Ahead i j (entries_at z z.locks.size e x)
          ⊎ ((Member i (entries_at z z.locks.size e x) × Member j (locks_from z (x ∷ e) m)) ⊎ Ahead i j (locks_from z (x ∷ e) m))
          → (Ahead i j (locks_from z (x ∷ e) m) → Sooner i j) → Sooner i j
      go (inl a) rest = let (g, u, v) = entries_ahead c x e p q i j z.locks.size a in (c, c, u, v, inr (refl, g))
      go (inr (inl (a, b))) rest =
          let (g, u) = entries_member c x e p q i z.locks.size a in
          let (o, (k, n, v)) = locks_member j (suc c) (x ∷ e) m (past_next at c x e p q) s b in
          (c, k, u, v, inl (omega arith))
      go (inr (inr a)) rest = rest a

  before_sooner : (i j : ℕ) → Before (steps (locks_from z [] l)) i j → Sooner i j
  before_sooner i j q = locks_ahead i j 0 [] l refl (rest_all l) (before_ahead i j (locks_from z [] l) q)

  module _ (full : Proper (steps l) (λ e. e < z.events.size)) (some : (i : ℕ) → Eventless z i → ⊥) where
    eventless : (i : ℕ) → i < z.locks.size → None (length l) (Of i) → ⊥
    unfolding Eventless
    eventless i h f =
        some i (h, λ e g b. let (k, o, d) = full.stands e g in f k o (subst (Names i) (sym d) b))

    -- each entry is listed once
    pub locks_proper : Proper (steps (locks_from z [] l)) (λ i. i < z.locks.size)
    locks_proper = record {
      stands = λ i h. stands i h (first (Of i) (λ k. Dec.and (ℕ_discrete _ _) (ℕ_discrete _ _)) (length l));
      due = λ i s. (locks_member i 0 [] l refl (rest_all l) (some_has _ 0 (locks_from z [] l) s)).0;
      single = λ i q. single i (before_sooner i i q);
    }
      where
        stands : (i : ℕ) → i < z.locks.size → Some (length l) (Least (Of i)) ⊎ None (length l) (Of i) → Some (length (locks_from z [] l)) (λ k. (steps (locks_from z [] l)).item k ≡ i)
        stands i h (inl (k, g, f)) = has_some _ 0 (locks_from z [] l) (member_locks i 0 k [] l refl (rest_all l) (omega arith) (omega arith) h f)
        stands i h (inr f) = absurd (eventless i h f)

        single : (i : ℕ) → Sooner i i → ⊥
        single i (k, m, u, v, inl g) = let d = least_unique (Of i) k m u v in omega arith
        single i (k, m, u, v, inr (d, g)) = omega arith

    module _ (repeats : (i : ℕ) → Repeated z i → ⊥) (unbroken : (a x b : ℕ) → BrokenUp z l a x b → ⊥) where
      -- the events of an entry stand together: those of i ahead of those of j, if its first does
      apart : (i j k m a b : ℕ) → i < z.locks.size → j < z.locks.size → Least (Of i) k → Least (Of j) m → k < m → OfLock z i a → OfLock z j b
          → Before (steps l) a b
      unfolding BreaksUp Locked
      apart i j k m a b hi hj u v o (ha, oa) (hb, ob) = go (full.stands a ha) (full.stands b hb)
        where
          never : (c : ℕ) → Of i c → Of j c → ⊥
          never c p q = let e : j ≡ i = sym (shared repeats i j (at c) hi hj p q) in let d = least_unique (Of i) k m u (subst (λ (n : ℕ). Least (Of n) m) e v) in omega arith

          of : (n y c : ℕ) → at c ≡ y → Names n y → Of n c
          of n y c e p = subst (Names n) (sym e) p

          go : Some (length l) (λ c. at c ≡ a) → Some (length l) (λ c. at c ≡ b) → Before (steps l) a b
          go (pa, la, ea) (pb, lb, eb) = by (dec_lt pa pb) (dec_lt pb m) (dec_lt pb pa)
            where
              by : Dec (pa < pb) → Dec (pb < m) → Dec (pb < pa) → Before (steps l) a b
              by (yes n) d c = (pb, lb, (pa, n, (ea, eb)))
              by (no n) (yes d) c = absurd (v.1 pb d (of j b pb eb ob))
              by (no n) (no d) (no c) =
                  let e : pa ≡ pb = omega arith in absurd (never pb (subst (Of i) e (of i a pa ea oa)) (of j b pb eb ob))
              by (no n) (no d) (yes c) =
                  absurd (unbroken (at k) b a (
                    (i, hi, u.0),
                    (u.0.0 ∙ sym oa.0, u.0.1 ∙ sym oa.1),
                    λ (p, q). never pb (of i b pb eb (sym p ∙ u.0.0, sym q ∙ u.0.1)) (of j b pb eb ob),
                    (pb, lb, (k, omega arith, (refl, eb))),
                    (pa, la, (pb, c, (eb, ea))),
                  ))

      pub locked_along : (a b : ℕ) → LockedOrder (read_off z l) a b → Before (steps l) a b
      locked_along a b (n, hn, (m, hm, (p, q))) = go _ _ p q (n, hn, (m, hm, (refl, refl)))
        where
          go : (i j : ℕ) → OfLock z i a → OfLock z j b → Before (steps (locks_from z [] l)) i j → Before (steps l) a b
          go i j p q s = by (before_sooner i j s)
            where
              hi : i < z.locks.size
              hi = locks_proper.due i (before_ends _ i j s).0

              hj : j < z.locks.size
              hj = locks_proper.due j (before_ends _ i j s).1

              by : Sooner i j → Before (steps l) a b
              by (k, m, u, v, inl g) = apart i j k m a b hi hj u v g p q
              by (k, m, u, v, inr (d, g)) =
                  let e = shared repeats i j (at k) hi hj u.0 (subst (Of j) (sym d) v.0) in absurd (omega arith)
