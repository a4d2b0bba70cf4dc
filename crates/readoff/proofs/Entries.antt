-- The locked order that is written: an event is of one entry at most, and the entries that are left are those of which no event stood yet.
use Prim.Native.Nat.{ℕ, zero, suc, ◌+◌, ◌-◌, ◌<◌, ◌≤◌}
use mathlib.Core.Path.{◌≡◌, refl, ap, ◌∙◌, subst}
use mathlib.Core.Logic.{◌⊎◌, inl, inr}
use mathlib.Core.Bool.{Bool, true, false}
use mathlib.Core.List.{List, [], ◌∷◌, ◌++◌}
use lib.ListN.{length, set, drop, drop_of_length-le}
use lib.Seq.{drop-cons}
use native.Mathlib.Omega.{arith}
use Rattle.order.specs.Decides.{Decides}
use Rattle.std.specs.Prelude.{EachIndex}
use Rattle.order.specs.Least.{Some, None, Least}
use Rattle.order.proofs.Numbers.{last_or}
use Rattle.order.proofs.Searches.{none_next}
use Rattle.rows.specs.Members.{In, Is}
use Rattle.rows.specs.Table.{rel}
use Rattle.rows.specs.declared.Set.{Set}
use Rattle.form.specs.Bytes.{two_bytes, counted}
use Rattle.record.specs.Execution.{Execution}
use Rattle.record.specs.Words.{OfLock}
use Rattle.facts.specs.Facts.{Entered}
use Rattle.structure.specs.Structure.{Repeated}
use Rattle.sequences.specs.Sequence.{steps}
use Rattle.sequences.specs.ReadOff.{choose, entries_at, locks_from}
use Rattle.sequences.proofs.Pasts.{Past, past_next}
use Rattle.sequences.proofs.Locking.{Of, first_decides, shared}
use Rattle.lent.specs.Put.{Put, PutTo}
use Rattle.readoff.proofs.Parts.{Part, part_none, part_more, part_ends, part_done}

-- the entries whose first event stands at place c
module _ (z : Execution) (l : List ℕ) (c x : ℕ) (e : List ℕ) (p : Past (steps l).item c e) (q : (steps l).item c ≡ x) where
  none_here : (n : ℕ) → None n (λ i. Least (Of z l i) c) → entries_at z n e x ≡ []
  unfolding entries_at
  none_here zero f = refl
  none_here (suc n) f = go _ (first_decides z l c x e p q n) (none_here n (λ k h. f k (omega arith)))
    where
      go : (b : Bool) → Decides b (Least (Of z l n) c) → entries_at z n e x ≡ [] → choose b (n ∷ entries_at z n e x) (entries_at z n e x) ≡ []
      go true d r = absurd (f n (omega arith) (d.holds refl))
      go false d r = r

  one_here : (j n : ℕ) → j < n → Least (Of z l j) c → ((i : ℕ) → i < n → Least (Of z l i) c → i ≡ j) → entries_at z n e x ≡ j ∷ []
  unfolding entries_at
  one_here j zero h s u = absurd (omega arith)
  one_here j (suc n) h s u =
      go
      (last_or n j h)
      (λ m. none_here n (λ k g o. let d = u k (omega arith) o in omega arith))
      (λ g. one_here j n g s (λ i o. u i (omega arith)))
      _
      (first_decides z l c x e p q n)
    where
      go : (j ≡ n) ⊎ (j < n) → (j ≡ n → entries_at z n e x ≡ []) → (j < n → entries_at z n e x ≡ j ∷ []) → (b : Bool) → Decides b (Least (Of z l n) c)
          → choose b (n ∷ entries_at z n e x) (entries_at z n e x) ≡ j ∷ []
      go (inl m) here rest true d = rw (here m, m) refl
      go (inl m) here rest false d = absurd (d.fails refl (subst (λ (i : ℕ). Least (Of z l i) c) m s))
      go (inr g) here rest true d = let m = u n (omega arith) (d.holds refl) in absurd (omega arith)
      go (inr g) here rest false d = rest g

-- what is known while the locked order is written: the rows of the entries, no entry twice, and a list of events
pub record Locks (z : Execution) (l k : List ℕ) (g : ℕ) (locked : Set) : Type 0 where
  pub entered : Entered z k
  pub size : g ≡ z.locks.size
  pub all : Is locked (λ e. Some z.locks.size (λ i. OfLock z i e))
  pub repeats : (i : ℕ) → Repeated z i → ⊥
  pub low : EachIndex l (λ i. (steps l).item i < z.events.size)

-- before step i: the entries so far are written, and `left` has the events of the others
pub record Listing (z : Execution) (l before : List ℕ) (at : ℕ) (out : List ℕ) (left : Set) (to i : ℕ) : Type 0 where
  pub past : List ℕ
  pub stood : Past (steps l).item i past
  pub part : Part before at out to (locks_from z past (drop i l)) (locks_from z [] l)
  pub rest : Is left (λ e. Some z.locks.size (λ j. OfLock z j e × None i (Of z l j)))

module _ (z : Execution) (l k : List ℕ) (g : ℕ) (locked : Set) (q : Locks z l k g locked) (before : List ℕ) (at : ℕ) where
  pub listing_begin : at + 2 ≤ length before → Listing z l before at before locked (at + 2) 0
  listing_begin h = record {
    past = [];
    stood = refl;
    part = part_none before (locks_from z [] l) at h;
    rest = record {
      says = λ e m. let (j, h, o) = q.all.says e m in (j, h, (o, λ i g. absurd (omega arith)));
      has = λ e (j, h, (o, f)). q.all.has e (j, h, o);
    };
  }

  module _ (out : List ℕ) (left : Set) (to i : ℕ) (w : Listing z l before at out left to i) (h : i < length l) where
    abbrev x : ℕ
    x = (steps l).item i

    known : x < z.events.size
    known = q.low i h

    next_past : Past (steps l).item (i + 1) (x ∷ w.past)
    next_past =
        let e : suc i ≡ i + 1 = omega arith in
        subst (λ (m : ℕ). Past (steps l).item m (x ∷ w.past)) e (past_next (steps l).item i x w.past w.stood refl)

    abbrev others : List ℕ
    others = locks_from z (x ∷ w.past) (drop (i + 1) l)

    next_part : (s : List ℕ) → entries_at z z.locks.size w.past x ≡ s → Part before at out to (s ++ others) (locks_from z [] l)
    unfolding locks_from
    next_part s e =
        let o : suc i ≡ i + 1 = omega arith in
        let r : drop i l ≡ x ∷ drop (i + 1) l = drop-cons l i 0 h ∙ ap (λ (m : ℕ). x ∷ drop m l) o in
        subst
        (λ (m : List ℕ). Part before at out to m (locks_from z [] l))
        (ap (locks_from z w.past) r ∙ ap (λ (m : List ℕ). m ++ others) e)
        w.part

    -- the event is of no entry that is left
    pub listing_skip : (In left x → ⊥) → Listing z l before at out left to (i + 1)
    listing_skip f = record {
      past = x ∷ w.past;
      stood = next_past;
      part = next_part [] (none_here z l i x w.past w.stood refl z.locks.size none);
      rest = record {
        says = λ e m. let (j, u, (o, v)) = w.rest.says e m in (j, u, (o, none_next _ i v (λ r. none j u (r, v))));
        has = λ e (j, u, (o, v)). w.rest.has e (j, u, (o, λ m r. v m (omega arith)));
      };
    }
      where
        none : None z.locks.size (λ j. Least (Of z l j) i)
        none j u (r, v) = f (w.rest.has x (j, u, ((known, r), v)))

    -- it is of an entry, so one is found
    pub listing_found : In left x → None g (λ j. rel k j x) → ⊥
    listing_found m f =
        let (o, u, (a, v)) = w.rest.says x m in
        let e = q.size in
        f o (omega arith) ((q.entered.entry o x u).1 a)

    -- it is of entry j, of which no event stood yet
    module _ (m : In left x) (j : ℕ) (found : (j < g) × Least (λ j. rel k j x) j) where
      first : (j < z.locks.size) × OfLock z j x × None i (Of z l j)
      first =
          let (o, u, (a, v)) = w.rest.says x m in
          let e = q.size in
          let g = found.0 in
          let t : j < z.locks.size = omega arith in
          let d = (q.entered.entry j x t).0 found.1.0 in
          (t, d, subst (λ (o : ℕ). None i (Of z l o)) (shared z l q.repeats o j x u t a.1 d.1) v)

      of : Of z l j i
      of = first.1.1

      alone : (o : ℕ) → o < z.locks.size → Of z l o i → o ≡ j
      alone o u r = shared z l q.repeats o j ((steps l).item i) u first.0 r of

      pub listing_more : (row next : Set) → Is row (rel k j) → Is next (λ e. In left e × (In row e → ⊥)) → to < length before
          → Listing z l before at (set out to j) next (to + 1) (i + 1)
      listing_more row next r s o = record {
        past = x ∷ w.past;
        stood = next_past;
        part = part_more before out others (locks_from z [] l) at to j (next_part (j ∷ []) one) o;
        rest = record {
          says = λ e c. says e (s.says e c);
          has = λ e (o, u, (a, v)). s.has e (w.rest.has e (o, u, (a, λ y t. v y (omega arith))), λ c. has e c o u a v);
        };
      }
        where
          one : entries_at z z.locks.size w.past x ≡ j ∷ []
          one = one_here z l i x w.past w.stood refl j z.locks.size first.0 (of, first.2) (λ o u c. alone o u c.0)

          says : (e : ℕ) → In left e × (In row e → ⊥) → Some z.locks.size (λ o. OfLock z o e × None (i + 1) (Of z l o))
          says e (c, f) =
              let (o, u, (a, v)) = w.rest.says e c in
              (o, u, (a, none_next _ i v (λ t. f (r.has e ((q.entered.entry j e first.0).1 (subst (λ (o : ℕ). OfLock z o e) (alone o u t) a))))))

          has : (e : ℕ) → In row e → (o : ℕ) → o < z.locks.size → OfLock z o e → None (i + 1) (Of z l o) → ⊥
          has e c o u a v =
              let b = (q.entered.entry j e first.0).0 (r.says e c) in
              v i (omega arith) (subst (λ (y : ℕ). Of z l y i) (shared z l q.repeats j o e first.0 u b.1 a.1) of)

  pub listing_done : (out after : List ℕ) (left : Set) (to i : ℕ) → Listing z l before at out left to i → length l ≤ i
      → Put out at (two_bytes (to - at - 2)) after → PutTo before at (counted (locks_from z [] l)) after to
  unfolding locks_from
  listing_done out after left to i w h p =
      let d : drop i l ≡ [] = drop_of_length-le l {i = i} h in
      let r : Part before at out to [] (locks_from z [] l) = rw d at w.part in
      let c : to - at - 2 ≡ length (locks_from z [] l) = omega (arith, part_ends before out (locks_from z [] l) at to r) in
      part_done before out (locks_from z [] l) at to r after (length (locks_from z [] l)) (rw c at p)
