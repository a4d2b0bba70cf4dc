-- Rules 23, 25 and 26 are what the HOL specification asks of the reads-from map.
use Prim.Native.Nat.{ℕ, ◌<◌}
use mathlib.Core.Path.{◌≡◌, refl, sym, ap, ap₂, ◌∙◌, subst}
use mathlib.Core.Logic.{◌⊎◌, inl, inr}
use mathlib.Core.List.{[], ◌∷◌}
use native.Mathlib.Omega.{arith}
use native.Mathlib.Decide.{ℕ_discrete}
use Rattle.order.specs.Least.{Some, None, Least}
use Rattle.order.specs.Rule.{Kept, rule, entry_rule}
use Rattle.order.proofs.Numbers.{first, least_unique}
use Rattle.order.proofs.Searches.{of_any}
use Rattle.record.specs.Execution.{Execution}
use Rattle.record.specs.Formed.{Formed}
use Rattle.record.specs.Words.{InitialFor}
use Rattle.model.specs.Hol.{R, W, Location, ACCESS, loc, location_of, writes, reads_from_map_candidates, check_rfmap_written, check_rfmap_initial}
use Rattle.model.specs.Model.{Reads, Writes, Source, ViewOrder}
use Rattle.model.specs.Rules.{WriteAndRead, WrongSource, source_of, Overwritten, Unsourced, NoInitial, Initially, WrongInitial}
use Rattle.model.specs.Says.{UpTo, EntryFor, structure_of, witness_of}
use Rattle.model.proofs.Decisions.{certain, dec_pair, dec_initial}
use Rattle.model.proofs.Lists.{before_ends, before_upto, upto_before}
use Rattle.model.proofs.Views.{Viewed}
use Rattle.model.proofs.Words.{action_writes, action_reads, action_value, writes_action, reads_action, kind_low, writes_is, reads_is, seen_is, place_is, initial_entry, entry_initial}

module _ (z : Execution) where
  -- every section 8 pair is a write and a read of one place and value
  abbrev pub Fitting : Type 0
  Fitting = (w r : ℕ) → Source z w r → WriteAndRead (z.events.item w) (z.events.item r)

  pub kept_fitting : Kept (entry_rule 23 (WrongSource z) (source_of z)) → Fitting
  unfolding WrongSource Source
  kept_fitting k w r (i, h, (d, e)) = certain (dec_pair (z.events.item w) (z.events.item r)) (λ g. k (i ∷ []) (h, λ q. g (rw (d, e) at q)))

  pub fitting_kept : Fitting → Kept (entry_rule 23 (WrongSource z) (source_of z))
  unfolding WrongSource Source
  fitting_kept f w q = let (i, (h, g)) = of_any 1 (WrongSource z) w q in g (f _ _ (i, h, (refl, refl)))

  module _ (f : Formed z) where
    source_low : (w r : ℕ) → Source z w r → (w < z.events.size) × (r < z.events.size)
    unfolding Source
    source_low w r (i, h, (d, e)) = let q = f.sources.each i h in rw (d, e) at q

    pub fitting_candidate : Fitting → reads_from_map_candidates (structure_of z) (witness_of z).rfmap
    fitting_candidate g w r s =
        let (wr, (rd, (p, v))) = g w r s in (
          (source_low w r s).1,
          (source_low w r s).0,
          (_, _, reads_action _ rd, writes_action _ wr ∙ ap₂ (ACCESS W) ((place_is z f w r).1 p) v),
        )

    pub candidate_fitting : reads_from_map_candidates (structure_of z) (witness_of z).rfmap → Fitting
    candidate_fitting g w r s =
        let (hr, hw, (l, v, dr, dw)) = g w r s in (
          action_writes _ (kind_low z f w hw) l v dw,
          (
            action_reads _ (kind_low z f r hr) l v dr,
            ((place_is z f w r).0 (ap location_of dw ∙ sym (ap location_of dr)), action_value (z.events.item w) W l v dw ∙ sym (action_value (z.events.item r) R l v dr)),
          ),
        )

  -- a write that stands in a view up to a read of it stands before the read
  write_before : (p x r : ℕ) → Writes (z.events.item x) → Reads (z.events.item r) → UpTo (z.view p) x r → ViewOrder z p x r
  write_before p x r w d u = upto_before _ x r u (λ e. not (rw e at w) d)
    where
      not : Writes (z.events.item r) → Reads (z.events.item r) → ⊥
      not (inl a) (inl b) = omega arith
      not (inl a) (inr b) = omega arith
      not (inr a) (inl b) = omega arith
      not (inr a) (inr b) = omega arith

  -- a location has one initial value at most
  pub initial_one : (l : Location) (v w : ℕ) → (witness_of z).initial_state l v → (witness_of z).initial_state l w → v ≡ w
  initial_one l v w (i, h, (a, n, d)) (j, g, (b, m, e)) =
      sym d ∙ ap (λ (k : ℕ). (z.initials.item k).value) (least_unique (λ k. EntryFor l (z.initials.item k)) i j (a, n) (b, m)) ∙ e

  module _ (r : ℕ) where
    -- the place's initial value is the location's
    initially_to : (u : ℕ) → Initially z (z.events.item r) u → (witness_of z).initial_state (loc (structure_of z) r) u
    initially_to u (i, h, (a, n, e)) = (i, h, (initial_entry (z.events.item r) _ a, λ j l b. n j l (entry_initial (z.events.item r) _ b), e))

    to_initially : (l : Location) (u : ℕ) → loc (structure_of z) r ≡ l → (witness_of z).initial_state l u → Initially z (z.events.item r) u
    to_initially l u d q = go (subst (λ (m : Location). (witness_of z).initial_state m u) (sym d) q)
      where
        go : (witness_of z).initial_state (loc (structure_of z) r) u → Initially z (z.events.item r) u
        go (i, h, (a, n, e)) = (i, h, (entry_initial (z.events.item r) _ a, λ j m b. n j m (initial_entry (z.events.item r) _ b), e))

    pub initially_one : (t u : ℕ) → Initially z (z.events.item r) t → Initially z (z.events.item r) u → t ≡ u
    initially_one t u (i, h, (a, n, d)) (j, g, (b, m, e)) =
        sym d ∙ ap (λ (k : ℕ). (z.initials.item k).value) (least_unique (λ k. InitialFor (z.events.item r) (z.initials.item k)) i j (a, n) (b, m)) ∙ e

  module _ (f : Formed z) (v : Viewed z) where
    -- what stands in a view is an event
    stood : (p a b : ℕ) → p < z.processors → ViewOrder z p a b → a < z.events.size
    stood p a b h q = ((v p h).due a (before_ends _ a b q).0).0

    -- 25
    module _ (g : Fitting) where
      pub kept_written : Kept (rule 25 4 (Overwritten z)) → check_rfmap_written (structure_of z) (witness_of z).vo (witness_of z).rfmap
      unfolding Overwritten
      kept_written k p h w r (s, sw, sr) x wx (n, wtox, xtor) e =
          let (ww, (rd, (same, val))) = g w r s in
          let wr = ((writes_is z f x).0 wx).1 in
          k (p ∷ w ∷ r ∷ x ∷ []) (
            h,
            s,
            ((seen_is z f p w).0 sw, (seen_is z f p r).0 sr),
            λ d. n (sym d),
            (wr, (place_is z f x r).0 (sym e ∙ (place_is z f w r).1 same)),
            upto_before _ w x wtox.1 n,
            write_before p x r wr rd xtor.1,
          )

      pub written_kept : check_rfmap_written (structure_of z) (witness_of z).vo (witness_of z).rfmap → Kept (rule 25 4 (Overwritten z))
      unfolding Overwritten
      written_kept c u q =
          let (p, (w, (r, (x, (h, s, (sw, sr), n, (wr, same), wtox, xtor))))) = of_any 4 (Overwritten z) u q in
          let (ww, (rd, (place, val))) = g w r s in
          c p h w r (s, (seen_is z f p w).1 sw, (seen_is z f p r).1 sr) x ((writes_is z f x).1 (stood p x r h xtor, wr))
          (λ d. n (sym d), (h, before_upto _ w x wtox), (h, before_upto _ x r xtor))
          ((place_is z f w r).1 place ∙ sym ((place_is z f x r).1 same))

    -- 26
    pub kept_initial : Kept (record { number = 26; Breaks = WrongInitial z; shown = λ w. w })
        → check_rfmap_initial (structure_of z) (witness_of z).vo (witness_of z).rfmap (witness_of z).initial_state
    unfolding WrongInitial
    kept_initial k p h r rd un sees = (_, _, reads_action _ rr, initially_to r _ (initially (first _ (λ i. dec_initial (z.events.item r) (z.initials.item i)) _)), before)
      where
        rr : Reads (z.events.item r)
        rr = ((reads_is z f r).0 rd).1

        left : Unsourced z p r
        left = (h, (seen_is z f p r).0 sees, rr, un)

        initially : Some z.initials.size (Least (λ i. InitialFor (z.events.item r) (z.initials.item i)))
            ⊎ None z.initials.size (λ i. InitialFor (z.events.item r) (z.initials.item i))
            → Initially z (z.events.item r) (z.events.item r).value
        initially (inl (i, l, (a, n))) =
            (i, l, (a, n, certain (ℕ_discrete _ _) (λ d. k (p ∷ r ∷ 1 ∷ []) (left, inr (refl, (_, (i, l, (a, n, refl)), d))))))
        initially (inr n) = absurd (k (p ∷ r ∷ 0 ∷ []) (left, inl (refl, n)))

        before : (x : ℕ) → writes (structure_of z) x → (p < z.processors) × UpTo (z.view p) x r → loc (structure_of z) x ≡ loc (structure_of z) r → ⊥
        before x w u e =
            let wr = ((writes_is z f x).0 w).1 in
            k (p ∷ r ∷ 2 ∷ x ∷ []) (left, refl, (wr, (place_is z f x r).0 e), write_before p x r wr rr u.1)

    pub initial_kept : check_rfmap_initial (structure_of z) (witness_of z).vo (witness_of z).rfmap (witness_of z).initial_state
        → Kept (record { number = 26; Breaks = WrongInitial z; shown = λ w. w })
    unfolding WrongInitial
    initial_kept c [] q = q
    initial_kept c (p ∷ []) q = q
    initial_kept c (p ∷ r ∷ []) q = q
    initial_kept c (p ∷ r ∷ code ∷ []) ((h, sees, rr, un), b) = at b
      where
        held : Initially z (z.events.item r) (z.events.item r).value
        held =
            let (l, u, d, i, n) = c p h r ((reads_is z f r).1 (sees.0, rr)) un ((seen_is z f p r).1 sees) in
            rw (action_value (z.events.item r) R l u d) (to_initially r l u (ap location_of d) i)

        at : ((code ≡ 0) × NoInitial z (z.events.item r))
            ⊎ ((code ≡ 1) × ((u : ℕ) × Initially z (z.events.item r) u × (u ≡ (z.events.item r).value → ⊥)))
            → ⊥
        at (inl (o, none)) = let (i, l, (a, n, e)) = held in none i l a
        at (inr (o, (u, i, d))) = d (initially_one r _ _ i held)
    initial_kept c (p ∷ r ∷ code ∷ x ∷ []) ((h, sees, rr, un), o, (w, same), b) =
        let (l, u, d, i, n) = c p h r ((reads_is z f r).1 (sees.0, rr)) un ((seen_is z f p r).1 sees) in
        n x ((writes_is z f x).1 (stood p x r h b, w)) (h, before_upto _ x r b) ((place_is z f x r).1 same)
    initial_kept c (p ∷ r ∷ code ∷ x ∷ y ∷ w) q = q
