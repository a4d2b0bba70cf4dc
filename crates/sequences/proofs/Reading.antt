-- The values of the reads: 23, 25 and 26 are kept of what is read off exactly if 33 is.
use Prim.Native.Nat.{ℕ, ◌<◌}
use mathlib.Core.Path.{◌≡◌, refl, sym, ap, ◌∙◌, subst}
use mathlib.Core.Logic.{◌⊎◌, inl, inr}
use mathlib.Core.List.{List, [], ◌∷◌}
use lib.ListN.{length}
use native.Mathlib.Omega.{arith}
use native.Mathlib.Decide.{ℕ_discrete}
use Rattle.order.specs.Least.{Some, None, Least}
use Rattle.order.specs.Rule.{Kept, rule}
use Rattle.order.proofs.Numbers.{first}
use Rattle.order.proofs.Searches.{of_any}
use Rattle.record.specs.Execution.{Execution}
use Rattle.record.specs.Formed.{Formed}
use Rattle.record.specs.Words.{InitialFor}
use Rattle.model.specs.Model.{Reads, Before, Source}
use Rattle.model.specs.Rules.{WriteAndRead, WritesPlace, Overwritten, Unsourced, NoInitial, Initially, WrongInitial}
use Rattle.model.proofs.Decisions.{certain, dec_initial}
use Rattle.model.proofs.Lists.{Proper, one_place}
use Rattle.model.proofs.Sources.{Fitting, initially_one}
use Rattle.sequences.specs.Sequence.{steps, LastWrite, Holds, Differs}
use Rattle.sequences.specs.ReadOff.{event, read_off}
use Rattle.sequences.proofs.Along.{view_along}
use Rattle.sequences.proofs.Sourcing.{SourceAt, last_unique, latest, source_at, at_source}

module _ (z : Execution) (l : List ℕ) (full : Proper (steps l) (λ e. e < z.events.size)) where
  abbrev at : ℕ → ℕ
  at = (steps l).item

  -- an event has one place
  place : (e i j : ℕ) → i < length l → j < length l → at i ≡ e → at j ≡ e → i ≡ j
  place = one_place (steps l) full.single

  -- no write of the place stands between a read and its source
  pub between_not : (w r x : ℕ) → Source (read_off z l) w r → WritesPlace z x r → Before (steps l) w x → Before (steps l) x r → ⊥
  between_not w r x s u wx xr = go (source_at z l w r s) wx xr
    where
      go : Some (length l) (SourceAt z l w r) → Before (steps l) w x → Before (steps l) x r → ⊥
      go (i, hi, (ei, d, (j, (hj, v, f), ej))) (b, hb, (a, ha, (ea, eb))) (t, ht, (c, hc, (ec, et))) =
          let ja = place w j a (omega arith) (omega arith) ej ea in
          let bc = place x b c hb (omega arith) eb ec in
          let ti = place r t i ht hi et ei in
          f b (omega arith) (omega arith) (subst (λ (y : ℕ). WritesPlace z y r) (sym eb) u)

  -- 25 is kept
  overwritten_not : (p w r x : ℕ) → Overwritten (read_off z l) p w r x → ⊥
  unfolding Overwritten
  overwritten_not p w r x (h, s, e, n, u, wx, xr) = between_not w r x s u (view_along z l p w x wx) (view_along z l p x r xr)

  pub overwritten_kept : Kept (rule 25 4 (Overwritten (read_off z l)))
  overwritten_kept m q = let (p, (w, (r, (x, o)))) = of_any 4 (Overwritten (read_off z l)) m q in overwritten_not p w r x o

  -- a read has a source exactly if a write of its place stands before it
  module _ (i : ℕ) (h : i < length l) (d : Reads (event z (at i))) where
    sourced : (j : ℕ) → LastWrite z l i (at i) j → Source (read_off z l) (at j) (at i)
    sourced j u = at_source z l (at j) (at i) i h (refl, d, (j, u, refl))

    unsourced : None i (λ j. WritesPlace z (at j) (at i)) → (w : ℕ) → Source (read_off z l) w (at i) → ⊥
    unsourced f w s = go (source_at z l w (at i) s)
      where
        go : Some (length l) (SourceAt z l w (at i)) → ⊥
        go (k, g, (e, o, (j, (m, u, c), v))) = let n = place (at i) k i g h e refl in f j (omega arith) u

  -- 33 is kept
  module _ (k : (i : ℕ) → Differs z l i → ⊥) where
    differs_not : (i : ℕ) → i < length l → Reads (event z (at i)) → (Holds z l i (at i) (event z (at i)).value → ⊥) → ⊥
    unfolding Differs
    differs_not i h d g = k i (h, d, g)

    -- 23
    fit : (i j : ℕ) → i < length l → Reads (event z (at i)) → LastWrite z l i (at i) j → WriteAndRead (event z (at j)) (event z (at i))
    fit i j h d u = (u.1.0, (d, (u.1.1, certain (ℕ_discrete _ _) (λ g. differs_not i h d (λ q. go g q)))))
      where
        go : ((event z (at j)).value ≡ (event z (at i)).value → ⊥) → Holds z l i (at i) (event z (at i)).value → ⊥
        go g (inl (m, v, e)) = g (ap (λ (n : ℕ). (event z (at n)).value) (last_unique z l i (at i) j m u v) ∙ e)
        go g (inr (f, e)) = f j u.0 u.1

    pub held_fitting : Fitting (read_off z l)
    held_fitting w r s = go (source_at z l w r s)
      where
        go : Some (length l) (SourceAt z l w r) → WriteAndRead (event z w) (event z r)
        go (i, h, (e, d, (j, u, c))) = let q = fit i j h (rw e d) (rw e u) in rw (c, e) at q

    -- 26
    held : (p r : ℕ) → Unsourced (read_off z l) p r → (Initially z (event z r) (event z r).value → ⊥) → ⊥
    held p r (h, (low, sees), d, f) g = go (full.stands r low)
      where
        go : Some (length l) (λ i. at i ≡ r) → ⊥
        go (i, o, e) = differs_not i o (rw e d) by
          where
            by : Holds z l i (at i) (event z (at i)).value → ⊥
            by (inl (j, u, c)) = f (at j) (subst (Source (read_off z l) (at j)) e (sourced i o (rw e d) j u))
            by (inr (n, c)) = g (rw e at c)

    unwritten : (p r x : ℕ) → Unsourced (read_off z l) p r → WritesPlace z x r → Before (steps l) x r → ⊥
    unwritten p r x (h, sees, d, f) u (i, hi, (j, hj, (ej, ei))) = go (latest z l r i)
      where
        go : ((m : ℕ) × LastWrite z l i r m) ⊎ None i (λ m. WritesPlace z (at m) r) → ⊥
        go (inl (m, v)) = f (at m) (at_source z l (at m) r i hi (ei, d, (m, v, refl)))
        go (inr n) = n j hj (subst (λ (y : ℕ). WritesPlace z y r) (sym ej) u)

    pub held_initial : Kept (record { number = 26; Breaks = WrongInitial (read_off z l); shown = λ w. w })
    unfolding WrongInitial
    held_initial [] q = q
    held_initial (p ∷ []) q = q
    held_initial (p ∷ r ∷ []) q = q
    held_initial (p ∷ r ∷ code ∷ []) (u, b) = held p r u (at b)
      where
        at : ((code ≡ 0) × NoInitial z (event z r)) ⊎ ((code ≡ 1) × ((v : ℕ) × Initially z (event z r) v × (v ≡ (event z r).value → ⊥)))
            → Initially z (event z r) (event z r).value → ⊥
        at (inl (o, none)) (i, h, (a, n, e)) = none i h a
        at (inr (o, (v, i, d))) j = d (initially_one z r _ _ i j)
    held_initial (p ∷ r ∷ code ∷ x ∷ []) (u, o, w, b) = unwritten p r x u w (view_along z l p x r b)
    held_initial (p ∷ r ∷ code ∷ x ∷ y ∷ m) q = q

  -- 33 from 23 and 26
  module _ (f : Formed z) (fits : Fitting (read_off z l)) (k : Kept (record { number = 26; Breaks = WrongInitial (read_off z l); shown = λ w. w })) where
    initially : (p r : ℕ) → Unsourced (read_off z l) p r
        → Some z.initials.size (Least (λ i. InitialFor (event z r) (z.initials.item i))) ⊎ None z.initials.size (λ i. InitialFor (event z r) (z.initials.item i))
        → Initially z (event z r) (event z r).value
    unfolding WrongInitial
    initially p r u (inl (i, h, (a, n))) =
        (i, h, (a, n, certain (ℕ_discrete _ _) (λ d. k (p ∷ r ∷ 1 ∷ []) (u, inr (refl, (_, (i, h, (a, n, refl)), d))))))
    initially p r u (inr n) = absurd (k (p ∷ r ∷ 0 ∷ []) (u, inl (refl, n)))

    pub holding : (i : ℕ) → Differs z l i → ⊥
    unfolding Differs
    holding i (h, d, g) = go (latest z l (at i) i)
      where
        low : at i < z.events.size
        low = full.due (at i) (i, h, refl)

        go : ((j : ℕ) × LastWrite z l i (at i) j) ⊎ None i (λ j. WritesPlace z (at j) (at i)) → ⊥
        go (inl (j, u)) = g (inl (j, u, (fits (at j) (at i) (sourced i h d j u)).1.1.1))
        go (inr n) =
            g (
            inr (
              n,
              initially (event z (at i)).processor (at i)
                  ((f.events.each (at i) low).own, (low, inl refl), d, unsourced i h d n)
                  (first _ (λ j. dec_initial (event z (at i)) (z.initials.item j)) _),
            )
            )
