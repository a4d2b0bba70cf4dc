-- The memory state along a list: before the first step, after a step, and the last write of a place that it has.
use Rattle.std.specs.Prelude.{Option, Some as Just, None as Nothing}
use Prim.Native.Nat.{ℕ, ◌+◌, ◌<◌}
use mathlib.Core.Path.{◌≡◌, refl, sym, ap, ◌∙◌, subst}
use mathlib.Core.Logic.{◌⊎◌, inl, inr, ⊎_elim}
use mathlib.Core.Bool.{Bool}
use mathlib.Core.List.{List}
use native.Mathlib.Omega.{arith}
use Rattle.order.specs.Decides.{Decides}
use Rattle.order.specs.Least.{Some, None, Found}
use Rattle.order.proofs.Numbers.{last_or}
use Rattle.order.proofs.Tests.{by_as}
use Rattle.rows.specs.Members.{In, Is}
use Rattle.rows.specs.Table.{rel}
use Rattle.rows.specs.declared.Set.{Set}
use Rattle.rows.proofs.Members.{in_low, is_as}
use Rattle.record.specs.Execution.{Execution}
use Rattle.record.specs.Words.{SamePlace}
use Rattle.facts.specs.Facts.{Placed, Classed}
use Rattle.facts.specs.declared.Classes.{Classes}
use Rattle.facts.proofs.Placing.{place_refl, place_sym, place_trans}
use Rattle.model.specs.Model.{Reads, Writes}
use Rattle.model.specs.Rules.{WritesPlace}
use Rattle.axioms.proofs.Sorts.{writes_is, reads_is}
use Rattle.sequences.specs.Sequence.{steps, LastWrite}
use Rattle.replay.specs.Known.{StateAt, SourceBefore}
use Rattle.sequences.specs.ReadOff.{event}
use Rattle.replay.specs.declared.State.{State}
use Rattle.sequences.proofs.Sourcing.{latest}

-- of an event a set of such events tells whether it has the property
set_decides : (n : ℕ) (P : ℕ → Type 0) (s : Set) → Is s (λ k. (k < n) × P k) → (e : ℕ) → e < n → (t : Bool) → Decides t (In s e) → Decides t (P e)
set_decides n P s i e h t = by_as t (λ m. (i.says e m).1) (λ p. i.has e (h, p))

module _ (z : Execution) (c : Classes) (k : Classed z c) (s : Set) (e : ℕ) (low : e < z.events.size) (t : Bool) where
  pub write_known : Is s (λ j. In c.stores j ⊎ In c.puts j) → Decides t (In s e) → Decides t (Writes (event z e))
  write_known i = set_decides _ (λ j. Writes (event z j)) s (writes_is z c k s i) e low t

  pub read_known : Is s (λ j. In c.loads j ⊎ In c.gets j) → Decides t (In s e) → Decides t (Reads (event z e))
  read_known i = set_decides _ (λ j. Reads (event z j)) s (reads_is z c k s i) e low t

module _ (z : Execution) (l : List ℕ) where
  abbrev at : ℕ → ℕ
  at = (steps l).item

  -- w is its place's last write before step i
  abbrev Lasting : ℕ → ℕ → Type 0
  Lasting i w = Some i (λ j. (at j ≡ w) × LastWrite z l i w j)

  same_sym : (a b : ℕ) → SamePlace (event z a) (event z b) → SamePlace (event z b) (event z a)
  same_sym a b = place_sym (event z a) (event z b)

  writes_as : (w a b : ℕ) → SamePlace (event z a) (event z b) → WritesPlace z w a → WritesPlace z w b
  writes_as w a b p (v, s) = (v, place_trans (event z w) (event z a) (event z b) s p)

  -- one place has one last write
  last_as : (i a b j : ℕ) → SamePlace (event z a) (event z b) → LastWrite z l i a j → LastWrite z l i b j
  last_as i a b j p (h, w, f) = (h, writes_as (at j) a b p w, λ k g o v. f k g o (writes_as (at k) b a (same_sym a b p) v))

  -- a step that leaves r's place as it was
  last_next : (i r j : ℕ) → (WritesPlace z (at i) r → ⊥) → LastWrite z l i r j → LastWrite z l (i + 1) r j
  last_next i r j n (h, w, f) =
      (omega arith, w, λ k g o u. ⊎_elim (λ (e : k ≡ i). n (subst (λ (y : ℕ). WritesPlace z (at y) r) e u)) (λ c. f k g c u) (last_or i k (omega arith)))

  last_before : (i r j : ℕ) → j < i → LastWrite z l (i + 1) r j → LastWrite z l i r j
  last_before i r j g (h, w, f) = (g, w, λ k b c. f k b (omega arith))

  module _ (i : ℕ) (m : State) (state : StateAt z l i m) where
    low_next : at i < z.events.size → (j : ℕ) → j < i + 1 → at j < z.events.size
    low_next h j g = ⊎_elim (λ (e : j ≡ i). subst (λ (k : ℕ). at k < z.events.size) (sym e) h) (state.low j) (last_or i j (omega arith))

    module _ (e : ℕ) (here : e ≡ at i) (low : e < z.events.size) where
      pub state_read : (Writes (event z e) → ⊥) → StateAt z l (i + 1) m
      state_read n = record { low = low_next (rw here at low); last = is_as m.last (Lasting i) (Lasting (i + 1)) there back state.last }
        where
          there : (k : ℕ) → Lasting i k → Lasting (i + 1) k
          there k (j, h, (a, u)) = (j, omega arith, (a, last_next i k j (λ w. n (rw here w.0)) u))

          back : (k : ℕ) → Lasting (i + 1) k → Lasting i k
          back k (j, h, (a, u)) = go (last_or i j (omega arith))
            where
              go : (j ≡ i) ⊎ (j < i) → Lasting i k
              go (inl d) = absurd (n (subst (λ (y : ℕ). Writes (event z y)) (ap at d ∙ sym here) u.1.0))
              go (inr g) = (j, g, (a, last_before i k j g u))

      -- the events at e's place go out of the state, and e comes in
      pub state_write : (q : List ℕ) → Placed z q → Writes (event z e) → (row less alone : Set) → Is row (rel q e)
          → Is less (λ k. In m.last k × (In row k → ⊥)) → Is alone (λ k. k ≡ e)
          → (n : State) → Is n.last (λ k. In less k ⊎ In alone k) → StateAt z l (i + 1) n
      state_write q placed w row less alone ir il ia n s =
          record { low = low_next (rw here at low); last = is_as n.last (λ k. In less k ⊎ In alone k) (Lasting (i + 1)) there back s }
        where
          there : (k : ℕ) → In less k ⊎ In alone k → Lasting (i + 1) k
          there k (inl c) = go (il.says k c)
            where
              go : In m.last k × (In row k → ⊥) → Lasting (i + 1) k
              go (d, f) = by (state.last.says k d)
                where
                  by : Lasting i k → Lasting (i + 1) k
                  by (j, h, (a, u)) = (j, omega arith, (a, last_next i k j out u))
                    where
                      out : WritesPlace z (at i) k → ⊥
                      out v = f (ir.has k ((placed.pairs e k).1 (low, rw a at (state.low j h), rw here v.1)))
          there k (inr c) =
              let d : k ≡ at i = ia.says k c ∙ here in
              let v : Writes (event z (at i)) = rw here at w in
              (i, omega arith, (sym d, (omega arith, subst (WritesPlace z (at i)) (sym d) (v, place_refl (event z (at i))), λ x g o u. omega arith)))

          back : (k : ℕ) → Lasting (i + 1) k → In less k ⊎ In alone k
          back k (j, h, (a, u)) = go (last_or i j (omega arith))
            where
              go : (j ≡ i) ⊎ (j < i) → In less k ⊎ In alone k
              go (inl d) = inr (ia.has k (sym a ∙ ap at d ∙ sym here))
              go (inr g) = inl (il.has k (state.last.has k (j, g, (a, last_before i k j g u)), λ c. u.2 i g (omega arith) (rw here at (over c))))
                where
                  over : In row k → WritesPlace z e k
                  over c = (w, ((placed.pairs e k).0 (ir.says k c)).2)

    -- the member at r's place is its last write
    pub source_is : (q : List ℕ) → Placed z q → (r : ℕ) → r < z.events.size → (row both : Set) → Is row (rel q r)
        → Is both (λ k. In m.last k × In row k) → (w : Option ℕ) → Found 64 (In both) w → SourceBefore z l i r w
    source_is q placed r h row both ir ib = go
      where
        found : (w : ℕ) → In m.last w × In row w → Some i (λ j. (at j ≡ w) × LastWrite z l i r j)
        found w (c, d) =
            let (j, g, (a, u)) = state.last.says w c in
            (j, g, (a, last_as i w r j (same_sym r w ((placed.pairs r w).0 (ir.says w d)).2) u))

        member : (j : ℕ) → LastWrite z l i r j → In both (at j)
        member j u =
            let p = same_sym (at j) r u.1.1 in
            ib.has (at j) (
              state.last.has (at j) (j, u.0, (refl, last_as i r (at j) j p u)),
              ir.has (at j) ((placed.pairs r (at j)).1 (h, state.low j u.0, p)),
            )

        none : None 64 (In both) → ((j : ℕ) × LastWrite z l i r j) ⊎ None i (λ j. WritesPlace z (at j) r) → None i (λ j. WritesPlace z (at j) r)
        none f (inl (j, u)) = let c = member j u in absurd (f (at j) (in_low both (at j) c) c)
        none f (inr g) = g

        go : (w : Option ℕ) → Found 64 (In both) w → SourceBefore z l i r w
        go (Just w) f = found w (ib.says w f.1.0)
        go Nothing f = none f (latest z l r i)
