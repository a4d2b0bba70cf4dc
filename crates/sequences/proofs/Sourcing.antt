-- The sources that are read off: each read's is the last write of its place before it.
use Prim.Native.Nat.{ℕ, zero, suc, ◌+◌, ◌<◌, ◌≤◌}
use mathlib.Core.Path.{◌≡◌, refl, sym, ap, ◌∙◌, subst}
use mathlib.Core.Logic.{◌⊎◌, inl, inr, ⊎_elim}
use mathlib.Core.Bool.{Bool, true, false}
use mathlib.Core.List.{List, [], ◌∷◌, ◌++◌}
use lib.ListN.{length}
use native.Mathlib.Omega.{arith}
use native.Mathlib.Decide.{dec_lt}
use Rattle.order.specs.Least.{Some, None}
use Rattle.order.specs.Decides.{Decides}
use Rattle.order.proofs.Numbers.{last_or}
use Rattle.record.specs.Execution.{Pair, Execution}
use Rattle.model.specs.Model.{Reads, Source}
use Rattle.model.specs.Rules.{WritesPlace}
use Rattle.sequences.specs.Sequence.{steps, LastWrite}
use Rattle.sequences.specs.ReadOff.{choose, pairs_to, event, is_read, last_writer, sources_from, read_off}
use Rattle.sequences.proofs.Members.{Has, some_has, has_some, has_or, has_left, has_right}
use Rattle.sequences.proofs.Pasts.{Past, Rest, rest_all, past_next}
use Rattle.sequences.proofs.Tests.{writes_decides, read_decides}

module _ (z : Execution) (l : List ℕ) where
  abbrev at : ℕ → ℕ
  at = (steps l).item

  pub last_unique : (i r j k : ℕ) → LastWrite z l i r j → LastWrite z l i r k → j ≡ k
  last_unique i r j k (h, u, f) (g, v, s) = go (dec_lt j k) (dec_lt k j)
    where
      go : Dec (j < k) → Dec (k < j) → j ≡ k
      go (yes m) d = absurd (f k m g v)
      go (no m) (yes n) = absurd (s j n h u)
      go (no m) (no n) = omega arith

  -- the last write, or there is none
  abbrev pub Latest : ℕ → ℕ → List ℕ → Type 0
  Latest r i w = ((j : ℕ) × LastWrite z l i r j × (w ≡ at j ∷ [])) ⊎ (None i (λ j. WritesPlace z (at j) r) × (w ≡ []))

  pub last_writer_lem : (r i : ℕ) (e : List ℕ) → Past at i e → Latest r i (last_writer z e r)
  unfolding last_writer
  last_writer_lem r i [] p = inr (λ k h q. omega arith, refl)
  last_writer_lem r i (x ∷ e) (k, n, q, p) = go (last_writer_lem r k e p) _ (writes_decides z x r)
    where
      fresh : (WritesPlace z x r → ⊥) → (m : ℕ) → (m ≡ k) ⊎ (m < k) → (m < k → WritesPlace z (at m) r → ⊥) → WritesPlace z (at m) r → ⊥
      fresh g m (inl d) f u = g (subst (λ (y : ℕ). WritesPlace z y r) (ap at d ∙ q) u)
      fresh g m (inr h) f u = f h u

      go : Latest r k (last_writer z e r) → (b : Bool) → Decides b (WritesPlace z x r) → Latest r i (choose b (x ∷ []) (last_writer z e r))
      go s true d =
          inl (
            k,
            (omega arith, subst (λ (y : ℕ). WritesPlace z y r) (sym q) (d.holds refl), λ m g h u. omega arith),
            ap (λ (y : ℕ). y ∷ []) (sym q),
          )
      go (inl (j, (h, w, f), c)) false d =
          inl (j, (omega arith, w, λ m g o. fresh (d.fails refl) m (last_or k m (omega arith)) (f m g)), c)
      go (inr (f, c)) false d = inr (λ m h. fresh (d.fails refl) m (last_or k m (omega arith)) (f m), c)

  past : (i : ℕ) → (e : List ℕ) × Past at i e
  past zero = ([], refl)
  past (suc i) = let (e, p) = past i in (at i ∷ e, past_next at i (at i) e p refl)

  pub latest : (r i : ℕ) → ((j : ℕ) × LastWrite z l i r j) ⊎ None i (λ j. WritesPlace z (at j) r)
  latest r i = let (e, p) = past i in ⊎_elim (λ (j, u, c). inl (j, u)) (λ (f, c). inr f) (last_writer_lem r i e p)

  -- at place i stands the read r, and its last write is w
  abbrev pub SourceAt : ℕ → ℕ → ℕ → Type 0
  SourceAt w r i = (at i ≡ r) × Reads (event z r) × ((j : ℕ) × LastWrite z l i r j × (at j ≡ w))

  module _ (w r : ℕ) where
    abbrev Pairing : List Pair → Type 0
    Pairing = Has (λ p. (p.from ≡ w) × (p.to ≡ r))

    from_here : (x i : ℕ) (o : List ℕ) → Latest x i o → at i ≡ x → Reads (event z x) → Pairing (pairs_to x o) → SourceAt w r i
    from_here x i [] s q d h = absurd h
    from_here x i (y ∷ o) (inl (j, u, c)) q d h = go (subst (λ (v : List ℕ). Pairing (pairs_to x v)) c h)
      where
        go : Pairing (pairs_to x (at j ∷ [])) → SourceAt w r i
        go (inl (a, b)) = (q ∙ b, subst (λ (v : ℕ). Reads (event z v)) b d, (j, subst (λ (v : ℕ). LastWrite z l i v j) b u, a))
        go (inr n) = absurd n
    from_here x i (y ∷ o) (inr (f, c)) q d h = absurd (subst (λ (v : List ℕ). Pairing (pairs_to x v)) c h)

    to_here : (x i : ℕ) (o : List ℕ) → Latest x i o → at i ≡ x → SourceAt w r i → Pairing (pairs_to x o)
    to_here x i o (inl (j, u, c)) q (a, d, (k, v, b)) =
        let e : x ≡ r = sym q ∙ a in
        subst (λ (v : List ℕ). Pairing (pairs_to x v)) (sym c) (inl (ap at (last_unique i r j k (subst (λ (y : ℕ). LastWrite z l i y j) e u) v) ∙ b, e))
    to_here x i o (inr (f, c)) q (a, d, (k, (h, v, g), b)) =
        let e : x ≡ r = sym q ∙ a in absurd (f k h (subst (λ (y : ℕ). WritesPlace z (at k) y) (sym e) v))

    from_sources : (i : ℕ) (e m : List ℕ) → Past at i e → Rest at i m → Pairing (sources_from z e m) → (k : ℕ) × (k < i + length m) × SourceAt w r k
    unfolding sources_from
    from_sources i e [] p s h = absurd h
    from_sources i e (x ∷ m) p (q, s) h =
        ⊎_elim
        (here (is_read (event z x)) (read_decides (event z x)))
        (λ g. let (k, n, t) = from_sources (suc i) (x ∷ e) m (past_next at i x e p q) s g in (k, omega arith, t))
        (has_or _ (choose (is_read (event z x)) (pairs_to x (last_writer z e x)) []) (sources_from z (x ∷ e) m) h)
      where
        here : (b : Bool) → Decides b (Reads (event z x)) → Pairing (choose b (pairs_to x (last_writer z e x)) [])
            → (k : ℕ) × (k < i + suc (length m)) × SourceAt w r k
        here true d g = (i, omega arith, from_here x i (last_writer z e x) (last_writer_lem x i e p) q (d.holds refl) g)
        here false d g = absurd g

    to_sources : (i k : ℕ) (e m : List ℕ) → Past at i e → Rest at i m → i ≤ k → k < i + length m → SourceAt w r k → Pairing (sources_from z e m)
    unfolding sources_from
    to_sources i k e [] p s h g t = absurd (omega arith)
    to_sources i k e (x ∷ m) p (q, s) h g t = go (dec_lt i k) (λ n. to_sources (suc i) k (x ∷ e) m (past_next at i x e p q) s n (omega arith) t)
      where
        here : (b : Bool) → Decides b (Reads (event z x)) → i ≡ k → Pairing (choose b (pairs_to x (last_writer z e x)) [])
        here true d n = to_here x i (last_writer z e x) (last_writer_lem x i e p) q (subst (SourceAt w r) (sym n) t)
        here false d n = absurd (d.fails refl (subst (λ (v : ℕ). Reads (event z v)) (sym t.0 ∙ ap at (sym n) ∙ q) t.1))

        go : Dec (i < k) → (suc i ≤ k → Pairing (sources_from z (x ∷ e) m))
            → Pairing (choose (is_read (event z x)) (pairs_to x (last_writer z e x)) [] ++ sources_from z (x ∷ e) m)
        go (yes n) rest = has_right _ (choose (is_read (event z x)) (pairs_to x (last_writer z e x)) []) (sources_from z (x ∷ e) m) (rest n)
        go (no n) rest =
            has_left _ (choose (is_read (event z x)) (pairs_to x (last_writer z e x)) []) (sources_from z (x ∷ e) m)
            (here (is_read (event z x)) (read_decides (event z x)) (omega arith))

    pub source_at : Source (read_off z l) w r → Some (length l) (SourceAt w r)
    unfolding Source
    source_at s = let (k, h, t) = from_sources 0 [] l refl (rest_all l) (some_has _ _ (sources_from z [] l) s) in (k, omega arith, t)

    pub at_source : (i : ℕ) → i < length l → SourceAt w r i → Source (read_off z l) w r
    unfolding Source
    at_source i h t = has_some _ _ (sources_from z [] l) (to_sources 0 i [] l refl (rest_all l) (omega arith) (omega arith) t)
