-- The events of locked instructions, entry by entry.
use Prim.Native.Nat.{ℕ, ◌+◌, ◌<◌, ◌≤◌}
use mathlib.Core.Path.{◌≡◌, refl, sym, ◌∙◌}
use mathlib.Core.Logic.{◌⊎◌, ◌↔◌, inl, inr}
use mathlib.Core.List.{List}
use native.Mathlib.Omega.{arith}
use Rattle.order.specs.Least.{Some}
use Rattle.order.specs.Relation.{Rel}
use Rattle.rows.specs.Members.{In, Is}
use Rattle.rows.specs.Table.{HasRows, rel, Adds}
use Rattle.rows.specs.declared.Set.{Set}
use Rattle.rows.proofs.Members.{is_as}
use Rattle.rows.proofs.Table.{adds_as}
use Rattle.record.specs.Execution.{Execution}
use Rattle.record.specs.Words.{OfLock}
use Rattle.facts.specs.Facts.{Blank, Sorted, Entered, Mated}
use Rattle.facts.proofs.Counting.{Upto, upto_more, blank_upto, adds_two, is_by}

-- the events of entry i: of its processor's those with its index
pub entry_is : (x : Execution) (f : List ℕ) → Sorted x f → (i p index : ℕ) → p < 4 → p ≡ (x.locks.item i).processor → index ≡ (x.locks.item i).index
    → (own here : Set) → Is own (rel f p) → Is here (λ e. In own e × ((x.events.item e).index ≡ index)) → Is here (OfLock x i)
entry_is x f sorted i p index l ep ei own here a b =
    is_as here _ _
    (λ e m. let w = (sorted.own p e l).0 (a.says e m.0) in (w.0, (w.1 ∙ ep, m.1 ∙ ei)))
    (λ e m. let w = m.1 in (a.has e ((sorted.own p e l).1 (m.0, w.0 ∙ sym ep)), w.1 ∙ sym ei))
    b

-- an event of entry i goes into row i and into row 16
unfoldable pub Puts : Execution → ℕ → Rel
Puts x i v e = ((v ≡ i) ⊎ (v ≡ 16)) × OfLock x i e

-- the events of entry i go into each other's rows
unfoldable pub Mates : Execution → ℕ → Rel
Mates x i a b = OfLock x i a × OfLock x i b

module _ (x : Execution) (t : List ℕ) where
  pub enter_more : (i : ℕ) (here : Set) → Is here (OfLock x i) → (u v w : List ℕ) → Adds t u (Upto (Puts x) i)
      → Adds u v (λ a b. (a ≡ i) × In here b) → Adds v w (λ a b. (a ≡ 16) × In here b) → Adds t w (Upto (Puts x) (i + 1))
  unfolding Puts
  enter_more i here h u v w d f g = upto_more (Puts x) t i u w d (adds_two u v w _ _ _ there back f g)
    where
      there : (a b : ℕ) → ((a ≡ i) × In here b) ⊎ ((a ≡ 16) × In here b) → ((a ≡ i) ⊎ (a ≡ 16)) × OfLock x i b
      there a b (inl (e, m)) = (inl e, h.says b m)
      there a b (inr (e, m)) = (inr e, h.says b m)

      back : (a b : ℕ) → ((a ≡ i) ⊎ (a ≡ 16)) × OfLock x i b → ((a ≡ i) × In here b) ⊎ ((a ≡ 16) × In here b)
      back a b (inl e, m) = inl (e, h.has b m)
      back a b (inr e, m) = inr (e, h.has b m)

  pub enter_done : (i : ℕ) → i ≡ x.locks.size → x.locks.size ≤ 16 → (u : List ℕ) → HasRows t 17 → Blank t
      → Adds t u (Upto (Puts x) i) → Entered x u
  unfolding Puts
  enter_done i q most u h f d = record {
    rows = let e = d.same in omega arith;
    entry = λ j e l. (λ r. one j e l ((at j e).0 r), λ m. (at j e).1 (j, omega arith, (inl refl, m)));
    all = λ e. (λ r. let (j, l, m) = (at 16 e).0 r in (j, omega arith, m.1), λ m. (at 16 e).1 (m.0, let l = m.1 in omega arith, (inr refl, m.2)));
  }
    where
      at : (v e : ℕ) → rel u v e ↔ Some i (λ j. ((v ≡ j) ⊎ (v ≡ 16)) × OfLock x j e)
      at v e = blank_upto (Puts x) t u i f d v e

      one : (j e : ℕ) → j < x.locks.size → Some i (λ k. ((j ≡ k) ⊎ (j ≡ 16)) × OfLock x k e) → OfLock x j e
      one j e l (k, a, (inl c, m)) = rw c m
      one j e l (k, a, (inr c, m)) = absurd (omega arith)

  pub mate_more : (i : ℕ) (k : List ℕ) → Entered x k → i < x.locks.size → (here : Set) → Is here (rel k i) → (u v : List ℕ)
      → Adds t u (Upto (Mates x) i) → Adds u v (λ a b. In here a × In here b) → Adds t v (Upto (Mates x) (i + 1))
  unfolding Mates
  mate_more i k n l here h u v d f =
      let w : Is here (OfLock x i) = is_by here _ _ (λ e. n.entry i e l) h in
      upto_more (Mates x) t i u v d
      (adds_as u v _ _ (λ a b m. (w.says a m.0, w.says b m.1)) (λ a b m. (w.has a m.0, w.has b m.1)) f)

  pub mate_done : (i : ℕ) → i ≡ x.locks.size → (u : List ℕ) → HasRows t 64 → Blank t → Adds t u (Upto (Mates x) i) → Mated x u
  unfolding Mates
  mate_done i q u h f d = record { rows = let e = d.same in omega arith; pairs = λ a b. rw q at (blank_upto (Mates x) t u i f d a b) }
