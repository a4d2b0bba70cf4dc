-- The events by processor and by kind, and the sets of these by name.
use Prim.Native.Nat.{ℕ, ◌+◌, ◌<◌}
use mathlib.Core.Path.{◌≡◌, refl, sym, ap, ◌∙◌}
use mathlib.Core.Logic.{◌⊎◌, ◌↔◌, inl, inr}
use mathlib.Core.List.{List}
use native.Mathlib.Omega.{arith}
use Rattle.order.specs.Relation.{Rel}
use Rattle.rows.specs.Members.{Is}
use Rattle.rows.specs.Table.{HasRows, rel, Adds}
use Rattle.form.specs.Right.{Right}
use Rattle.record.specs.Execution.{Execution}
use Rattle.record.specs.Says.{execution_of}
use Rattle.record.specs.declared.Event.{Event}
use Rattle.record.proofs.Formings.{formed}
use Rattle.facts.specs.Facts.{Blank, Sorted, Entered, Classed}
use Rattle.facts.specs.declared.Classes.{Classes}
use Rattle.facts.proofs.Counting.{Upto, upto_more, blank_upto, adds_two, is_by}

-- the bounds of a record's events
module _ (s : List ℕ) (r : Right s) (e : ℕ) (h : e < (execution_of s).events.size) where
  pub processor_low : ((execution_of s).events.item e).processor < 4
  processor_low = let a = ((formed s r).events.each e h).own in let b = (formed s r).processors in omega arith

  pub kind_low : ((execution_of s).events.item e).kind < 4
  kind_low = let a = ((formed s r).events.each e h).sort in omega arith

  pub event_low : e < 64
  event_low = let a = (formed s r).events.within in omega arith

-- event k is put into the row of its processor and into that of its kind
unfoldable pub Sorts : Execution → ℕ → Rel
Sorts x k v e = ((v ≡ (x.events.item k).processor) ⊎ (v ≡ 4 + (x.events.item k).kind)) × (e ≡ k)

module _ (x : Execution) (t : List ℕ) where
  pub sort_more : (e : ℕ) (y : Event) → y ≡ x.events.item e → (u v w : List ℕ) → Adds t u (Upto (Sorts x) e)
      → Adds u v (λ a b. (a ≡ y.processor) × (b ≡ e)) → Adds v w (λ a b. (a ≡ 4 + y.kind) × (b ≡ e)) → Adds t w (Upto (Sorts x) (e + 1))
  unfolding Sorts
  sort_more e y q u v w d f g = upto_more (Sorts x) t e u w d (adds_two u v w _ _ _ there back f g)
    where
      there : (a b : ℕ) → ((a ≡ y.processor) × (b ≡ e)) ⊎ ((a ≡ 4 + y.kind) × (b ≡ e))
          → ((a ≡ (x.events.item e).processor) ⊎ (a ≡ 4 + (x.events.item e).kind)) × (b ≡ e)
      there a b (inl (i, j)) = (inl (i ∙ ap (λ (z : Event). z.processor) q), j)
      there a b (inr (i, j)) = (inr (i ∙ ap (λ (z : Event). 4 + z.kind) q), j)

      back : (a b : ℕ) → ((a ≡ (x.events.item e).processor) ⊎ (a ≡ 4 + (x.events.item e).kind)) × (b ≡ e)
          → ((a ≡ y.processor) × (b ≡ e)) ⊎ ((a ≡ 4 + y.kind) × (b ≡ e))
      back a b (inl i, j) = inl (i ∙ sym (ap (λ (z : Event). z.processor) q), j)
      back a b (inr i, j) = inr (i ∙ sym (ap (λ (z : Event). 4 + z.kind) q), j)

  pub sort_done : (e : ℕ) → e ≡ x.events.size → ((k : ℕ) → k < x.events.size → (x.events.item k).processor < 4)
      → (u : List ℕ) → HasRows u 8 → Blank t → Adds t u (Upto (Sorts x) e) → Sorted x u
  unfolding Sorts
  sort_done e q low u h f d = record { rows = h; own = λ p k l. (own p k l, own_back p k); kind = λ c k l. (kind c k, kind_back c k) }
    where
      at : (v k : ℕ) → rel u v k ↔ ((j : ℕ) × (j < e) × Sorts x j v k)
      at v k = blank_upto (Sorts x) t u e f d v k

      own : (p k : ℕ) → p < 4 → rel u p k → (k < x.events.size) × ((x.events.item k).processor ≡ p)
      own p k l r = go ((at p k).0 r)
        where
          go : ((j : ℕ) × (j < e) × Sorts x j p k) → (k < x.events.size) × ((x.events.item k).processor ≡ p)
          go (j, a, (inl i, b)) = (omega arith, rw b (sym i))
          go (j, a, (inr i, b)) = absurd (omega arith)

      own_back : (p k : ℕ) → (k < x.events.size) × ((x.events.item k).processor ≡ p) → rel u p k
      own_back p k (a, i) = (at p k).1 (k, omega arith, (inl (sym i), refl))

      kind : (c k : ℕ) → rel u (4 + c) k → (k < x.events.size) × ((x.events.item k).kind ≡ c)
      kind c k r = go ((at (4 + c) k).0 r)
        where
          go : ((j : ℕ) × (j < e) × Sorts x j (4 + c) k) → (k < x.events.size) × ((x.events.item k).kind ≡ c)
          go (j, a, (inl i, b)) = let z = low j (omega arith) in absurd (omega arith)
          go (j, a, (inr i, b)) = (omega arith, rw b (omega arith))

      kind_back : (c k : ℕ) → (k < x.events.size) × ((x.events.item k).kind ≡ c) → rel u (4 + c) k
      kind_back c k (a, i) = (at (4 + c) k).1 (k, omega arith, (inr (omega arith), refl))

-- the rows of the tables, as sets
pub classed : (x : Execution) (f k : List ℕ) → Sorted x f → Entered x k → (c : Classes) → Is c.loads (rel f 4) → Is c.stores (rel f 5)
    → Is c.gets (rel f 6) → Is c.puts (rel f 7) → Is c.locked (rel k 16) → Classed x c
classed x f k p q c a b d e g = record {
  loads = is_by _ _ _ (λ y. p.kind 0 y (omega arith)) a;
  stores = is_by _ _ _ (λ y. p.kind 1 y (omega arith)) b;
  gets = is_by _ _ _ (λ y. p.kind 2 y (omega arith)) d;
  puts = is_by _ _ _ (λ y. p.kind 3 y (omega arith)) e;
  locked = is_by _ _ _ q.all g;
}
