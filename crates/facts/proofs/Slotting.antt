-- The events by their places modulo 64, and the events at one place, which are found by these.
use Prim.Native.Nat.{ℕ, ◌+◌, ◌%◌, ◌<◌, ◌≤◌}
use mathlib.Core.Path.{◌≡◌, refl, sym, ap, ◌∙◌}
use mathlib.Core.Logic.{inl, inr, ⊎_elim}
use mathlib.Core.List.{List}
use native.Mathlib.Omega.{arith}
use Rattle.order.specs.Relation.{Rel}
use Rattle.rows.specs.Members.{In, Is}
use Rattle.rows.specs.Table.{HasRows, rel, Adds}
use Rattle.rows.specs.declared.Set.{Set}
use Rattle.rows.proofs.Members.{is_as}
use Rattle.rows.proofs.Table.{adds_as}
use Rattle.form.specs.Right.{Right}
use Rattle.record.specs.Execution.{Execution}
use Rattle.record.specs.Says.{execution_of}
use Rattle.record.specs.Words.{Register, SamePlace}
use Rattle.record.specs.declared.Event.{Event}
use Rattle.record.proofs.Formings.{formed}
use Rattle.facts.specs.Facts.{Blank, Slotted, Peers}
use Rattle.facts.proofs.Counting.{Upto, upto_more, blank_upto}

-- event k is put into the row of its place modulo 64
unfoldable pub Slots : Execution → ℕ → Rel
Slots x k v e = (v ≡ (x.events.item k).place % 64) × (e ≡ k)

module _ (x : Execution) (t : List ℕ) where
  pub slot_more : (e : ℕ) (y : Event) → y ≡ x.events.item e → (u v : List ℕ) → Adds t u (Upto (Slots x) e)
      → Adds u v (λ a b. (a ≡ y.place % 64) × (b ≡ e)) → Adds t v (Upto (Slots x) (e + 1))
  unfolding Slots
  slot_more e y q u v d f =
      let p : y.place % 64 ≡ (x.events.item e).place % 64 = ap (λ (z : Event). z.place % 64) q in
      upto_more (Slots x) t e u v d (adds_as u v _ _ (λ a b (i, j). (i ∙ p, j)) (λ a b (i, j). (i ∙ sym p, j)) f)

  pub slot_done : (e : ℕ) → e ≡ x.events.size → (u : List ℕ) → HasRows u 64 → Blank t → Adds t u (Upto (Slots x) e) → Slotted x u
  unfolding Slots
  slot_done e q u h f d = record { rows = h; pairs = λ v k. (there v k, back v k) }
    where
      there : (v k : ℕ) → rel u v k → (k < x.events.size) × (v ≡ (x.events.item k).place % 64)
      there v k r = let (j, l, (i, w)) = (blank_upto (Slots x) t u e f d v k).0 r in (omega arith, rw w i)

      back : (v k : ℕ) → (k < x.events.size) × (v ≡ (x.events.item k).place % 64) → rel u v k
      back v k (l, i) = (blank_upto (Slots x) t u e f d v k).1 (k, omega arith, (i, refl))

-- the register of an event is below 15
pub register_low : (s : List ℕ) → Right s → (k : ℕ) → k < (execution_of s).events.size → Register ((execution_of s).events.item k)
    → ((execution_of s).events.item k).place ≤ 14
register_low s r k l h = ⊎_elim (λ w. let m = w.0 in absurd (omega arith)) (λ w. w.1) ((formed s r).events.each k l).at

-- the members of left in the row of e's place are near
module _ (x : Execution) (t : List ℕ) (slots : Slotted x t) (e : ℕ) (y : Event) (q : y ≡ x.events.item e) (left row near : Set)
    (ir : Is row (rel t (y.place % 64))) (im : Is near (λ k. In left k × In row k)) where
  same : y.place % 64 ≡ (x.events.item e).place % 64
  same = ap (λ (z : Event). z.place % 64) q

  one : (k : ℕ) → SamePlace (x.events.item e) (x.events.item k) → (x.events.item e).place ≡ (x.events.item k).place
  one k (inl (a, (b, p))) = p
  one k (inr (a, (b, (c, p)))) = p

  close : (k : ℕ) → In left k → k < x.events.size → SamePlace (x.events.item e) (x.events.item k) → In near k
  close k m l s = im.has k (m, ir.has k ((slots.pairs _ k).1 (l, same ∙ ap (λ (v : ℕ). v % 64) (one k s))))

  -- those of them at e's place are all
  pub slot_memory : (r : Set) → Is r (λ k. In near k × ((k < x.events.size) × SamePlace (x.events.item e) (x.events.item k)))
      → Is r (λ k. In left k × ((k < x.events.size) × SamePlace (x.events.item e) (x.events.item k)))
  slot_memory r i = is_as r _ _ (λ k m. ((im.says k m.0).0, m.1)) (λ k m. (close k m.0 m.1.0 m.1.1, m.1)) i

  -- with a register, so are those that may be
  pub slot_register : 2 ≤ y.kind → ((k : ℕ) → k < x.events.size → Register (x.events.item k) → (x.events.item k).place ≤ 14)
      → e < x.events.size → (r : Set) → Is r (λ k. In near k × Peers x e k)
      → Is r (λ k. In left k × ((k < x.events.size) × SamePlace (x.events.item e) (x.events.item k)))
  slot_register h low le r i = is_as r _ _ (λ k m. there k m.0 m.1) back i
    where
      own : Register (x.events.item e)
      own = let p = ap (λ (z : Event). z.kind) q in omega arith

      there : (k : ℕ) → In near k → Peers x e k → In left k × ((k < x.events.size) × SamePlace (x.events.item e) (x.events.item k))
      there k m (l, inl (a, b)) = let p = own in absurd (omega arith)
      there k m (l, inr (a, (b, c))) =
          let (n, o) = im.says k m in
          let p = ((slots.pairs _ k).0 (ir.says k o)).1 in
          let u = same in
          let v = low k l b in
          let w = low e le a in
          (n, (l, inr (a, (b, (c, omega arith)))))

      back : (k : ℕ) → In left k × ((k < x.events.size) × SamePlace (x.events.item e) (x.events.item k)) → In near k × Peers x e k
      back k (m, (l, inl s)) = (close k m l (inl s), (l, inl (s.0, s.1.0)))
      back k (m, (l, inr (a, (b, (c, p))))) = (close k m l (inr (a, (b, (c, p)))), (l, inr (a, (b, c))))
