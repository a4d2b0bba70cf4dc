-- Preserved order from the events of one instruction: the steps of its loads, of its stores and of its register events.
use Prim.Native.Nat.{ℕ, ◌<◌, ◌≤◌}
use mathlib.Core.Path.{◌≡◌, ◌∙◌}
use mathlib.Core.Logic.{◌⊎◌, inl, inr, ⊎_elim}
use mathlib.Core.List.{List}
use native.Mathlib.Omega.{arith}
use native.Mathlib.Decide.{ℕ_discrete}
use Rattle.order.specs.Relation.{Rel}
use Rattle.rows.specs.Members.{In, Is, Meet}
use Rattle.rows.specs.Table.{rel, Adds}
use Rattle.rows.specs.declared.Set.{Set}
use Rattle.rows.proofs.Members.{is_as}
use Rattle.rows.proofs.Table.{adds_as, adds_then}
use Rattle.record.specs.Execution.{Execution}
use Rattle.record.specs.Words.{Memory, SamePlace, SameInstruction}
use Rattle.facts.specs.Facts.{Placed, Classed}
use Rattle.facts.specs.declared.Classes.{Classes}
use Rattle.model.specs.Model.{Locked, KeepsOrder}
use Rattle.orders.specs.Programs.{Program, OneInstruction}

-- the members of later that q relates a to or that `always` has
pub steps_is : (q : List ℕ) (a : ℕ) (later always row either both : Set) → Is row (rel q a) → Is either (λ k. In row k ⊎ In always k)
    → Is both (λ k. In later k × In either k) → Is both (λ b. In later b × (rel q a b ⊎ In always b))
steps_is q a later always row either both r e i = is_as both _ _
    (λ b s. (s.0, ⊎_elim (λ h. inl (r.says b h)) (λ h. inr h) (e.says b s.1)))
    (λ b s. (s.0, e.has b (⊎_elim (λ h. inl (r.has b h)) (λ h. inr h) s.1)))
    i

-- held is memory where here has an event of a locked instruction, and empty otherwise
abbrev pub Held : (here locked memory held : Set) → Type 0
Held here locked memory held = Is held (λ k. Meet here locked × In memory k)

-- a memory event is a load or a store
pub memory_classed : (z : Execution) (c : Classes) → Classed z c → (b : ℕ) → b < z.events.size → Memory (z.events.item b)
    → In c.loads b ⊎ In c.stores b
memory_classed z c d b l h = go (ℕ_discrete (z.events.item b).kind 0)
  where
    go : Dec ((z.events.item b).kind ≡ 0) → In c.loads b ⊎ In c.stores b
    go (yes e) = inl (d.loads.has b (l, e))
    go (no g) = inr (d.stores.has b (l, omega arith))

pub held_all : (here locked memory : Set) → Meet here locked → Held here locked memory memory
held_all here locked memory m = record { says = λ k i. (m, i); has = λ k i. i.1 }

pub held_none : (here locked memory none : Set) → (Meet here locked → ⊥) → Is none (λ k. ⊥) → Held here locked memory none
held_none here locked memory none g i = record { says = λ k h. absurd (i.says k h); has = λ k h. absurd (g h.0) }

module _ (z : Execution) (q : List ℕ) (c : Classes) (here later : Set) (pq : Placed z q) (pc : Classed z c) (ph : Program z here) (pl : Program z later)
    (one : OneInstruction z here) (memory held : Set) (im : Is memory (λ k. In c.loads k ⊎ In c.stores k)) (ih : Held here c.locked memory held) where
  memory_in : (b : ℕ) → b < z.events.size → Memory (z.events.item b) → In memory b
  memory_in b l h = im.has b (memory_classed z c pc b l h)

  in_memory : (b : ℕ) → In memory b → Memory (z.events.item b)
  in_memory b h =
      ⊎_elim (λ i. let e = (pc.loads.says b i).1 in omega arith) (λ i. let e = (pc.stores.says b i).1 in omega arith) (im.says b h)

  locked_in : (b : ℕ) → b < z.events.size → Locked z b → In c.locked b
  unfolding Locked
  locked_in b l (i, k, h) = pc.locked.has b (i, k, (l, h))

  in_locked : (b : ℕ) → In c.locked b → Locked z b
  unfolding Locked
  in_locked b h = let (i, k, g) = pc.locked.says b h in (i, k, g.1)

  locked_as : (a b : ℕ) → SameInstruction (z.events.item a) (z.events.item b) → Locked z b → Locked z a
  unfolding Locked
  locked_as a b (e, f) (i, k, (g, h)) = (i, k, (e ∙ g, f ∙ h))

  held_in : (a b : ℕ) → In here a → b < z.events.size → Locked z a → Memory (z.events.item b) → In held b
  held_in a b m l h y = ih.has b ((a, m, locked_in a (ph.low a m) h), memory_in b l y)

  in_held : (a b : ℕ) → In here a → In held b → Locked z a × Memory (z.events.item b)
  in_held a b m h =
      let (k, i, j) = (ih.says b h).0 in (locked_as a k (one a k m i) (in_locked k j), in_memory b (ih.says b h).1)

  abbrev Steps : Set → Set → Rel
  Steps x always a b = In x a × (In later b × (rel q a b ⊎ In always b))

  abbrev Kept : Rel
  Kept a b = In here a × (In later b × KeepsOrder z a b)

  -- a load comes before every later memory event
  load_first : (a b : ℕ) → (z.events.item a).kind ≡ 0 → Memory (z.events.item b) → KeepsOrder z a b
  unfolding KeepsOrder
  load_first a b e h = go (ℕ_discrete (z.events.item b).kind 0)
    where
      go : Dec ((z.events.item b).kind ≡ 0) → KeepsOrder z a b
      go (yes f) = inr (inl (e, f))
      go (no g) = inr (inr (inl (e, omega arith)))

  -- the steps of its loads
  module _ (x always : Set) (ix : Is x (λ k. In here k × In c.loads k)) (ia : Is always (λ k. In memory k ⊎ In c.locked k)) where
    load_says : (a b : ℕ) → Steps x always a b → Kept a b
    unfolding KeepsOrder
    load_says a b (m, (n, r)) = ((ix.says a m).0, (n, ⊎_elim (λ h. near ((pq.pairs a b).0 h).2) (λ h. far (ia.says b h)) r))
      where
        kind : (z.events.item a).kind ≡ 0
        kind = (pc.loads.says a (ix.says a m).1).1

        near : SamePlace (z.events.item a) (z.events.item b) → KeepsOrder z a b
        near (inl s) = load_first a b kind s.1.0
        near (inr s) = inl s

        far : In memory b ⊎ In c.locked b → KeepsOrder z a b
        far (inl h) = load_first a b kind (in_memory b h)
        far (inr h) = let e = kind in inr (inr (inr (inr (inr (inl (omega arith, in_locked b h))))))

    load_has : (a b : ℕ) → (z.events.item a).kind ≡ 0 → Kept a b → Steps x always a b
    unfolding KeepsOrder
    load_has a b e (m, (n, s)) = (ix.has a (m, pc.loads.has a (ph.low a m, e)), (n, inr (ia.has b (go s))))
      where
        low : b < z.events.size
        low = pl.low b n

        go : KeepsOrder z a b → In memory b ⊎ In c.locked b
        go (inl r) = let h = r.0 in absurd (omega arith)
        go (inr (inl r)) = let h = r.1 in inl (memory_in b low (omega arith))
        go (inr (inr (inl r))) = let h = r.1 in inl (memory_in b low (omega arith))
        go (inr (inr (inr (inl r)))) = let h = r.0 in absurd (omega arith)
        go (inr (inr (inr (inr (inl r))))) = let h = r.0 in absurd (omega arith)
        go (inr (inr (inr (inr (inr (inl r)))))) = inr (locked_in b low r.1)
        go (inr (inr (inr (inr (inr (inr r)))))) = inl (memory_in b low r.1)

  -- the steps of its stores
  module _ (x more always : Set) (ix : Is x (λ k. In here k × In c.stores k)) (io : Is more (λ k. In held k ⊎ In c.stores k))
      (ia : Is always (λ k. In more k ⊎ In c.locked k)) where
    store_says : (a b : ℕ) → Steps x always a b → Kept a b
    unfolding KeepsOrder
    store_says a b (m, (n, r)) = ((ix.says a m).0, (n, ⊎_elim (λ h. near ((pq.pairs a b).0 h).2 (ℕ_discrete (z.events.item b).kind 0)) (λ h. far (ia.says b h)) r))
      where
        kind : (z.events.item a).kind ≡ 1
        kind = (pc.stores.says a (ix.says a m).1).1

        near : SamePlace (z.events.item a) (z.events.item b) → Dec ((z.events.item b).kind ≡ 0) → KeepsOrder z a b
        near (inl s) (yes e) = inr (inr (inr (inr (inl (kind, (e, s.1.1))))))
        near (inl s) (no g) = let h = s.1.0 in inr (inr (inr (inl (kind, omega arith))))
        near (inr s) d = inl s

        far : In more b ⊎ In c.locked b → KeepsOrder z a b
        far (inl h) = ⊎_elim (λ i. inr (inr (inr (inr (inr (inr (in_held a b (ix.says a m).0 i))))))) (λ i. inr (inr (inr (inl (kind, (pc.stores.says b i).1))))) (io.says b h)
        far (inr h) = let e = kind in inr (inr (inr (inr (inr (inl (omega arith, in_locked b h))))))

    store_has : (a b : ℕ) → (z.events.item a).kind ≡ 1 → Kept a b → Steps x always a b
    unfolding KeepsOrder
    store_has a b e (m, (n, s)) = (ix.has a (m, pc.stores.has a (ph.low a m, e)), (n, go s))
      where
        low : b < z.events.size
        low = pl.low b n

        go : KeepsOrder z a b → rel q a b ⊎ In always b
        go (inl r) = let h = r.0 in absurd (omega arith)
        go (inr (inl r)) = let h = r.0 in absurd (omega arith)
        go (inr (inr (inl r))) = let h = r.0 in absurd (omega arith)
        go (inr (inr (inr (inl r)))) = inr (ia.has b (inl (io.has b (inr (pc.stores.has b (low, r.1))))))
        go (inr (inr (inr (inr (inl r))))) =
            let h = r.1.0 in inl ((pq.pairs a b).1 (ph.low a m, low, inl (omega arith, (omega arith, r.1.1))))
        go (inr (inr (inr (inr (inr (inl r)))))) = inr (ia.has b (inr (locked_in b low r.1)))
        go (inr (inr (inr (inr (inr (inr r)))))) = inr (ia.has b (inl (io.has b (inl (held_in a b m low r.0 r.1)))))

  -- the steps of its register events
  module _ (x : Set) (ix : Is x (λ k. In here k × (In memory k → ⊥))) where
    register_says : (a b : ℕ) → Steps x held a b → Kept a b
    unfolding KeepsOrder
    register_says a b (m, (n, r)) = (i.0, (n, ⊎_elim (λ h. near ((pq.pairs a b).0 h).2) (λ h. inr (inr (inr (inr (inr (inr (in_held a b i.0 h))))))) r))
      where
        i : In here a × (In memory a → ⊥)
        i = ix.says a m

        near : SamePlace (z.events.item a) (z.events.item b) → KeepsOrder z a b
        near (inl s) = absurd (i.1 (memory_in a (ph.low a i.0) s.0))
        near (inr s) = inl s

    register_has : (a b : ℕ) → 2 ≤ (z.events.item a).kind → Kept a b → Steps x held a b
    unfolding KeepsOrder
    register_has a b e (m, (n, s)) = (ix.has a (m, λ h. let g = in_memory a h in omega arith), (n, go s))
      where
        low : b < z.events.size
        low = pl.low b n

        go : KeepsOrder z a b → rel q a b ⊎ In held b
        go (inl r) = inl ((pq.pairs a b).1 (ph.low a m, low, inr r))
        go (inr (inl r)) = let h = r.0 in absurd (omega arith)
        go (inr (inr (inl r))) = let h = r.0 in absurd (omega arith)
        go (inr (inr (inr (inl r)))) = let h = r.0 in absurd (omega arith)
        go (inr (inr (inr (inr (inl r))))) = let h = r.0 in absurd (omega arith)
        go (inr (inr (inr (inr (inr (inl r)))))) = let h = r.0 in absurd (omega arith)
        go (inr (inr (inr (inr (inr (inr r)))))) = inr (held_in a b m low r.0 r.1)

  -- all three
  pub instruction_adds : (loads always : Set) → Is loads (λ k. In here k × In c.loads k) → Is always (λ k. In memory k ⊎ In c.locked k)
      → (stores more besides : Set) → Is stores (λ k. In here k × In c.stores k) → Is more (λ k. In held k ⊎ In c.stores k)
      → Is besides (λ k. In more k ⊎ In c.locked k) → (registers : Set) → Is registers (λ k. In here k × (In memory k → ⊥)) → (t u v w : List ℕ)
      → Adds t u (λ a b. In loads a × (In later b × (rel q a b ⊎ In always b))) → Adds u v (λ a b. In stores a × (In later b × (rel q a b ⊎ In besides b)))
      → Adds v w (λ a b. In registers a × (In later b × (rel q a b ⊎ In held b))) → Adds t w (λ a b. In here a × (In later b × KeepsOrder z a b))
  instruction_adds loads always il ia stores more besides is io ib registers ir t u v w d e f =
      adds_as t w _ _ there (λ a b k. back a b k (ℕ_discrete (z.events.item a).kind 0) (ℕ_discrete (z.events.item a).kind 1))
      (adds_then t v w _ _ (adds_then t u v _ _ d e) f)
    where
      there : (a b : ℕ) → (Steps loads always a b ⊎ Steps stores besides a b) ⊎ Steps registers held a b → Kept a b
      there a b (inl (inl s)) = load_says loads always il ia a b s
      there a b (inl (inr s)) = store_says stores more besides is io ib a b s
      there a b (inr s) = register_says registers ir a b s

      back : (a b : ℕ) → Kept a b → Dec ((z.events.item a).kind ≡ 0) → Dec ((z.events.item a).kind ≡ 1)
          → (Steps loads always a b ⊎ Steps stores besides a b) ⊎ Steps registers held a b
      back a b k (yes g) j = inl (inl (load_has loads always il ia a b g k))
      back a b k (no g) (yes h) = inl (inr (store_has stores more besides is io ib a b h k))
      back a b k (no g) (no h) = inr (register_has registers ir a b (omega arith) k)
