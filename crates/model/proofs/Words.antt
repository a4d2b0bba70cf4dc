-- Each word of the HOL specification, of what a record says, is the word that the rules use.
use Prim.Native.Nat.{ℕ, zero, suc, ◌<◌, ◌≤◌}
use mathlib.Core.Path.{◌≡◌, refl, sym, ap, ap₂, ◌∙◌}
use mathlib.Core.Logic.{◌⊎◌, inl, inr, ⊎_elim, ◌↔◌}
use native.Mathlib.Omega.{arith}
use native.Mathlib.Decide.{ℕ_discrete, dec_lt}
use Rattle.record.specs.Execution.{Initial, Execution}
use Rattle.record.specs.Formed.{Formed}
use Rattle.record.specs.Words.{Memory, Register, SameAddress, SameRegister, SamePlace, SameInstruction, InitialFor}
use Rattle.record.specs.declared.Event.{Event}
use Rattle.model.specs.Hol.{Dirn, R, W, Location, location_reg, location_mem, Action, ACCESS, Iid, location_of, loc, mem_load, mem_store, writes, reads, locked, viewed_events, at_one_register, preserved_program_order, happens_before}
use Rattle.model.specs.Model.{Load, Store, Reads, Writes, Locked, KeepsOrder, Preserved, Sees, HappensBefore}
use Rattle.model.specs.Says.{action_by, EntryFor, structure_of, witness_of}

-- ---- what an action tells

abbrev kind_of : Action → ℕ
kind_of (ACCESS R (location_mem a) v) = 0
kind_of (ACCESS W (location_mem a) v) = 1
kind_of (ACCESS R (location_reg p r) v) = 2
kind_of (ACCESS W (location_reg p r) v) = 3

abbrev value_of : Action → ℕ
value_of (ACCESS d l v) = v

abbrev place_of : Location → ℕ
place_of (location_reg p r) = r
place_of (location_mem a) = a

abbrev owner_of : Location → ℕ
owner_of (location_reg p r) = p
owner_of (location_mem a) = 0

abbrev class_of : Location → ℕ
class_of (location_reg p r) = 1
class_of (location_mem a) = 0

abbrev location_in : Event → Location
location_in x = location_of (action_by x.kind x)

kind_by : (k : ℕ) (x : Event) → k ≤ 3 → kind_of (action_by k x) ≡ k
kind_by zero x h = refl
kind_by (suc zero) x h = refl
kind_by (suc (suc zero)) x h = refl
kind_by (suc (suc (suc k))) x h = omega arith

memory_by : (k : ℕ) (x : Event) → k < 2 → location_of (action_by k x) ≡ location_mem x.place
memory_by zero x h = refl
memory_by (suc zero) x h = refl
memory_by (suc (suc k)) x h = absurd (omega arith)

register_by : (k : ℕ) (x : Event) → 2 ≤ k → location_of (action_by k x) ≡ location_reg x.processor x.place
register_by zero x h = absurd (omega arith)
register_by (suc zero) x h = absurd (omega arith)
register_by (suc (suc zero)) x h = refl
register_by (suc (suc (suc k))) x h = refl

value_by : (k : ℕ) (x : Event) → value_of (action_by k x) ≡ x.value
value_by zero x = refl
value_by (suc zero) x = refl
value_by (suc (suc zero)) x = refl
value_by (suc (suc (suc k))) x = refl

-- a location is a register's or an address, as the event is
module _ (x : Event) where
  pub memory_location : Memory x → location_in x ≡ location_mem x.place
  memory_location h = memory_by x.kind x h

  pub register_location : Register x → location_in x ≡ location_reg x.processor x.place
  register_location h = register_by x.kind x h

  pub memory_or : Memory x ⊎ Register x
  memory_or = go (dec_lt x.kind 2)
    where
      go : Dec (x.kind < 2) → Memory x ⊎ Register x
      go (yes h) = inl h
      go (no h) = inr (omega arith)

  pub location_register : (p r : ℕ) → location_in x ≡ location_reg p r → Register x × (x.processor ≡ p)
  location_register p r e = go memory_or
    where
      go : Memory x ⊎ Register x → Register x × (x.processor ≡ p)
      go (inl h) = let c : ◌≡◌ {A = ℕ} 0 1 = ap class_of (sym (memory_location h) ∙ e) in absurd (omega arith)
      go (inr h) = (h, ap owner_of (sym (register_location h) ∙ e))

  -- a write's action, and what it tells
  pub writes_action : Writes x → action_by x.kind x ≡ ACCESS W (location_in x) x.value
  writes_action (inl e) = rw e
  writes_action (inr e) = rw e

  pub reads_action : Reads x → action_by x.kind x ≡ ACCESS R (location_in x) x.value
  reads_action (inl e) = rw e
  reads_action (inr e) = rw e

  pub store_action : Store x → action_by x.kind x ≡ ACCESS W (location_mem x.place) x.value
  store_action e = rw e

  pub load_action : Load x → action_by x.kind x ≡ ACCESS R (location_mem x.place) x.value
  load_action e = rw e

  pub action_value : (d : Dirn) (l : Location) (v : ℕ) → action_by x.kind x ≡ ACCESS d l v → x.value ≡ v
  action_value d l v e = sym (value_by x.kind x) ∙ ap value_of e

  module _ (h : x.kind ≤ 3) where
    kind_is : (a : Action) → action_by x.kind x ≡ a → x.kind ≡ kind_of a
    kind_is a e = sym (kind_by x.kind x h) ∙ ap kind_of e

    pub action_writes : (l : Location) (v : ℕ) → action_by x.kind x ≡ ACCESS W l v → Writes x
    action_writes (location_reg p r) v e = inr (kind_is _ e)
    action_writes (location_mem a) v e = inl (kind_is _ e)

    pub action_reads : (l : Location) (v : ℕ) → action_by x.kind x ≡ ACCESS R l v → Reads x
    action_reads (location_reg p r) v e = inr (kind_is _ e)
    action_reads (location_mem a) v e = inl (kind_is _ e)

    pub action_store : (a v : ℕ) → action_by x.kind x ≡ ACCESS W (location_mem a) v → Store x
    action_store a v e = kind_is _ e

    pub action_load : (a v : ℕ) → action_by x.kind x ≡ ACCESS R (location_mem a) v → Load x
    action_load a v e = kind_is _ e

-- one location is one place
module _ (x y : Event) where
  pub place_location : SamePlace x y → location_in x ≡ location_in y
  place_location (inl (mx, (my, e))) = memory_location x mx ∙ ap location_mem e ∙ sym (memory_location y my)
  place_location (inr (rx, (ry, (p, e)))) = register_location x rx ∙ ap₂ location_reg p e ∙ sym (register_location y ry)

  pub location_place : location_in x ≡ location_in y → SamePlace x y
  location_place e = go (memory_or x) (memory_or y)
    where
      go : Memory x ⊎ Register x → Memory y ⊎ Register y → SamePlace x y
      go (inl mx) (inl my) = inl (mx, (my, ap place_of (sym (memory_location x mx) ∙ e ∙ memory_location y my)))
      go (inl mx) (inr ry) = let c : ◌≡◌ {A = ℕ} 0 1 = ap class_of (sym (memory_location x mx) ∙ e ∙ register_location y ry) in absurd (omega arith)
      go (inr rx) (inl my) = let c : ◌≡◌ {A = ℕ} 1 0 = ap class_of (sym (register_location x rx) ∙ e ∙ memory_location y my) in absurd (omega arith)
      go (inr rx) (inr ry) =
          let q = sym (register_location x rx) ∙ e ∙ register_location y ry in inr (rx, (ry, (ap owner_of q, ap place_of q)))

-- an entry of section 5 for the event's place
module _ (x : Event) (i : Initial) where
  pub initial_entry : InitialFor x i → EntryFor (location_in x) i
  initial_entry (inl (m, (c, p))) = rw (memory_location x m) (c, sym p)
  initial_entry (inr (r, (c, (o, p)))) = rw (register_location x r) (c, sym o, sym p)

  pub entry_initial : EntryFor (location_in x) i → InitialFor x i
  entry_initial f = go (memory_or x)
    where
      go : Memory x ⊎ Register x → InitialFor x i
      go (inl m) = let g = rw (memory_location x m) at f in inl (m, (g.0, sym g.1))
      go (inr r) = let g = rw (register_location x r) at f in inr (r, (g.0, (sym g.1, sym g.2)))

-- ---- the words, of events of a record that has the form

module _ (z : Execution) (f : Formed z) where
  pub kind_low : (e : ℕ) → e < z.events.size → (z.events.item e).kind ≤ 3
  kind_low e h = (f.events.each e h).sort

  pub writes_is : (e : ℕ) → writes (structure_of z) e ↔ ((e < z.events.size) × Writes (z.events.item e))
  writes_is e = (
    λ q. (q.0, action_writes _ (kind_low e q.0) q.1.0 q.1.1 q.1.2),
    λ q. (q.0, (_, _, writes_action _ q.1)),
  )

  pub reads_is : (e : ℕ) → reads (structure_of z) e ↔ ((e < z.events.size) × Reads (z.events.item e))
  reads_is e = (
    λ q. (q.0, action_reads _ (kind_low e q.0) q.1.0 q.1.1 q.1.2),
    λ q. (q.0, (_, _, reads_action _ q.1)),
  )

  module _ (e : ℕ) (h : e < z.events.size) where
    pub store_is : mem_store (structure_of z) e ↔ Store (z.events.item e)
    store_is = (λ q. action_store _ (kind_low e h) q.0 q.1 q.2, λ q. (_, _, store_action _ q))

    pub load_is : mem_load (structure_of z) e ↔ Load (z.events.item e)
    load_is = (λ q. action_load _ (kind_low e h) q.0 q.1 q.2, λ q. (_, _, load_action _ q))

    memory_is : (mem_load (structure_of z) e ⊎ mem_store (structure_of z) e) ↔ Memory (z.events.item e)
    memory_is = (to, λ m. at m (ℕ_discrete (z.events.item e).kind 0))
      where
        to : mem_load (structure_of z) e ⊎ mem_store (structure_of z) e → Memory (z.events.item e)
        to (inl q) = let k = load_is.0 q in omega arith
        to (inr q) = let k = store_is.0 q in omega arith

        at : Memory (z.events.item e) → Dec ((z.events.item e).kind ≡ 0) → mem_load (structure_of z) e ⊎ mem_store (structure_of z) e
        at m (yes k) = inl (load_is.1 k)
        at m (no k) = inr (store_is.1 (omega arith))

    pub locked_is : locked (structure_of z) e ↔ Locked z e
    unfolding Locked
    locked_is = (λ q. (q.0, q.1, q.2.1), λ q. (q.0, q.1, (h, q.2)))

  pub seen_is : (p e : ℕ) → viewed_events (structure_of z) p e ↔ Sees z p e
  seen_is p e = (
    λ q. (q.0, ⊎_elim (λ o. inl o) (λ s. inr ((store_is e q.0).0 s)) q.1),
    λ q. (q.0, ⊎_elim (λ o. inl o) (λ s. inr ((store_is e q.0).1 s)) q.1),
  )

  module _ (a b : ℕ) where
    pub place_is : (loc (structure_of z) a ≡ loc (structure_of z) b) ↔ SamePlace (z.events.item a) (z.events.item b)
    place_is = (location_place (z.events.item a) (z.events.item b), place_location (z.events.item a) (z.events.item b))

    pub instruction_is : ((structure_of z).iid a ≡ (structure_of z).iid b) ↔ SameInstruction (z.events.item a) (z.events.item b)
    instruction_is = (λ e. (ap (λ (i : Iid). i.proc) e, ap (λ (i : Iid). i.program_order_index) e), λ s. ap₂ (λ (p i : ℕ). make p i) s.0 s.1)
      where
        make : ℕ → ℕ → Iid
        make p i = record { proc = p; program_order_index = i }

    pub register_is : at_one_register (structure_of z) a b ↔ SameRegister (z.events.item a) (z.events.item b)
    register_is = (to, λ s. (_, _, place_is.1 (inr s), register_location _ s.0))
      where
        to : at_one_register (structure_of z) a b → SameRegister (z.events.item a) (z.events.item b)
        to (p, r, e, g) = go (place_is.0 e)
          where
            go : SamePlace (z.events.item a) (z.events.item b) → SameRegister (z.events.item a) (z.events.item b)
            go (inl s) = let m = s.0 in let k = (location_register (z.events.item a) p r g).0 in absurd (omega arith)
            go (inr s) = s

    -- memory events at one location have one address
    pub address_of : Memory (z.events.item a) → loc (structure_of z) a ≡ loc (structure_of z) b → SameAddress (z.events.item a) (z.events.item b)
    address_of m e = go (place_is.0 e)
      where
        go : SamePlace (z.events.item a) (z.events.item b) → SameAddress (z.events.item a) (z.events.item b)
        go (inl s) = s
        go (inr s) = let k = s.0 in absurd (omega arith)

    preserved_to : preserved_program_order (structure_of z) a b → Preserved z a b
    unfolding KeepsOrder
    preserved_to ((p, l, h, g), inl q) = (h, g, ((p, l), inl (register_is.0 q)))
    preserved_to ((p, l, h, g), inr (inl (x, y))) = (h, g, ((p, l), inr (inl ((load_is a h).0 x, (load_is b g).0 y))))
    preserved_to ((p, l, h, g), inr (inr (inl (x, y)))) = (h, g, ((p, l), inr (inr (inr (inl ((store_is a h).0 x, (store_is b g).0 y))))))
    preserved_to ((p, l, h, g), inr (inr (inr (inl (x, y))))) = (h, g, ((p, l), inr (inr (inl ((load_is a h).0 x, (store_is b g).0 y)))))
    preserved_to ((p, l, h, g), inr (inr (inr (inr (inl (x, y, e)))))) =
        let s = (store_is a h).0 x in
        (h, g, ((p, l), inr (inr (inr (inr (inl (s, ((load_is b g).0 y, (address_of (omega arith) e).1.1))))))))
    preserved_to ((p, l, h, g), inr (inr (inr (inr (inr (inl (x, y))))))) =
        (h, g, ((p, l), inr (inr (inr (inr (inr (inl ((memory_is a h).0 x, (locked_is b g).0 y))))))))
    preserved_to ((p, l, h, g), inr (inr (inr (inr (inr (inr (x, y))))))) =
        (h, g, ((p, l), inr (inr (inr (inr (inr (inr ((locked_is a h).0 x, (memory_is b g).0 y))))))))

    to_preserved : Preserved z a b → preserved_program_order (structure_of z) a b
    unfolding KeepsOrder
    to_preserved (h, g, ((p, l), inl q)) = ((p, l, h, g), inl (register_is.1 q))
    to_preserved (h, g, ((p, l), inr (inl (x, y)))) = ((p, l, h, g), inr (inl ((load_is a h).1 x, (load_is b g).1 y)))
    to_preserved (h, g, ((p, l), inr (inr (inl (x, y))))) = ((p, l, h, g), inr (inr (inr (inl ((load_is a h).1 x, (store_is b g).1 y)))))
    to_preserved (h, g, ((p, l), inr (inr (inr (inl (x, y)))))) = ((p, l, h, g), inr (inr (inl ((store_is a h).1 x, (store_is b g).1 y))))
    to_preserved (h, g, ((p, l), inr (inr (inr (inr (inl (x, (y, e)))))))) =
        ((p, l, h, g), inr (inr (inr (inr (inl ((store_is a h).1 x, (load_is b g).1 y, place_is.1 (inl (omega arith, (omega arith, e)))))))))
    to_preserved (h, g, ((p, l), inr (inr (inr (inr (inr (inl (x, y)))))))) =
        ((p, l, h, g), inr (inr (inr (inr (inr (inl ((memory_is a h).1 x, (locked_is b g).1 y)))))))
    to_preserved (h, g, ((p, l), inr (inr (inr (inr (inr (inr (x, y)))))))) =
        ((p, l, h, g), inr (inr (inr (inr (inr (inr ((locked_is a h).1 x, (memory_is b g).1 y)))))))

    -- the other parts of happens-before are named alike
    pub happens_to : happens_before (structure_of z) (witness_of z) a b → HappensBefore z a b
    unfolding HappensBefore
    happens_to (inl q) = inl q
    happens_to (inr (inl q)) = inr (inl (preserved_to q))
    happens_to (inr (inr q)) = inr (inr q)

    pub to_happens : HappensBefore z a b → happens_before (structure_of z) (witness_of z) a b
    unfolding HappensBefore
    to_happens (inl q) = inl q
    to_happens (inr (inl q)) = inr (inl (to_preserved q))
    to_happens (inr (inr q)) = inr (inr q)
