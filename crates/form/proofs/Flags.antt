-- A test of a whole entry that came out true: its fields are right.
use Prim.Native.Nat.{ℕ, ◌+◌, ◌/◌, ◌%◌, ◌≤◌, ◌<◌}
use mathlib.Core.Path.{◌≡◌, refl}
use mathlib.Core.List.{List}
use mathlib.Core.Bool.{Bool, true, false, ◌&&◌, ◌||◌}
use mathlib.Core.Logic.{◌⊎◌, inl, inr, ⊎_elim}
use native.Mathlib.Omega.{arith}
use lib.Dec.{leb, ltb, eqb}
use borrow.Author.Tests.{ltb-true, leb-true, eqb-true, lt-ltb, le-leb, lt-leb, eq-eqb, ne_eqb}
use Rattle.std.specs.Prelude.{Ok}
use Rattle.form.specs.Bytes.{num}
use Rattle.form.specs.Form.{fields_from, event_fields, lock_fields, initial_fields, place_right, owner_right}
use Rattle.form.specs.declared.Counts.{Counts}
use Rattle.form.proofs.Branches.{event_right, lock_right, initial_right}

pub both : (a b : Bool) → (a && b) ≡ true → (a ≡ true) × (b ≡ true)
both true b h = (refl, h)
both false b h = (h, (cc))

either : (a b : Bool) → (a || b) ≡ true → (a ≡ true) ⊎ (b ≡ true)
either true b h = inl refl
either false b h = inr h

place_address : (b : Bool) (p : ℕ) → b ≡ false → eqb (p % 4) 0 ≡ true → place_right b p ≡ true
unfolding place_right
place_address b p e h = rw e h

place_register : (b : Bool) (p : ℕ) → b ≡ true → leb p 14 ≡ true → place_right b p ≡ true
unfolding place_right
place_register b p e h = rw e h

owner_memory : (k p n : ℕ) → k ≡ 0 → p ≡ 0 → owner_right k p n ≡ true
unfolding owner_right
owner_memory k p n h g = simp (eq-eqb _ _ h, eq-eqb _ _ g)

owner_register : (k p n : ℕ) → (k ≡ 0 → ⊥) → p < n → owner_right k p n ≡ true
unfolding owner_right
owner_register k p n h g = simp (ne_eqb _ _ h, lt-ltb _ _ g)

pub lock_flag : (c : Counts) (s : List ℕ) (at head : ℕ) → head % 256 ≡ num 1 s at → head / 256 % 256 ≡ num 1 s (at + 1) → c.processors < 256
    → ltb (head % 65536) c.processors ≡ true → Ok (at + 4) ≡ fields_from 4 (lock_fields c s at) at
lock_flag c s at head first second few h = let l : head % 65536 < c.processors = ltb-true _ _ h in lock_right c s at (omega arith) (omega arith)

module _ (c : Counts) (s : List ℕ) (at head place : ℕ) (value : place ≡ num 4 s (at + 4)) where
  -- an address divisible by 4 where `a` holds, or a register where `b` and `d` do
  abbrev pub places : Bool → Bool → Bool → Bool
  places a b d = (a && eqb (place % 4) 0) || ((b && d) && leb place 14)

  cases : {X : Type 0} (a b d : Bool) → (a ≡ true → eqb (num 4 s (at + 4) % 4) 0 ≡ true → X)
      → (b ≡ true → d ≡ true → leb (num 4 s (at + 4)) 14 ≡ true → X) → places a b d ≡ true → X
  cases {X} a b d f g h = ⊎_elim left right (either (a && eqb (place % 4) 0) ((b && d) && leb place 14) h)
    where
      left : (a && eqb (place % 4) 0) ≡ true → X
      left w = let (x, y) = both a (eqb (place % 4) 0) w in f x (rw value at y)

      right : ((b && d) && leb place 14) ≡ true → X
      right w = let (x, y) = both (b && d) (leb place 14) w in let (u, v) = both b d x in g u v (rw value at y)

  module _ (first : head % 256 ≡ num 1 s at) (second : head / 256 % 256 ≡ num 1 s (at + 1)) where
    pub event_flag : (ltb (head % 256) c.processors && places (ltb (head / 256 % 256) 2) (leb 2 (head / 256 % 256)) (leb (head / 256 % 256) 3)) ≡ true
        → Ok (at + 12) ≡ fields_from 2 (event_fields c s at) at
    event_flag h = cases (ltb (head / 256 % 256) 2) (leb 2 (head / 256 % 256)) (leb (head / 256 % 256) 3) memory register q.1
      where
        q : (ltb (head % 256) c.processors ≡ true) × (places (ltb (head / 256 % 256) 2) (leb 2 (head / 256 % 256)) (leb (head / 256 % 256) 3) ≡ true)
        q = both _ _ h

        memory : ltb (head / 256 % 256) 2 ≡ true → eqb (num 4 s (at + 4) % 4) 0 ≡ true → Ok (at + 12) ≡ fields_from 2 (event_fields c s at) at
        memory a b = let l : head % 256 < c.processors = ltb-true _ _ q.0 in let k : head / 256 % 256 < 2 = ltb-true _ _ a in
            event_right c s at (omega arith) (omega arith) (place_address _ _ (lt-leb 2 (num 1 s (at + 1)) (omega arith)) b)

        register : leb 2 (head / 256 % 256) ≡ true → leb (head / 256 % 256) 3 ≡ true → leb (num 4 s (at + 4)) 14 ≡ true → Ok (at + 12) ≡ fields_from 2 (event_fields c s at) at
        register a d b = let l : head % 256 < c.processors = ltb-true _ _ q.0 in let k : 2 ≤ head / 256 % 256 = leb-true _ _ a in let g : head / 256 % 256 ≤ 3 = leb-true _ _ d in
            event_right c s at (omega arith) (omega arith) (place_register _ _ (le-leb 2 (num 1 s (at + 1)) (omega arith)) b)

    pub initial_flag : c.processors < 256 → head / 65536 ≡ num 2 s (at + 2)
        → places (eqb head 0) (leb 256 head) (ltb head (256 + c.processors)) ≡ true → Ok (at + 12) ≡ fields_from 5 (initial_fields c s at) at
    initial_flag few upper h = cases (eqb head 0) (leb 256 head) (ltb head (256 + c.processors)) memory register h
      where
        memory : eqb head 0 ≡ true → eqb (num 4 s (at + 4) % 4) 0 ≡ true → Ok (at + 12) ≡ fields_from 5 (initial_fields c s at) at
        memory a b = let z : head ≡ 0 = eqb-true _ _ a in
            initial_right c s at (owner_memory _ _ _ (omega arith) (omega arith)) (omega arith) (omega arith)
            (place_address _ _ (ne_eqb (num 1 s (at + 1)) 1 (omega arith)) b)

        register : leb 256 head ≡ true → ltb head (256 + c.processors) ≡ true → leb (num 4 s (at + 4)) 14 ≡ true → Ok (at + 12) ≡ fields_from 5 (initial_fields c s at) at
        register a d b = let g : 256 ≤ head = leb-true _ _ a in let f : head < 256 + c.processors = ltb-true _ _ d in
            initial_right c s at (owner_register _ _ _ (omega arith) (omega arith)) (omega arith) (omega arith)
            (place_register _ _ (eq-eqb (num 1 s (at + 1)) 1 (omega arith)) b)
