-- The numbers of a list that are in a set, written in list order.
use Prim.Native.Nat.{ℕ, ◌+◌, ◌-◌, ◌<◌, ◌≤◌}
use mathlib.Core.Path.{◌≡◌, refl, ◌∙◌}
use mathlib.Core.Bool.{Bool, true, false}
use mathlib.Core.List.{List, [], ◌∷◌}
use native.Mathlib.Omega.{arith}
use native.Mathlib.Numerals.{add-one}
use lib.ListN.{length, drop, set, length-set, drop_of_length-le}
use lib.Seq.{drop-cons}
use Rattle.std.specs.Prelude.{EachIndex}
use Rattle.order.specs.Decides.{Decides}
use Rattle.rows.specs.Members.{In}
use Rattle.rows.specs.declared.Set.{Set}
use Rattle.sequences.specs.Sequence.{steps}
use Rattle.sequences.specs.ReadOff.{choose, picked}
use Rattle.form.specs.Bytes.{two_bytes, counted}
use Rattle.lent.specs.Put.{Put, PutTo}
use Rattle.readoff.proofs.Parts.{Part, part_none, part_more, part_ends, part_done}

-- the test picks the numbers in the set
abbrev pub Picks : Set → List ℕ → (ℕ → Bool) → Type 0
Picks some l test = EachIndex l (λ i. Decides (test ((steps l).item i)) (In some ((steps l).item i)))

-- of the first i numbers those in the set are written, and end at `to`
pub record Picking (l : List ℕ) (some : Set) (before : List ℕ) (at : ℕ) (after : List ℕ) (to i : ℕ) : Type 0 where
  pub low : at + 2 ≤ to
  pub high : to ≤ at + 2 + i
  pub same : length after ≡ length before
  pub part : (test : ℕ → Bool) → Picks some l test → Part before at after to (picked test (drop i l)) (picked test l)

pub chosen : {A : Type 0} {P : Type 0} (r : Bool) (a b : A) → Decides r P → P → choose r a b ≡ a
chosen true a b d p = refl
chosen false a b d p = absurd (d.fails refl p)

pub left : {A : Type 0} {P : Type 0} (r : Bool) (a b : A) → Decides r P → (P → ⊥) → choose r a b ≡ b
left true a b d n = absurd (n (d.holds refl))
left false a b d n = refl

module _ (l : List ℕ) (some : Set) (before : List ℕ) (at : ℕ) where
  pub picking_none : at + 2 ≤ length before → Picking l some before at before (at + 2) 0
  picking_none h = record { low = omega arith; high = omega arith; same = refl; part = λ test d. part_none before (picked test l) at h }

  module _ (after : List ℕ) (to i : ℕ) (p : Picking l some before at after to i) where
    -- the number at i is the next, or left out
    module _ (less : i < length l) where
      abbrev here : ℕ
      here = (steps l).item i

      module _ (test : ℕ → Bool) (d : Picks some l test) where
        abbrev rest : List ℕ
        rest = picked test (drop (i + 1) l)

        next : picked test (drop i l) ≡ choose (test here) (here ∷ rest) rest
        unfolding picked
        next = rw (drop-cons l i 0 less, add-one i)

        next_in : In some here → Part before at after to (here ∷ rest) (picked test l)
        next_in m = rw (next ∙ chosen (test here) (here ∷ rest) rest (d i less) m) at (p.part test d)

        next_out : (In some here → ⊥) → Part before at after to rest (picked test l)
        next_out m = rw (next ∙ left (test here) (here ∷ rest) rest (d i less) m) at (p.part test d)

      pub picking_more : In some here → to < length before → Picking l some before at (set after to here) (to + 1) (i + 1)
      picking_more m h =
          let u = p.low in
          let v = p.high in
          record {
            low = omega arith;
            high = omega arith;
            same = length-set after to here ∙ p.same;
            part = λ test d. part_more before after (rest test d) (picked test l) at to here (next_in test d m) h;
          }

      pub picking_skip : (In some here → ⊥) → Picking l some before at after to (i + 1)
      picking_skip m = let v = p.high in record { low = p.low; high = omega arith; same = p.same; part = λ test d. next_out test d m }

    pub picking_done : length l ≤ i → (c : List ℕ) → Put after at (two_bytes (to - at - 2)) c → (test : ℕ → Bool) → Picks some l test
        → PutTo before at (counted (picked test l)) c to
    unfolding picked
    picking_done h c q test d =
        let z : drop i l ≡ [] = drop_of_length-le l h in
        let r : Part before at after to [] (picked test l) = rw z at (p.part test d) in
        let k : to - at - 2 ≡ length (picked test l) = omega (arith, part_ends before after (picked test l) at to r) in
        part_done before after (picked test l) at to r c (length (picked test l)) (rw k at q)
