-- What a record without a fault says is formed.
use Prim.Native.Nat.{ℕ, ◌+◌, ◌*◌, ◌%◌, ◌<◌, ◌≤◌}
use mathlib.Core.Path.{◌≡◌, refl}
use mathlib.Core.Logic.{◌⊎◌, inl, inr}
use mathlib.Core.List.{List}
use mathlib.Core.Bool.{Bool, true, false}
use native.Mathlib.Omega.{arith}
use native.Mathlib.Nat.{mul-one}
use lib.ListN.{length}
use lib.Dec.{leb, ltb}
use borrow.Author.Tests.{leb-true, leb-false, ltb-true, eqb-true}
use Rattle.std.specs.Prelude.{Ok}
use Rattle.form.specs.Bytes.{num}
use Rattle.form.specs.Form.{width, limit, place_right, fields, fields_from, event_fields, pair_fields, lock_fields, one_field}
use Rattle.form.specs.Place.{start, count, entry_at, view_start, counts}
use Rattle.form.specs.Right.{Right}
use Rattle.form.proofs.Runs.{pick_next}
use Rattle.form.proofs.Rights.{entry_well, section_of_lem}
use Rattle.record.specs.Says.{event_at, pair_at, execution_of}
use Rattle.record.specs.Formed.{EventFormed, PairFormed, Formed}

module _ (s : List ℕ) (r : Right s) where
  -- entry i of section k stands whole in the record, and its fields are right
  entry_right : (k i : ℕ) → 2 ≤ k → k < 9 → i < count s k
      → (entry_at s k i + width k ≤ length s) × (fields_from k (fields (counts s) s k (entry_at s k i)) (entry_at s k i) ≡ Ok (start s k + 2 + (i + 1) * width k))
  unfolding count entry_at
  entry_right k i a b h =
      let w = entry_well (counts s) s k _ _ (section_of_lem k a (omega arith)) ((r.section k a b).each i h) in (w.0, w.1)

  pub entry_fits : (k i : ℕ) → 2 ≤ k → k < 9 → i < count s k → entry_at s k i + width k ≤ length s
  entry_fits k i a b h = (entry_right k i a b h).0

  place_of : (kind place : ℕ) → place_right (leb 2 kind) place ≡ true → ((kind < 2) × (place % 4 ≡ 0)) ⊎ ((2 ≤ kind) × (place ≤ 14))
  unfolding place_right
  place_of kind place h = go (leb 2 kind) refl
    where
      go : (b : Bool) → leb 2 kind ≡ b → ((kind < 2) × (place % 4 ≡ 0)) ⊎ ((2 ≤ kind) × (place ≤ 14))
      go true e = inr (leb-true 2 kind e, leb-true place 14 (rw e at h))
      go false e = inl (leb-false 2 kind e, eqb-true (place % 4) 0 (rw e at h))

  event_fields_lem : (at z : ℕ) → fields_from 2 (fields (counts s) s 2 at) at ≡ Ok z → EventFormed (num 1 s 1) (event_at s at)
  unfolding fields event_fields counts
  event_fields_lem at z h =
      let (a, h1) = pick_next (ltb (num 1 s at) (num 1 s 1)) _ _ z h in
      let (b, h2) = pick_next (leb (num 1 s (at + 1)) 3) _ _ z h1 in
      let (d, h3) = pick_next (place_right (leb 2 (num 1 s (at + 1))) (num 4 s (at + 4))) _ _ z h2 in
      record { own = ltb-true _ _ a; sort = leb-true _ _ b; at = place_of _ _ d }

  pair_fields_lem : (k at z : ℕ) → fields_from k (pair_fields (counts s) s at) at ≡ Ok z → PairFormed (count s 2) (pair_at s at)
  unfolding pair_fields counts
  pair_fields_lem k at z h =
      let (a, h1) = pick_next (ltb (num 1 s at) (count s 2)) _ _ z h in
      let (b, h2) = pick_next (ltb (num 1 s (at + 1)) (count s 2)) _ _ z h1 in
      (ltb-true _ _ a, ltb-true _ _ b)

  lock_fields_lem : (at z : ℕ) → fields_from 4 (lock_fields (counts s) s at) at ≡ Ok z → num 1 s at < num 1 s 1
  unfolding lock_fields counts
  lock_fields_lem at z h = ltb-true _ _ (pick_next (ltb (num 1 s at) (num 1 s 1)) _ _ z h).0

  one_field_lem : (k n at z : ℕ) → fields_from k (one_field n s at) at ≡ Ok z → num 1 s at < n
  unfolding one_field
  one_field_lem k n at z h = ltb-true _ _ (pick_next (ltb (num 1 s at) n) _ _ z h).0

  within : (k : ℕ) → 2 ≤ k → k < 9 → count s k ≤ limit k
  unfolding count
  within k a b = (r.section k a b).within

  view_item : (p i : ℕ) → p < num 1 s 1 → i < num 2 s (view_start s p) → num 1 s (view_start s p + 2 + i) < count s 2
  unfolding fields counts width
  view_item p i h l =
      let w = entry_well (counts s) s 9 _ _ (section_of_lem 9 (omega arith) (omega arith)) ((r.view p h).each i l) in
      let e : i * 1 ≡ i = mul-one i in
      rw e at (one_field_lem 9 (count s 2) _ _ w.1)

  pub formed : Formed (execution_of s)
  unfolding fields counts limit
  formed = record {
    processors = r.processors;
    events = record { within = within 2 (omega arith) (omega arith); each = λ i h. event_fields_lem _ _ (entry_right 2 i (omega arith) (omega arith) h).1 };
    causes = record { within = within 3 (omega arith) (omega arith); each = λ i h. pair_fields_lem 3 _ _ (entry_right 3 i (omega arith) (omega arith) h).1 };
    locks = record { within = within 4 (omega arith) (omega arith); each = λ i h. lock_fields_lem _ _ (entry_right 4 i (omega arith) (omega arith) h).1 };
    stores = record { within = within 6 (omega arith) (omega arith); each = λ i h. one_field_lem 6 _ _ _ (entry_right 6 i (omega arith) (omega arith) h).1 };
    lock_order = record { within = within 7 (omega arith) (omega arith); each = λ i h. one_field_lem 7 _ _ _ (entry_right 7 i (omega arith) (omega arith) h).1 };
    sources = record { within = within 8 (omega arith) (omega arith); each = λ i h. pair_fields_lem 8 _ _ (entry_right 8 i (omega arith) (omega arith) h).1 };
    view = λ p h. record { within = (r.view p h).within; each = λ i l. view_item p i h l };
  }
