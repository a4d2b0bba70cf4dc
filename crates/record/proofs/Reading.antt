-- Entries read in place: where their fields stand, and that the place is within the record.
use Prim.Native.Nat.{ℕ, ◌+◌, ◌*◌, ◌<◌, ◌≤◌}
use mathlib.Core.Path.{◌≡◌, ap}
use mathlib.Core.Logic.{◌⊎◌, inl, inr}
use mathlib.Core.List.{List}
use native.Mathlib.Omega.{arith}
use lib.ListN.{length}
use lib.Dec.{eqb, ltb, leb}
use mathlib.Core.Bool.{◌||◌, ◌&&◌}
use Rattle.form.specs.Bytes.{num}
use Rattle.form.specs.Form.{width}
use Rattle.form.specs.Place.{entry_at, view_start}
use Rattle.form.specs.Right.{Right}
use Rattle.order.specs.Decides.{Decides}
use Rattle.order.proofs.Tests.{by_or, by_and, by_eq, by_lt, by_le}
use Rattle.record.specs.Execution.{Initial}
use Rattle.record.specs.Words.{Memory, Register, InitialFor}
use Rattle.record.specs.declared.Event.{Event}
use Rattle.record.specs.Laid.{Stands, Views}
use Rattle.record.specs.Says.{execution_of}
use Rattle.form.proofs.Starts.{view_start_next}
use Rattle.record.specs.declared.Part.{Part}
use Rattle.record.proofs.Lengths.{length_low}
use Rattle.record.proofs.Places.{entry_place, entry_within}

-- entry i of section k, w bytes wide, and d bytes into it
module _ (s : List ℕ) (r : Right s) (k : ℕ) (a : 2 ≤ k) (b : k < 9) (p : Part) (q : Stands s k p) (w : ℕ) (e : w ≡ width k) (i : ℕ) (h : i < p.count) where
  pub field_fits : (d n : ℕ) → d + n ≤ w → p.at + w * i + d + n ≤ length s
  field_fits d n l = let f = entry_within s r k a b p q w e i h in omega arith

  pub entry_fit : (n : ℕ) → n ≤ w → p.at + w * i + n ≤ length s
  entry_fit n l = let f = entry_within s r k a b p q w e i h in omega arith

  pub field_small : (d : ℕ) → d ≤ w → p.at + w * i + d ≤ 2346
  field_small d l = let f = entry_within s r k a b p q w e i h in let g = length_low s r in omega arith

  pub entry_small : p.at + w * i ≤ 2346
  entry_small = let f = entry_within s r k a b p q w e i h in let g = length_low s r in omega arith

  pub index_small : w * i ≤ 2346
  index_small = let f = entry_small in omega arith

  pub field_of : (n d : ℕ) → num n s (p.at + w * i + d) ≡ num n s (entry_at s k i + d)
  field_of n d = ap (λ (x : ℕ). num n s (x + d)) (entry_place s r k a b p q w e i)

  pub first_of : (n : ℕ) → num n s (p.at + w * i) ≡ num n s (entry_at s k i)
  first_of n = ap (num n s) (entry_place s r k a b p q w e i)

-- an entry of section 5 is of the event's class and owner
abbrev pub Owned : Event → Initial → Type 0
Owned x i = (Memory x × (i.class ≡ 0)) ⊎ (Register x × ((i.class ≡ 1) × (x.processor ≡ i.processor)))

pub owned_tested : (x : Event) (i : Initial) (class owner : ℕ) → class ≡ i.class → owner ≡ i.processor
    → Decides ((ltb x.kind 2 && eqb class 0) || (leb 2 x.kind && (eqb class 1 && eqb x.processor owner))) (Owned x i)
owned_tested x i class owner ec eo =
    rw (ec, eo) (by_or _ _ (by_and _ _ (by_lt _ _) (by_eq _ _)) (by_and _ _ (by_le _ _) (by_and _ _ (by_eq _ _) (by_eq _ _))))

-- and then of the same place, it is for the event's place
pub owned_for : (x : Event) (i : Initial) → x.place ≡ i.place → Owned x i → InitialFor x i
owned_for x i e (inl q) = inl (q.0, (q.1, e))
owned_for x i e (inr q) = inr (q.0, (q.1.0, (q.1.1, e)))

pub for_owned : (x : Event) (i : Initial) → InitialFor x i → (x.place ≡ i.place) × Owned x i
for_owned x i (inl q) = (q.1.1, inl (q.0, q.1.0))
for_owned x i (inr q) = (q.1.1.1, inr (q.0, (q.1.0, q.1.1.0)))

-- a view's count and its events stand in the record
module _ (s : List ℕ) (r : Right s) (p : ℕ) (h : p < num 1 s 1) where
  view_end : view_start s p + 2 + num 2 s (view_start s p) ≤ length s
  view_end = let f = (r.view p h).fits in let e = view_start_next s p in omega arith

  pub view_count_fits : view_start s p + 2 ≤ length s
  view_count_fits = let f = view_end in omega arith

  pub view_count_small : view_start s p + 2 ≤ 2346
  view_count_small = let f = view_count_fits in let g = length_low s r in omega arith

pub item_is : (s : List ℕ) (p : ℕ) (v : Part) (i : ℕ) → Views s p v → num 1 s (v.at + i) ≡ ((execution_of s).view p).item i
item_is s p v i q = ap (λ (x : ℕ). num 1 s (x + i)) q.place
