-- The entries of section 4.
use Prim.Native.Nat.{ℕ, ◌+◌, ◌*◌, ◌<◌, ◌≤◌}
use mathlib.Core.Path.{◌≡◌, refl, ap, subst}
use mathlib.Core.List.{List}
use native.Mathlib.Omega.{arith}
use lib.ListN.{length}
use Rattle.form.specs.Bytes.{num}
use Rattle.form.specs.Form.{width}
use Rattle.form.specs.Place.{count, entry_at}
use Rattle.form.specs.Right.{Right}
use Rattle.record.specs.Says.{execution_of}
use Rattle.record.specs.Laid.{Stands}
use Rattle.record.specs.declared.Part.{Part}
use Rattle.record.proofs.Formings.{formed}
use Rattle.record.proofs.Lengths.{length_low}
use Rattle.record.proofs.Places.{event_place, event_fits, entry_place, entry_within}

module _ (s : List ℕ) (r : Right s) (p : Part) (q : Stands s 4 p) (i : ℕ) (h : i < p.count) where
  four : 4 ≡ width 4
  unfolding width
  four = refl

  pub lock_place : p.at + 4 * i ≡ entry_at s 4 i
  lock_place = entry_place s r 4 (omega arith) (omega arith) p q 4 four i

  pub lock_fits : p.at + 4 * i + 4 ≤ length s
  lock_fits = entry_within s r 4 (omega arith) (omega arith) p q 4 four i h

  pub lock_low : p.at + 4 * i + 4 ≤ 2346
  lock_low = let a = lock_fits in let b = length_low s r in omega arith

  pub lock_within : i < (execution_of s).locks.size
  lock_within = subst (λ (x : ℕ). i < x) q.number h

  pub lock_processor : num 1 s (p.at + 4 * i) ≡ ((execution_of s).locks.item i).processor
  lock_processor = ap (num 1 s) lock_place

  pub lock_index : num 2 s (p.at + 4 * i + 2) ≡ ((execution_of s).locks.item i).index
  lock_index = ap (λ (x : ℕ). num 2 s (x + 2)) lock_place

  pub lock_four : ((execution_of s).locks.item i).processor < 4
  lock_four = let a = (formed s r).locks.each i lock_within in let b = (formed s r).processors in omega arith

-- the index of event e
pub event_index : (s : List ℕ) (e : ℕ) → num 2 s (6 + 12 * e) ≡ ((execution_of s).events.item e).index
event_index s e = let z : 6 + 12 * e ≡ entry_at s 2 e + 2 = omega (arith, event_place s e) in ap (num 2 s) z

pub index_fits : (s : List ℕ) → Right s → (e : ℕ) → e < count s 2 → 6 + 12 * e + 2 ≤ length s
index_fits s r e h = let f = event_fits s r e h in omega arith

pub index_low : (s : List ℕ) → Right s → (e : ℕ) → e < count s 2 → 6 + 12 * e + 2 ≤ 2346
index_low s r e h = let f = index_fits s r e h in let b = length_low s r in omega arith
