-- The definitions of `Form`, branch by branch: what each says where its tests have come out one way.
-- Assumes nothing.
use Prim.Native.Nat.{ℕ, zero, suc, ◌+◌, ◌*◌, ◌≤◌, ◌<◌, zero-le}
use mathlib.Core.Path.{◌≡◌}
use mathlib.Core.List.{List}
use mathlib.Core.Bool.{true}
use mathlib.Core.Logic.{◌⊎◌, ⊎_elim}
use native.Mathlib.Omega.{arith}
use native.Mathlib.Nat.{add_assoc, mul-le-mul, le-pred_of_lt}
use lib.Dec.{leb, eqb, lit≤}
use borrow.Author.Tests.{lt-ltb, le-leb, eq-eqb}
use Rattle.std.specs.Prelude.{Ok}
use Rattle.form.specs.Bytes.{num}
use Rattle.form.specs.Steps.{Step, run, upto}
use Rattle.form.specs.Form.{due, width, limit, fields_from, fields, event_fields, pair_fields, lock_fields, initial_fields, one_field, place_right, owner_right, entries, block}
use Rattle.form.specs.declared.Counts.{Counts}

module _ (c : Counts) (s : List ℕ) (at : ℕ) where
  pub event_right : num 1 s at < c.processors → num 1 s (at + 1) ≤ 3 → place_right (leb 2 (num 1 s (at + 1))) (num 4 s (at + 4)) ≡ true
      → Ok (at + 12) ≡ fields_from 2 (event_fields c s at) at
  unfolding event_fields
  event_right h k e = simp (lt-ltb _ _ h, le-leb _ _ k, e, add_assoc)

  pub lock_right : num 1 s at < c.processors → num 1 s (at + 1) ≡ 0 → Ok (at + 4) ≡ fields_from 4 (lock_fields c s at) at
  unfolding lock_fields
  lock_right h k = simp (lt-ltb _ _ h, eq-eqb _ _ k, add_assoc)

  pub initial_right : owner_right (num 1 s (at + 1)) (num 1 s at) c.processors ≡ true → num 1 s (at + 1) ≤ 1 → num 2 s (at + 2) ≡ 0
      → place_right (eqb (num 1 s (at + 1)) 1) (num 4 s (at + 4)) ≡ true → Ok (at + 12) ≡ fields_from 5 (initial_fields c s at) at
  unfolding initial_fields
  initial_right e h k p = simp (e, le-leb _ _ h, eq-eqb _ _ k, p, add_assoc)

  pub pair_right : (k : ℕ) → num 1 s at < c.events → num 1 s (at + 1) < c.events → Ok (at + 2) ≡ fields_from k (pair_fields c s at) at
  unfolding pair_fields
  pair_right k h g = simp (lt-ltb _ _ h, lt-ltb _ _ g, add_assoc)

pub one_right : (n k : ℕ) (s : List ℕ) (at : ℕ) → num 1 s at < n → Ok (at + 1) ≡ fields_from k (one_field n s at) at
unfolding one_field
one_right n k s at h = simp (lt-ltb _ _ h)

module _ (c : Counts) (s : List ℕ) (k at : ℕ) where
  pub row_pair : (k ≡ 3) ⊎ (k ≡ 8) → (r : Step) → r ≡ fields_from k (pair_fields c s at) at → r ≡ fields_from k (fields c s k at) at
  unfolding fields
  row_pair w r h = ⊎_elim (λ e. rw e (rw e at h)) (λ e. rw e (rw e at h)) w

  pub row_locked : k ≡ 7 → (r : Step) → r ≡ fields_from k (one_field c.locks s at) at → r ≡ fields_from k (fields c s k at) at
  unfolding fields
  row_locked e r h = rw e (rw e at h)

  pub row_one : (k ≡ 6) ⊎ (k ≡ 9) → (r : Step) → r ≡ fields_from k (one_field c.events s at) at → r ≡ fields_from k (fields c s k at) at
  unfolding fields
  row_one w r h = ⊎_elim (λ e. rw e (rw e at h)) (λ e. rw e (rw e at h)) w

  module _ (a : ℕ) (e : due s k 2 at ≡ Ok a) where
    pub block_next : num 2 s at ≤ limit k → (r : Step) → r ≡ entries c s k (num 2 s at) a → r ≡ block c s k at
    unfolding block
    block_next h r p = rw e (rw (le-leb _ _ h) p)

    pub block_empty : num 2 s at ≡ 0 → Ok a ≡ block c s k at
    unfolding entries upto run
    block_empty h = block_next (omega arith) (Ok a) (rw h)

-- no entry is longer than twelve bytes
pub width_le : (k : ℕ) → width k ≤ 12
unfolding width
width_le zero = lit≤ tt
width_le (suc zero) = lit≤ tt
width_le (suc (suc zero)) = lit≤ tt
width_le (suc (suc (suc zero))) = lit≤ tt
width_le (suc (suc (suc (suc zero)))) = lit≤ tt
width_le (suc (suc (suc (suc (suc zero))))) = lit≤ tt
width_le (suc (suc (suc (suc (suc (suc zero)))))) = lit≤ tt
width_le (suc (suc (suc (suc (suc (suc (suc zero))))))) = lit≤ tt
width_le (suc (suc (suc (suc (suc (suc (suc (suc zero)))))))) = lit≤ tt
width_le (suc (suc (suc (suc (suc (suc (suc (suc (suc zero))))))))) = lit≤ tt
width_le (suc (suc (suc (suc (suc (suc (suc (suc (suc (suc j)))))))))) = zero-le

pub small_product : (a b : ℕ) → a < 65536 → b ≤ 12 → a * b ≤ 786420
small_product a b h g = mul-le-mul (le-pred_of_lt h) g
