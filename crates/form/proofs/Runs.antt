-- Checks in a row: a loop's cases, and what holds where all went well.
use Prim.Native.Nat.{ℕ, zero, suc, ◌+◌, ◌-◌, ◌≤◌, ◌<◌}
use mathlib.Core.Path.{◌≡◌, refl}
use mathlib.Core.Logic.{◌≢◌}
use mathlib.Core.Bool.{Bool, true, false}
use native.Mathlib.Nat.{add-zero, le_refl}
use native.Mathlib.Omega.{arith}
use lib.Dec.{eqb}
use borrow.Author.Tests.{eqb-true, eqb-false}
use Rattle.std.specs.Prelude.{Ok, Err}
use Rattle.form.specs.Steps.{Step, pick, and_then, run, upto}
use Rattle.form.specs.declared.Fault.{Fault}

-- A loop's three cases. What is left of the checks, from number i at place `at` on, gives r.
module _ (f : ℕ → ℕ → Step) (i e at : ℕ) (r : Step) (left : upto f i e at ≡ r) where
  pub upto_none : e ≤ i → Ok at ≡ r
  unfolding upto run
  upto_none h = let z : e - i ≡ 0 = omega arith in rw z at left

  more : i < e → and_then (f i at) (λ after. upto f (i + 1) e after) ≡ r
  unfolding upto run
  more h = let z : e - i ≡ suc (e - (i + 1)) = omega arith in rw z at left

  pub upto_stop : (x : Fault) → i < e → f i at ≡ Err x → Err x ≡ r
  upto_stop x h p = rw p at (more h)

  pub upto_next : (after : ℕ) → i < e → f i at ≡ Ok after → upto f (i + 1) e after ≡ r
  upto_next after h p = rw p at (more h)

pub clash : (b : Fault) (z : ℕ) → Err b ≡ Ok z → ⊥
clash b z h = let w : ◌≡◌ {A = ℕ} 0 1 = cc in omega arith

-- two checks that went well
pub then_next : (x : Step) (f : ℕ → Step) (z : ℕ) → and_then x f ≡ Ok z → (q : ℕ) × (x ≡ Ok q) × (f q ≡ Ok z)
then_next (Ok q) f z h = (q, refl, h)
then_next (Err b) f z h = absurd (clash b z h)

-- the same, handed on: the place between them is then a variable, in which a proof can rewrite
pub on_next : {X : Type 0} (x : Step) (f : ℕ → Step) (z : ℕ) → and_then x f ≡ Ok z → ((q : ℕ) → x ≡ Ok q → f q ≡ Ok z → X) → X
on_next (Ok q) f z h k = k q refl h
on_next (Err b) f z h k = absurd (clash b z h)

-- a test that went well
pub pick_next : (b : Bool) (x : Step) (y : Fault) (z : ℕ) → pick b x (Err y) ≡ Ok z → (b ≡ true) × (x ≡ Ok z)
pick_next true x y z h = (refl, h)
pick_next false x y z h = absurd (clash y z h)

pub pick_other : (b : Bool) (x : Fault) (y : Step) (z : ℕ) → pick b (Err x) y ≡ Ok z → (b ≡ false) × (y ≡ Ok z)
pick_other true x y z h = absurd (clash x z h)
pick_other false x y z h = (refl, h)

-- the first of a range, or one after it
from_or_after : {X : Type 0} (i j : ℕ) → i ≤ j → (j ≡ i → X) → (i + 1 ≤ j → X) → X
from_or_after {X} i j h a b = go (eqb j i) refl
  where
    go : (t : Bool) → eqb j i ≡ t → X
    go true q = a (eqb-true _ _ q)
    go false q = let n : j ≢ i = eqb-false _ _ q in b (omega arith)

-- checks of which number j begins at P j, where those before it went well
module _ (f : ℕ → ℕ → Step) (P : ℕ → ℕ) where
  run_well : (i m z : ℕ) → ((j q : ℕ) → i ≤ j → j < i + m → f j (P j) ≡ Ok q → q ≡ P (j + 1)) → run f i m (P i) ≡ Ok z
      → (z ≡ P (i + m)) × ((j : ℕ) → i ≤ j → j < i + m → f j (P j) ≡ Ok (P (j + 1)))
  unfolding run
  run_well i zero z l h = (rw add-zero (cc), λ j a b. let w : ⊥ = omega arith in absurd w)
  run_well i (suc m) z l h =
      let (q, e, g) = then_next (f i (P i)) (λ after. run f (i + 1) m after) z h in
      let p = l i q (le_refl i) (omega arith) e in
      let ih = run_well (i + 1) m z (λ j r a b. l j r (omega arith) (omega arith)) (rw p at g) in
      let n : i + 1 + m ≡ i + suc m = omega arith in
      (rw n at ih.0, λ j a b. from_or_after i j a (λ x. rw x (cc)) (λ x. ih.1 j x (omega arith)))

  pub upto_well : (i e z : ℕ) → i ≤ e → ((j q : ℕ) → i ≤ j → j < e → f j (P j) ≡ Ok q → q ≡ P (j + 1)) → upto f i e (P i) ≡ Ok z
      → (z ≡ P e) × ((j : ℕ) → i ≤ j → j < e → f j (P j) ≡ Ok (P (j + 1)))
  unfolding upto
  upto_well i e z b l h =
      let n : i + (e - i) ≡ e = omega arith in
      let w = run_well i (e - i) z (λ j q a c. l j q a (omega arith)) h in
      rw n at w
