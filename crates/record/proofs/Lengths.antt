-- A record's length is at most 2,346 bytes.
use Prim.Native.Nat.{ℕ, zero, suc, ◌+◌, ◌*◌, ◌<◌, ◌≤◌}
use mathlib.Core.Path.{◌≡◌}
use mathlib.Core.List.{List}
use native.Mathlib.Omega.{arith}
use native.Mathlib.Nat.{mul-le-mul, le_refl}
use native.Mathlib.Numerals.{add-one}
use lib.ListN.{length}
use Rattle.form.specs.Bytes.{num}
use Rattle.form.specs.Form.{width, limit}
use Rattle.form.specs.Place.{start, view_start}
use Rattle.form.specs.Right.{Right}
use Rattle.form.proofs.Starts.{view_start_next}
use mir.Val.{Fits}
use mir.Syntax.{w64}
use Rattle.record.specs.Laid.{Stands}
use Rattle.record.specs.declared.Part.{Part}
use Rattle.record.proofs.Lays.{views_place}

module _ (s : List ℕ) (r : Right s) where
  -- a section takes at most its limit
  step : (k : ℕ) → 2 ≤ k → k < 9 → start s (k + 1) ≤ start s k + 2 + limit k * width k
  step k a b =
      let e = (r.section k a b).ends in
      let m : num 2 s (start s k) * width k ≤ limit k * width k = mul-le-mul (r.section k a b).within (le_refl (width k)) in
      omega arith

  pub start_low : start s 9 ≤ 2080
  unfolding limit width start
  start_low =
      let a = step 2 (omega arith) (omega arith) in
      let b = step 3 (omega arith) (omega arith) in
      let c = step 4 (omega arith) (omega arith) in
      let d = step 5 (omega arith) (omega arith) in
      let e = step 6 (omega arith) (omega arith) in
      let f = step 7 (omega arith) (omega arith) in
      let g = step 8 (omega arith) (omega arith) in
      omega arith

  pub view_low : (p : ℕ) → p ≤ num 1 s 1 → view_start s p ≤ 2082 + 66 * p
  unfolding view_start limit
  view_low zero h = let l = start_low in omega arith
  view_low (suc p) h =
      let i = view_low p (omega arith) in
      let m = (r.view p (omega arith)).within in
      let e = view_start_next s p in
      let q : view_start s (suc p) ≡ view_start s (p + 1) = rw add-one in
      omega arith

  pub length_low : length s ≤ 2346
  length_low = let l = view_low (num 1 s 1) (le_refl _) in let e = r.ends in let h = r.processors in omega arith

  -- the end of section 8, and what makes it up
  module _ (p : Part) (q : Stands s 8 p) where
    pub last_low : p.at + 2 * p.count + 2 ≤ 2346
    last_low =
        let e = views_place s r p q in
        let l = view_low 0 (omega arith) in
        omega arith

    pub last_part : 2 * p.count ≤ 2346
    last_part = let l = last_low in omega arith

    pub last_sum : p.at + 2 * p.count ≤ 2346
    last_sum = let l = last_low in omega arith

pub small : (x : ℕ) → x ≤ 2346 → Fits w64 x
small x h = record { fits = omega arith }
