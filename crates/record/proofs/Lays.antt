-- Sections, one after the other.
use Prim.Native.Nat.{ℕ, ◌+◌, ◌*◌, ◌<◌, ◌≤◌}
use mathlib.Core.Path.{◌≡◌, sym, ap, ap₂, ◌∙◌}
use mathlib.Core.List.{List}
use native.Mathlib.Omega.{arith}
use native.Mathlib.Nat.{mul_comm}
use lib.ListN.{length}
use Rattle.form.specs.Bytes.{num}
use Rattle.form.specs.Form.{width}
use Rattle.form.specs.Place.{start, count, view_start}
use Rattle.form.specs.Right.{Right}
use Rattle.form.proofs.Starts.{start_more}
use Rattle.record.specs.Laid.{Stands}
use Rattle.record.specs.declared.Part.{Part}

module _ (s : List ℕ) (r : Right s) where
  -- a section's count stands in the record
  pub count_fits : (k : ℕ) → 2 ≤ k → k < 9 → start s k + 2 ≤ length s
  count_fits k a b = let e = (r.section k a b).ends in let f = (r.section k a b).fits in omega arith

  module _ (p : Part) (w k : ℕ) (a : 2 ≤ k) (b : k < 8) (e : w ≡ width k) (q : Stands s k p) where
    pub next_place : p.at + w * p.count ≡ start s (k + 1)
    unfolding count
    next_place =
        ap₂ (λ (x y : ℕ). x + y) q.place (ap₂ (λ (x y : ℕ). x * y) e q.number ∙ mul_comm (width k) (num 2 s (start s k)))
        ∙ sym (start_more s k a)

    pub next_fits : p.at + w * p.count + 2 ≤ length s
    next_fits = let h = count_fits (k + 1) (omega arith) (omega arith) in let z = next_place in omega arith

    pub after_stands : (z : Part) → z.at ≡ p.at + w * p.count + 2 → z.count ≡ num 2 s (p.at + w * p.count) → Stands s (k + 1) z
    unfolding count
    after_stands z f g = record { place = f ∙ ap (λ (x : ℕ). x + 2) next_place; number = g ∙ ap (num 2 s) next_place }

  -- the views begin after section 8 and their own count
  pub views_place : (p : Part) → Stands s 8 p → p.at + 2 * p.count + 2 ≡ view_start s 0
  unfolding count view_start width
  views_place p q = let e = start_more s 8 (omega arith) in let f = q.place in let g = q.number in omega (arith, mul_comm (num 2 s (start s 8)) 2)

  pub views_fit : (p : Part) → Stands s 8 p → p.at + 2 * p.count ≤ length s
  unfolding count width
  views_fit p q =
      let e = (r.section 8 (omega arith) (omega arith)).ends in
      let h = (r.section 8 (omega arith) (omega arith)).fits in
      let f = q.place in
      let g = q.number in
      omega (arith, mul_comm (num 2 s (start s 8)) 2)

  -- section 2 begins at byte 2
  pub events_stand : (z : Part) → z.at ≡ 4 → z.count ≡ num 2 s 2 → Stands s 2 z
  unfolding count start
  events_stand z e f = record { place = e; number = f }
