-- Where entries and their fields stand.
use Prim.Native.Nat.{ℕ, ◌+◌, ◌*◌, ◌<◌, ◌≤◌}
use mathlib.Core.Path.{◌≡◌, sym, ap, ◌∙◌, subst}
use mathlib.Core.List.{List}
use native.Mathlib.Omega.{arith}
use native.Mathlib.Nat.{mul_comm}
use lib.ListN.{length}
use Rattle.form.specs.Form.{width}
use Rattle.form.specs.Place.{start, count, entry_at}
use Rattle.form.specs.Right.{Right}
use Rattle.record.specs.Says.{event_at, execution_of}
use Rattle.record.specs.Laid.{Stands}
use Rattle.record.specs.declared.Event.{Event}
use Rattle.record.specs.declared.Part.{Part}
use Rattle.record.proofs.Formings.{entry_fits}

pub event_place : (s : List ℕ) (e : ℕ) → entry_at s 2 e ≡ 4 + 12 * e
unfolding entry_at start width
event_place s e = omega arith

module _ (s : List ℕ) (r : Right s) where
  pub event_fits : (e : ℕ) → e < count s 2 → 4 + 12 * e + 12 ≤ length s
  unfolding width
  event_fits e h = let f = entry_fits s r 2 e (omega arith) (omega arith) h in let p = event_place s e in omega arith

  pub event_is : (e : ℕ) (x : Event) → x ≡ event_at s (4 + 12 * e) → x ≡ (execution_of s).events.item e
  event_is e x q = q ∙ ap (event_at s) (sym (event_place s e))

  -- entry i of section k, from where the section's entries stand
  module _ (k : ℕ) (a : 2 ≤ k) (b : k < 9) (p : Part) (q : Stands s k p) (w : ℕ) (e : w ≡ width k) (i : ℕ) where
    pub entry_place : p.at + w * i ≡ entry_at s k i
    unfolding entry_at
    entry_place = ap (λ (x : ℕ). x + w * i) q.place ∙ ap (λ (x : ℕ). start s k + 2 + x) (ap (λ (x : ℕ). x * i) e ∙ mul_comm (width k) i)

    pub entry_within : i < p.count → p.at + w * i + w ≤ length s
    entry_within h =
        let f = entry_fits s r k i a b (subst (λ (x : ℕ). i < x) q.number h) in
        let g = entry_place in
        omega arith
