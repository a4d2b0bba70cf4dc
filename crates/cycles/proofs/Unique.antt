-- The contract of `show` decides its result and every entry of the lent part.
use Prim.Native.Nat.{ℕ}
use mathlib.Core.Path.{◌≡◌, refl, sym, ap, ap₂, ◌∙◌}
use mathlib.Core.List.{List, ◌++◌}
use Rattle.std.specs.Prelude.{Option, Some, None}
use lib.ListN.{length, drop}
use Rattle.order.specs.Relation.{Rel}
use Rattle.order.proofs.Cycles.{shown_unique}
use Rattle.cycles.specs.Showing.{Showing}

-- two results that it allows are one
pub showing_unique : (R : Rel) (before x y : List ℕ) (j k : Option ℕ) → Showing R before x j → Showing R before y k → (j ≡ k) × (x ≡ y)
showing_unique R before x y None None p q = (refl, p.1 ∙ sym q.1)
showing_unique R before x y None (Some k) p (m, s, w) = absurd (p.0 (m, s.cycle))
showing_unique R before x y (Some j) None (l, s, w) q = absurd (q.0 (l, s.cycle))
showing_unique R before x y (Some j) (Some k) (l, s, (a, b)) (m, u, (c, d)) =
    let e : l ≡ m = shown_unique R l m s u in
    let f : j ≡ k = a ∙ ap length e ∙ sym c in
    (ap (λ (z : ℕ). Some z) f, b ∙ ap₂ ◌++◌ e (ap (λ (z : ℕ). drop z before) f) ∙ sym d)
