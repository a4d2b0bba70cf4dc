-- Tests that decide statements, put together as the statements are.
use Prim.Native.Nat.{ℕ, ◌<◌, ◌≤◌}
use mathlib.Core.Path.{◌≡◌, refl, sym}
use mathlib.Core.Logic.{◌⊎◌, inl, inr, ⊎_elim}
use mathlib.Core.Bool.{Bool, true, false, ◌||◌, ◌&&◌, not}
use native.Mathlib.Omega.{arith}
use lib.Dec.{leb, ltb, eqb}
use borrow.Author.Tests.{eqb-true, eqb-false, ltb-true, ltb-false, leb-true, leb-false}
use Rattle.order.specs.Decides.{Decides}

clash : true ≡ false → ⊥
clash e = let z : ◌≡◌ {A = ℕ} 0 1 = cc in omega arith

pub by_eq : (a b : ℕ) → Decides (eqb a b) (a ≡ b)
by_eq a b = record { holds = λ h. eqb-true a b h; fails = λ h. eqb-false a b h }

pub by_lt : (a b : ℕ) → Decides (ltb a b) (a < b)
by_lt a b = record { holds = λ h. ltb-true a b h; fails = λ h l. let g : b ≤ a = ltb-false a b h in omega arith }

pub by_le : (a b : ℕ) → Decides (leb a b) (a ≤ b)
by_le a b = record { holds = λ h. leb-true a b h; fails = λ h l. let g : b < a = leb-false a b h in omega arith }

pub by_or : (a b : Bool) {P Q : Type 0} → Decides a P → Decides b Q → Decides (a || b) (P ⊎ Q)
by_or true b p q = record { holds = λ h. inl (p.holds refl); fails = λ h. absurd (clash h) }
by_or false b p q = record { holds = λ h. inr (q.holds h); fails = λ h s. ⊎_elim (p.fails refl) (q.fails h) s }

pub by_and : (a b : Bool) {P Q : Type 0} → Decides a P → Decides b Q → Decides (a && b) (P × Q)
by_and true b p q = record { holds = λ h. (p.holds refl, q.holds h); fails = λ h s. q.fails h s.1 }
by_and false b p q = record { holds = λ h. absurd (clash (sym h)); fails = λ h s. p.fails refl s.0 }

pub by_not : (a : Bool) {P : Type 0} → Decides a P → Decides (not a) (P → ⊥)
by_not true p = record { holds = λ h. absurd (clash (sym h)); fails = λ h f. f (p.holds refl) }
by_not false p = record { holds = λ h. p.fails refl; fails = λ h. absurd (clash h) }

pub by_as : (a : Bool) {P Q : Type 0} → (P → Q) → (Q → P) → Decides a P → Decides a Q
by_as a f g p = record { holds = λ h. f (p.holds h); fails = λ h q. p.fails h (g q) }

pub by_yes : {P : Type 0} → P → Decides true P
by_yes p = record { holds = λ h. p; fails = λ h. absurd (clash h) }

pub by_no : {P : Type 0} → (P → ⊥) → Decides false P
by_no p = record { holds = λ h. absurd (clash (sym h)); fails = λ h. p }

pub by_flag : (a : Bool) → Decides a (a ≡ true)
by_flag true = record { holds = λ h. h; fails = λ h. absurd (clash h) }
by_flag false = record { holds = λ h. h; fails = λ h g. clash (sym g) }
