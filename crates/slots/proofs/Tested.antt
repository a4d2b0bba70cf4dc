-- Statements with a test that decides them, put together as the statements are.
use Prim.Native.Nat.{ℕ, zero, suc, ◌<◌, ◌≤◌}
use mathlib.Core.Path.{◌≡◌}
use mathlib.Core.Logic.{◌⊎◌, inl, inr, ⊎_elim}
use mathlib.Core.Bool.{Bool, false, ◌&&◌, ◌||◌, not}
use native.Mathlib.Omega.{arith}
use lib.Dec.{leb, ltb, eqb}
use Rattle.order.specs.Decides.{Decides}
use Rattle.order.specs.Least.{Some, None}
use Rattle.order.proofs.Numbers.{last_or}
use Rattle.order.proofs.Tests.{by_eq, by_lt, by_le, by_or, by_and, by_not, by_as, by_no}

pub record Tested (P : Type 0) : Type 0 where
  pub test : Bool
  pub right : Decides test P

abbrev pub equal : (a b : ℕ) → Tested (a ≡ b)
equal a b = record { test = eqb a b; right = by_eq a b }

abbrev pub less : (a b : ℕ) → Tested (a < b)
less a b = record { test = ltb a b; right = by_lt a b }

abbrev pub most : (a b : ℕ) → Tested (a ≤ b)
most a b = record { test = leb a b; right = by_le a b }

abbrev pub either : {P Q : Type 0} → Tested P → Tested Q → Tested (P ⊎ Q)
either p q = record { test = p.test || q.test; right = by_or _ _ p.right q.right }

abbrev pub never : {P : Type 0} → Tested P → Tested (P → ⊥)
never p = record { test = not p.test; right = by_not _ p.right }

-- a test of P that is one of Q
abbrev pub same : {P Q : Type 0} → (P → Q) → (Q → P) → Tested P → Tested Q
same f g p = record { test = p.test; right = by_as _ f g p.right }

-- ---- so many statements at once

abbrev pub both : {P Q : Type 0} → Tested P → Tested Q → Tested (P × Q)
both p q = record { test = p.test && q.test; right = by_and _ _ p.right q.right }

module _ {P Q R : Type 0} where
  abbrev pub three : Tested P → Tested Q → Tested R → Tested (P × Q × R)
  three p q r = same (λ x. (x.0, x.1.0, x.1.1)) (λ x. (x.0, (x.1, x.2))) (both p (both q r))

module _ {P Q R S : Type 0} where
  abbrev pub four : Tested P → Tested Q → Tested R → Tested S → Tested (P × Q × R × S)
  four p q r s = same (λ x. (x.0, x.1.0, x.1.1, x.1.2)) (λ x. (x.0, (x.1, x.2, x.3))) (both p (three q r s))

module _ {P Q R S T : Type 0} where
  abbrev pub five : Tested P → Tested Q → Tested R → Tested S → Tested T → Tested (P × Q × R × S × T)
  five p q r s t = same (λ x. (x.0, x.1.0, x.1.1, x.1.2, x.1.3)) (λ x. (x.0, (x.1, x.2, x.3, x.4))) (both p (four q r s t))

module _ {P Q R S T U W : Type 0} where
  abbrev pub seven : Tested P → Tested Q → Tested R → Tested S → Tested T → Tested U → Tested W
      → Tested (P × Q × R × S × T × U × W)
  seven p q r s t u w =
      same
      (λ x. (x.0.0, x.0.1, x.1.0, x.1.1, x.1.2, x.1.3, x.1.4))
      (λ x. ((x.0, x.1), (x.2, x.3, x.4, x.5, x.6)))
      (both (both p q) (five r s t u w))

-- ---- the numbers below n

-- one of them passes
unfoldable pub any : ℕ → (ℕ → Bool) → Bool
any zero t = false
any (suc n) t = any n t || t n

pub by_any : (n : ℕ) (P : ℕ → Type 0) (t : ℕ → Bool) → ((k : ℕ) → Decides (t k) (P k)) → Decides (any n t) (Some n P)
unfolding any
by_any zero P t d = by_no (λ q. let l = q.1 in omega arith)
by_any (suc n) P t d =
    by_as _
    (λ r. ⊎_elim (λ q. (q.0, omega arith, q.2)) (λ p. (n, omega arith, p)) r)
    (λ q. ⊎_elim (λ (e : q.0 ≡ n). inr (rw e at q.2)) (λ l. inl (q.0, l, q.2)) (last_or n q.0 q.1))
    (by_or (any n t) (t n) (by_any n P t d) (d n))

module _ {P : ℕ → Type 0} where
  abbrev pub some : (n : ℕ) → ((k : ℕ) → Tested (P k)) → Tested (Some n P)
  some n f = record { test = any n (λ k. (f k).test); right = by_any n P (λ k. (f k).test) (λ k. (f k).right) }

  abbrev pub none : (n : ℕ) → ((k : ℕ) → Tested (P k)) → Tested (None n P)
  none n f = same (λ h k l p. h (k, l, p)) (λ h q. h q.0 q.1 q.2) (never (some n f))
