-- Decisions: what cannot fail holds if it can be decided, and the words of the rules that can be.
use Prim.Native.Nat.{ℕ, ◌<◌}
use mathlib.Core.Path.{◌≡◌}
use mathlib.Core.Logic.Dec
use mathlib.Core.Logic.{◌⊎◌, inl, inr, ⊎_elim}
use native.Mathlib.Omega.{arith}
use native.Mathlib.Decide.{ℕ_discrete, dec_lt, dec_le}
use Rattle.order.proofs.Numbers.{dec_some}
use Rattle.record.specs.Execution.{Initial, Items, Execution}
use Rattle.record.specs.Words.{SamePlace, SameInstruction, InitialFor}
use Rattle.record.specs.declared.Event.{Event}
use Rattle.model.specs.Model.{Sees, Store}
use Rattle.model.specs.Rules.{Stands, WriteAndRead}

pub certain : {P : Type 0} → Dec P → ((P → ⊥) → ⊥) → P
certain (yes p) f = p
certain (no g) f = absurd (f g)

-- of two numbers one is below the other
pub below_or : (a b : ℕ) → (a ≡ b → ⊥) → (a < b) ⊎ (b < a)
below_or a b n = go (dec_lt a b)
  where
    go : Dec (a < b) → (a < b) ⊎ (b < a)
    go (yes l) = inl l
    go (no g) = inr (at (dec_lt b a))
      where
        at : Dec (b < a) → b < a
        at (yes l) = l
        at (no h) = absurd (n (omega arith))

dec_either : {P Q : Type 0} → Dec P → Dec Q → Dec (P ⊎ Q)
dec_either (yes p) d = yes (inl p)
dec_either (no g) (yes q) = yes (inr q)
dec_either (no g) (no h) = no (⊎_elim g h)

pub dec_stands : (l : Items ℕ) (e : ℕ) → Dec (Stands l e)
dec_stands l e = dec_some _ (λ i. ℕ_discrete (l.item i) e) l.size

pub dec_sees : (z : Execution) (p e : ℕ) → Dec (Sees z p e)
dec_sees z p e = Dec.and (dec_lt _ _) (dec_either (ℕ_discrete _ _) (ℕ_discrete _ _))

pub dec_stored : (z : Execution) (e : ℕ) → Dec ((e < z.events.size) × Store (z.events.item e))
dec_stored z e = Dec.and (dec_lt _ _) (ℕ_discrete _ _)

module _ (x y : Event) where
  pub dec_instruction : Dec (SameInstruction x y)
  dec_instruction = Dec.and (ℕ_discrete _ _) (ℕ_discrete _ _)

  dec_place : Dec (SamePlace x y)
  dec_place =
      dec_either
      (Dec.and (dec_lt _ _) (Dec.and (dec_lt _ _) (ℕ_discrete _ _)))
      (Dec.and (dec_le _ _) (Dec.and (dec_le _ _) (Dec.and (ℕ_discrete _ _) (ℕ_discrete _ _))))

  pub dec_pair : Dec (WriteAndRead x y)
  dec_pair =
      Dec.and
      (dec_either (ℕ_discrete _ _) (ℕ_discrete _ _))
      (Dec.and (dec_either (ℕ_discrete _ _) (ℕ_discrete _ _)) (Dec.and dec_place (ℕ_discrete _ _)))

pub dec_initial : (x : Event) (i : Initial) → Dec (InitialFor x i)
dec_initial x i =
    dec_either
    (Dec.and (dec_lt _ _) (Dec.and (ℕ_discrete _ _) (ℕ_discrete _ _)))
    (Dec.and (dec_le _ _) (Dec.and (ℕ_discrete _ _) (Dec.and (ℕ_discrete _ _) (ℕ_discrete _ _))))
