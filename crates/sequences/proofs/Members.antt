-- What stands in a list, and what stands ahead of what, item by item and by the places of the items.
use Prim.Native.Nat.{ℕ, zero, suc, ◌<◌}
use mathlib.Core.Path.{◌≡◌}
use mathlib.Core.Logic.{◌⊎◌, inl, inr, ⊎_elim}
use mathlib.Core.List.{List, [], ◌∷◌, ◌++◌}
use lib.ListN.{length, get_or}
use native.Mathlib.Omega.{arith}
use native.Mathlib.Decide.{dec_lt}
use Rattle.order.specs.Least.{Some}
use Rattle.order.specs.Rule.{Kept, rule}
use Rattle.record.specs.Execution.{Execution}
use Rattle.model.specs.Model.{Before}
use Rattle.model.proofs.Lists.{Proper, proper}
use Rattle.sequences.specs.Sequence.{steps, WrongEvent}

module _ {A : Type 0} where
  -- an item of the list has P
  abbrev pub Has : (A → Type 0) → List A → Type 0
  Has P [] = ⊥
  Has P (x ∷ l) = P x ⊎ Has P l

  module _ (P : A → Type 0) where
    pub some_has : (d : A) (l : List A) → Some (length l) (λ i. P (get_or l i d)) → Has P l
    some_has d [] (k, h, p) = absurd (omega arith)
    some_has d (x ∷ l) (zero, h, p) = inl p
    some_has d (x ∷ l) (suc k, h, p) = inr (some_has d l (k, omega arith, p))

    pub has_some : (d : A) (l : List A) → Has P l → Some (length l) (λ i. P (get_or l i d))
    has_some d [] h = absurd h
    has_some d (x ∷ l) (inl p) = (zero, omega arith, p)
    has_some d (x ∷ l) (inr q) = let (k, h, p) = has_some d l q in (suc k, omega arith, p)

    pub has_or : (l m : List A) → Has P (l ++ m) → Has P l ⊎ Has P m
    has_or [] m h = inr h
    has_or (x ∷ l) m (inl p) = inl (inl p)
    has_or (x ∷ l) m (inr h) = ⊎_elim (λ q. inl (inr q)) (λ q. inr q) (has_or l m h)

    pub has_left : (l m : List A) → Has P l → Has P (l ++ m)
    has_left [] m h = absurd h
    has_left (x ∷ l) m (inl p) = inl p
    has_left (x ∷ l) m (inr h) = inr (has_left l m h)

    pub has_right : (l m : List A) → Has P m → Has P (l ++ m)
    has_right [] m h = h
    has_right (x ∷ l) m h = inr (has_right l m h)

-- e stands in the list
abbrev pub Member : ℕ → List ℕ → Type 0
Member e = Has (λ x. x ≡ e)

module _ (a b : ℕ) where
  -- a stands ahead of b
  abbrev pub Ahead : List ℕ → Type 0
  Ahead [] = ⊥
  Ahead (x ∷ l) = ((x ≡ a) × Member b l) ⊎ Ahead l

  pub before_ahead : (l : List ℕ) → Before (steps l) a b → Ahead l
  before_ahead [] (j, h, s) = absurd (omega arith)
  before_ahead (x ∷ l) (zero, h, (i, g, q)) = absurd (omega arith)
  before_ahead (x ∷ l) (suc j, h, (zero, g, (p, q))) = inl (p, some_has _ 0 l (j, omega arith, q))
  before_ahead (x ∷ l) (suc j, h, (suc i, g, q)) = inr (before_ahead l (j, omega arith, (i, omega arith, q)))

  pub ahead_before : (l : List ℕ) → Ahead l → Before (steps l) a b
  ahead_before [] h = absurd h
  ahead_before (x ∷ l) (inl (p, m)) = let (j, h, q) = has_some _ 0 l m in (suc j, omega arith, (zero, omega arith, (p, q)))
  ahead_before (x ∷ l) (inr s) = let (j, h, (i, g, q)) = ahead_before l s in (suc j, omega arith, (suc i, omega arith, q))

  -- in two lists, one behind the other
  pub ahead_or : (l m : List ℕ) → Ahead (l ++ m) → Ahead l ⊎ ((Member a l × Member b m) ⊎ Ahead m)
  ahead_or [] m s = inr (inr s)
  ahead_or (x ∷ l) m (inl (p, h)) = ⊎_elim (λ q. inl (inl (p, q))) (λ q. inr (inl (inl p, q))) (has_or _ l m h)
  ahead_or (x ∷ l) m (inr s) = ⊎_elim (λ q. inl (inr q)) (λ q. inr (⊎_elim (λ (u, v). inl (inr u, v)) (λ u. inr u) q)) (ahead_or l m s)

-- ---- a list that keeps rule 30 has each event once
pub each_once : (z : Execution) (l : List ℕ) → Kept (rule 30 1 (WrongEvent z l)) → Proper (steps l) (λ e. e < z.events.size)
unfolding WrongEvent
each_once z l k = proper _ _ (λ e. dec_lt _ _) (λ e q. k (e ∷ []) q)
