-- A list in which no event stands twice is an order, and when it is the list that is due.
use Prim.Native.Nat.{ℕ, ◌<◌}
use mathlib.Core.Path.{◌≡◌, sym, ap, ◌∙◌}
use mathlib.Core.Logic.{◌⊎◌, inl, inr}
use native.Mathlib.Omega.{arith}
use native.Mathlib.Decide.{dec_lt}
use Rattle.record.specs.Execution.{Items}
use Rattle.model.specs.Hol.{linear_order, strict_linear_order}
use Rattle.model.specs.Model.{Before}
use Rattle.model.specs.Rules.{Stands, Misplaced}
use Rattle.model.specs.Says.{UpTo}
use Rattle.model.proofs.Decisions.{certain, dec_stands}

module _ (l : Items ℕ) where
  -- no event stands twice
  abbrev pub Single : Type 0
  Single = (e : ℕ) → Before l e e → ⊥

  pub before_ends : (a b : ℕ) → Before l a b → Stands l a × Stands l b
  before_ends a b (j, h, (i, g, (x, y))) = ((i, omega arith, x), (j, h, y))

  pub upto_ends : (a b : ℕ) → UpTo l a b → Stands l a × Stands l b
  upto_ends a b (j, h, (i, g, (x, y))) = ((i, omega arith, x), (j, h, y))

  pub before_upto : (a b : ℕ) → Before l a b → UpTo l a b
  before_upto a b (j, h, (i, g, q)) = (j, h, (i, omega arith, q))

  pub stands_upto : (e : ℕ) → Stands l e → UpTo l e e
  stands_upto e (j, h, x) = (j, h, (j, omega arith, (x, x)))

  pub upto_before : (a b : ℕ) → UpTo l a b → (a ≡ b → ⊥) → Before l a b
  upto_before a b (j, h, (i, g, (x, y))) n = go (dec_lt i j)
    where
      go : Dec (i < j) → Before l a b
      go (yes k) = (j, h, (i, k, (x, y)))
      go (no k) = let e : i ≡ j = omega arith in absurd (n (sym x ∙ ap l.item e ∙ y))

  pub upto_or : (a b : ℕ) → Stands l a → Stands l b → UpTo l a b ⊎ UpTo l b a
  upto_or a b (i, h, x) (j, g, y) = go (dec_lt i j)
    where
      go : Dec (i < j) → UpTo l a b ⊎ UpTo l b a
      go (yes k) = inl (j, g, (i, omega arith, (x, y)))
      go (no k) = inr (i, h, (j, omega arith, (y, x)))

  pub before_or : (a b : ℕ) → Stands l a → Stands l b → (a ≡ b → ⊥) → Before l a b ⊎ Before l b a
  before_or a b s t n = go (upto_or a b s t)
    where
      go : UpTo l a b ⊎ UpTo l b a → Before l a b ⊎ Before l b a
      go (inl q) = inl (upto_before a b q n)
      go (inr q) = inr (upto_before b a q (λ e. n (sym e)))

  module _ (once : Single) where
    -- an event has one place
    pub one_place : (e i j : ℕ) → i < l.size → j < l.size → l.item i ≡ e → l.item j ≡ e → i ≡ j
    one_place e i j h g x y = go (dec_lt i j) (dec_lt j i)
      where
        go : Dec (i < j) → Dec (j < i) → i ≡ j
        go (yes k) d = absurd (once e (j, g, (i, k, (x, y))))
        go (no k) (yes m) = absurd (once e (i, h, (j, m, (y, x))))
        go (no k) (no m) = omega arith

    pub before_differ : (a b : ℕ) → Before l a b → a ≡ b → ⊥
    before_differ a b q e = once b (rw e at q)

    pub before_trans : (a b c : ℕ) → Before l a b → Before l b c → Before l a c
    before_trans a b c (j, h, (i, g, (x, y))) (k, m, (n, o, (v, w))) =
        let e = one_place b j n h (omega arith) y v in (k, m, (i, omega arith, (x, w)))

    pub upto_trans : (a b c : ℕ) → UpTo l a b → UpTo l b c → UpTo l a c
    upto_trans a b c (j, h, (i, g, (x, y))) (k, m, (n, o, (v, w))) =
        let e = one_place b j n h (omega arith) y v in (k, m, (i, omega arith, (x, w)))

    pub upto_antisymmetric : (a b : ℕ) → UpTo l a b → UpTo l b a → a ≡ b
    upto_antisymmetric a b (j, h, (i, g, (x, y))) (k, m, (n, o, (v, w))) =
        let e = one_place b j n h (omega arith) y v in
        let d = one_place a i k (omega arith) m x w in
        let c : i ≡ j = omega arith in
        sym x ∙ ap l.item c ∙ y

  -- the list that is due: what is due stands in it, what stands in it is due, and once
  module _ (Due : ℕ → Type 0) where
    pub record Proper : Type 0 where
      pub stands : (e : ℕ) → Due e → Stands l e
      pub due : (e : ℕ) → Stands l e → Due e
      pub single : Single

    pub proper : ((e : ℕ) → Dec (Due e)) → ((e : ℕ) → Misplaced (Due e) l e → ⊥) → Proper
    unfolding Misplaced
    proper d f = record {
      stands = λ e q. certain (dec_stands l e) (λ g. f e (inl (q, g)));
      due = λ e q. certain (d e) (λ g. f e (inr (inl (g, q))));
      single = λ e q. f e (inr (inr q));
    }

    pub misplaced_not : Proper → (e : ℕ) → Misplaced (Due e) l e → ⊥
    unfolding Misplaced
    misplaced_not p e (inl (q, g)) = g (p.stands e q)
    misplaced_not p e (inr (inl (g, q))) = g (p.due e q)
    misplaced_not p e (inr (inr q)) = p.single e q

    -- it orders what is due
    module _ (p : Proper) where
      pub before_linear : strict_linear_order (Before l) Due
      before_linear = record {
        domain = λ a b q. p.due a (before_ends a b q).0;
        range = λ a b q. p.due b (before_ends a b q).1;
        transitive = before_trans p.single;
        irreflexive = p.single;
        total = λ a b x y. before_or a b (p.stands a x) (p.stands b y);
      }

      pub upto_linear : linear_order (UpTo l) Due
      upto_linear = record {
        domain = λ a b q. p.due a (upto_ends a b q).0;
        range = λ a b q. p.due b (upto_ends a b q).1;
        transitive = upto_trans p.single;
        antisymmetric = upto_antisymmetric p.single;
        total = λ a b x y. upto_or a b (p.stands a x) (p.stands b y);
      }
