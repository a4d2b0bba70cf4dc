-- The judgement of a list of rules, computed by a search for each.
use Prim.Native.Nat.{ℕ, ◌<◌}
use mathlib.Core.Path.{refl}
use mathlib.Core.Logic.{inl, inr}
use mathlib.Core.List.{List, [], ◌∷◌, ◌++◌}
use Rattle.order.specs.Relation.{Rel, Below}
use Rattle.order.specs.Rule.{Rule, Judged, About, Of, Round, Rounds}
use Rattle.slots.proofs.Tested.{Tested}
use Rattle.slots.proofs.Searching.{Search, more, Found, missing, hit, search_for, Sought, search_right, Fits, Testing, Low, tuple, tuple_fits}
use Rattle.slots.proofs.Rounds.{round, round_fits, rounds_fit}

-- a search for the lists with B; it is one where F holds
pub record Searched (F : Type 0) (B : List ℕ → Type 0) : Type 0 where
  pub way : Search
  pub fits : F → Fits way B

module _ {F : Type 0} where
  -- so many numbers below bounds
  abbrev pub tuples : (j : ℕ) (P : About j) → Testing j P → (bs : List ℕ) → (F → Low j P bs) → Searched F (Of j P)
  tuples j P t bs low = record { way = tuple j P t bs; fits = λ f. tuple_fits j P t bs (low f) }

  -- a cycle among n events
  abbrev pub cycle : (n : ℕ) (R : Rel) → ((a b : ℕ) → Tested (R a b)) → (F → Below n R) → Searched F (Round R)
  cycle n R t low = record {
    way = round (λ a b. (t a b).test) n;
    fits = λ f. round_fits R n (low f) (λ a b. (t a b).test) (λ a b. (t a b).right);
  }

  -- the same of m relations
  abbrev pub cycles : (m n : ℕ) (R : ℕ → Rel) → ((p a b : ℕ) → Tested (R p a b)) → (F → (p : ℕ) → p < m → Below n (R p)) → Searched F (Rounds m R)
  cycles m n R t low = record {
    way = more m (λ p. round (λ a b. (t p a b).test) n);
    fits = λ f. rounds_fit m R (λ p. round (λ a b. (t p a b).test) n) (λ p l. round_fits (R p) n (low f p l) (λ a b. (t p a b).test) (λ a b. (t p a b).right));
  }

-- ---- a search for each rule

abbrev pub AllSearched : Type 0 → List Rule → Type 0
AllSearched F [] = Unit {0}
AllSearched F (q ∷ qs) = Searched F q.Breaks × AllSearched F qs

infixr 10 ◌also◌
abbrev pub ◌also◌ : {A B : Type 0} → A → B → A × B
a also b = (a, b)

abbrev pub joined : (F : Type 0) (qs rs : List Rule) → AllSearched F qs → AllSearched F rs → AllSearched F (qs ++ rs)
joined F [] rs s t = t
joined F (q ∷ qs) rs s t = (s.0, joined F qs rs s.1 t)

-- ---- the judgement

pub record Verdict : Type 0 where
  pub answer : ℕ
  pub evidence : List ℕ

abbrev pub told : Rule → Found → Verdict → Verdict
told q missing r = r
told q (hit w) r = record { answer = q.number; evidence = q.shown w }

module _ (F : Type 0) where
  unfoldable pub verdict : (qs : List Rule) → AllSearched F qs → Verdict
  unfolding search_for
  verdict [] s = record { answer = 0; evidence = [] }
  verdict (q ∷ qs) s = let r = verdict qs s.1 in told q (search_for s.0.way) r

  pub verdict_right : F → (qs : List Rule) (s : AllSearched F qs) → Judged qs (verdict qs s).answer (verdict qs s).evidence
  unfolding verdict Judged
  verdict_right f [] s = (refl, refl)
  verdict_right f (q ∷ qs) s =
      go (search_for s.0.way) (search_right s.0.way q.Breaks (s.0.fits f)) (verdict qs s.1) (verdict_right f qs s.1)
    where
      go : (x : Found) → Sought q.Breaks x → (r : Verdict) → Judged qs r.answer r.evidence
          → Judged (q ∷ qs) (told q x r).answer (told q x r).evidence
      go missing h r j = inr (h, j)
      go (hit w) h r j = inl ((w, h, refl), refl)
