-- The part of a list that passes a test: what passes it stands in it, once, in the order of the list.
use Prim.Native.Nat.{ℕ}
use mathlib.Core.Path.{◌≡◌, refl, sym, subst}
use mathlib.Core.Logic.{◌⊎◌, inl, inr}
use mathlib.Core.Bool.{Bool, true, false}
use mathlib.Core.List.{List, [], ◌∷◌}
use native.Mathlib.Decide.{ℕ_discrete}
use Rattle.order.specs.Decides.{Decides}
use Rattle.model.specs.Model.{Before}
use Rattle.model.specs.Rules.{Stands}
use Rattle.model.specs.Says.{UpTo}
use Rattle.model.proofs.Lists.{Proper, upto_ends, before_upto, stands_upto, upto_before}
use Rattle.sequences.specs.Sequence.{steps}
use Rattle.sequences.specs.ReadOff.{choose, picked}
use Rattle.sequences.proofs.Members.{Member, Ahead, some_has, has_some, before_ahead, ahead_before}

module _ (test : ℕ → Bool) (P : ℕ → Type 0) (d : (e : ℕ) → Decides (test e) (P e)) where
  picked_member : (e : ℕ) (l : List ℕ) → Member e (picked test l) → Member e l × P e
  unfolding picked
  picked_member e [] h = absurd h
  picked_member e (x ∷ l) h = go (picked_member e l) (test x) (d x) h
    where
      go : (Member e (picked test l) → Member e l × P e) → (b : Bool) → Decides b (P x)
          → Member e (choose b (x ∷ picked test l) (picked test l)) → ((x ≡ e) ⊎ Member e l) × P e
      go rest true s (inl q) = (inl q, subst P q (s.holds refl))
      go rest true s (inr m) = let (u, v) = rest m in (inr u, v)
      go rest false s m = let (u, v) = rest m in (inr u, v)

  member_picked : (e : ℕ) (l : List ℕ) → Member e l → P e → Member e (picked test l)
  unfolding picked
  member_picked e [] h p = absurd h
  member_picked e (x ∷ l) h p = go (λ m. member_picked e l m p) (test x) (d x) h
    where
      go : (Member e l → Member e (picked test l)) → (b : Bool) → Decides b (P x) → (x ≡ e) ⊎ Member e l
          → Member e (choose b (x ∷ picked test l) (picked test l))
      go rest true s (inl q) = inl q
      go rest true s (inr m) = inr (rest m)
      go rest false s (inl q) = absurd (s.fails refl (subst P (sym q) p))
      go rest false s (inr m) = rest m

  module _ (a b : ℕ) where
    picked_ahead : (l : List ℕ) → Ahead a b (picked test l) → Ahead a b l × P a × P b
    unfolding picked
    picked_ahead [] h = absurd h
    picked_ahead (x ∷ l) h = go (picked_ahead l) (picked_member b l) (test x) (d x) h
      where
        go : (Ahead a b (picked test l) → Ahead a b l × P a × P b) → (Member b (picked test l) → Member b l × P b) → (c : Bool) → Decides c (P x)
            → Ahead a b (choose c (x ∷ picked test l) (picked test l)) → Ahead a b (x ∷ l) × P a × P b
        go rest has true s (inl (q, m)) = let (u, v) = has m in (inl (q, u), subst P q (s.holds refl), v)
        go rest has true s (inr m) = let (u, v, w) = rest m in (inr u, v, w)
        go rest has false s m = let (u, v, w) = rest m in (inr u, v, w)

    ahead_picked : (l : List ℕ) → Ahead a b l → P a → P b → Ahead a b (picked test l)
    unfolding picked
    ahead_picked [] h p q = absurd h
    ahead_picked (x ∷ l) h p q = go (λ m. ahead_picked l m p q) (λ m. member_picked b l m q) (test x) (d x) h
      where
        go : (Ahead a b l → Ahead a b (picked test l)) → (Member b l → Member b (picked test l)) → (c : Bool) → Decides c (P x) → Ahead a b (x ∷ l)
            → Ahead a b (choose c (x ∷ picked test l) (picked test l))
        go rest has true s (inl (e, m)) = inl (e, has m)
        go rest has true s (inr m) = inr (rest m)
        go rest has false s (inl (e, m)) = absurd (s.fails refl (subst P (sym e) p))
        go rest has false s (inr m) = rest m

  module _ (l : List ℕ) where
    pub picked_before : (a b : ℕ) → Before (steps (picked test l)) a b → Before (steps l) a b
    picked_before a b q = ahead_before a b l (picked_ahead a b l (before_ahead a b (picked test l) q)).0

    pub before_picked : (a b : ℕ) → Before (steps l) a b → P a → P b → Before (steps (picked test l)) a b
    before_picked a b q u v = ahead_before a b (picked test l) (ahead_picked a b l (before_ahead a b l q) u v)

    pub picked_upto : (a b : ℕ) → UpTo (steps (picked test l)) a b → UpTo (steps l) a b × P a × P b
    picked_upto a b u = (go (ℕ_discrete a b), (passed a (upto_ends _ a b u).0).1, (passed b (upto_ends _ a b u).1).1)
      where
        passed : (e : ℕ) → Stands (steps (picked test l)) e → Member e l × P e
        passed e s = picked_member e l (some_has _ 0 (picked test l) s)

        go : Dec (a ≡ b) → UpTo (steps l) a b
        go (yes q) = subst (UpTo (steps l) a) q (stands_upto _ a (has_some _ 0 l (passed a (upto_ends _ a b u).0).0))
        go (no n) = before_upto _ a b (picked_before a b (upto_before _ a b u n))

    pub upto_picked : (a b : ℕ) → UpTo (steps l) a b → P a → P b → UpTo (steps (picked test l)) a b
    upto_picked a b u p q = go (ℕ_discrete a b)
      where
        go : Dec (a ≡ b) → UpTo (steps (picked test l)) a b
        go (yes e) = subst (UpTo (steps (picked test l)) a) e (stands_upto _ a (has_some _ 0 (picked test l) (member_picked a l (some_has _ 0 l (upto_ends _ a b u).0) p)))
        go (no n) = before_upto _ a b (before_picked a b (upto_before _ a b u n) p q)

    -- of the list that is due it is the list of what is due and passes
    pub picked_proper : (Due : ℕ → Type 0) → Proper (steps l) Due → Proper (steps (picked test l)) (λ e. Due e × P e)
    picked_proper Due p = record {
      stands = λ e q. has_some _ 0 (picked test l) (member_picked e l (some_has _ 0 l (p.stands e q.0)) q.1);
      due = λ e s. due e (picked_member e l (some_has _ 0 (picked test l) s));
      single = λ e q. p.single e (picked_before e e q);
    }
      where
        due : (e : ℕ) → Member e l × P e → Due e × P e
        due e (m, q) = (p.due e (has_some _ 0 l m), q)
