-- Rule 31: what the searches for a broken up locked instruction find is its evidence.
use Rattle.std.specs.Prelude.{Option, Some, is_some}
use Prim.Native.Nat.{ℕ, ◌<◌, ◌≤◌}
use mathlib.Core.Path.{◌≡◌, refl}
use mathlib.Core.Bool.{true}
use mathlib.Core.Logic.{inl}
use mathlib.Core.List.{List, [], ◌∷◌}
use lib.ListN.{length, set}
use Rattle.std.proofs.lemmas.Bool.{some_since}
use native.Mathlib.Omega.{arith}
use Rattle.order.specs.Least.{None, Least, Found}
use Rattle.order.specs.Rule.{Any, Judged, rule}
use Rattle.order.specs.Evidence.{Given}
use Rattle.order.proofs.Judgements.{given_next, given_none}
use Rattle.order.proofs.Searches.{found_hit, none_hit, found_as, then_found, last_found, not_found, put_three}
use Rattle.rows.specs.Members.{In, Is}
use Rattle.rows.specs.declared.Set.{Set}
use Rattle.rows.proofs.Members.{in_low}
use Rattle.record.specs.Execution.{Execution}
use Rattle.record.specs.Words.{SameInstruction}
use Rattle.model.specs.Model.{Locked, Before}
use Rattle.axioms.specs.Scene.{Lined}
use Rattle.axioms.proofs.Tears.{broken_locked, broken_in, broken_is}
use Rattle.sequences.specs.Sequence.{steps, BrokenUp}

module _ (z : Execution) (l t : List ℕ) (all : Set) (v : Lined z (steps l) t all) where
  low : (a x b : ℕ) → BrokenUp z l a x b → (a < 64) × (x < 64) × (b < 64)
  low a x b q = let (i, j, k) = broken_in z (steps l) t all v a x b q in (in_low all a i, in_low all x j, in_low all b k)

  -- not found
  pub broken_none : None 64 (λ a. Any 2 (BrokenUp z l a)) → (ev : List ℕ) → Given (Judged (rule 31 3 (BrokenUp z l) ∷ [])) ev ev 0 0
  broken_none f ev =
      given_next (rule 31 3 (BrokenUp z l)) [] ev ev 0 0
      (not_found 64 2 (BrokenUp z l) 64 (λ k q. (low k q.0 q.1.0 q.1.1).0) (none_hit 64 _ f) (omega arith)) (given_none ev)

  -- found: the second is searched for at the first, the third at both
  module _ (a : ℕ) (h : (a < 64) × Least (λ k. Any 2 (BrokenUp z l k)) a)
      (o : Option ℕ) (f : Locked z a → In all a → Found 64 (λ k. Any 1 (BrokenUp z l a k)) o) where
    second : Found 64 (λ k. Any 1 (BrokenUp z l a k)) o
    second =
        let (y, (b, q)) = h.1.0 in
        f (broken_locked z (steps l) t all v a y b q) (broken_in z (steps l) t all v a y b q).0

    pub second_some : is_some o ≡ true
    second_some = let (y, (b, q)) = h.1.0 in some_since o _ _ second (λ g. g y (low a y b q).1 (b, q))

    module _ (x : ℕ) (e : o ≡ Some x) where
      pub second_least : (x < 64) × Least (λ k. Any 1 (BrokenUp z l a k)) x
      second_least = rw e at second

      module _ (out : Set)
          (i : Locked z a → In all a → In all x → Is out (λ b. In all b × (SameInstruction (z.events.item a) (z.events.item b) × Before (steps l) x b)))
          (p : Option ℕ) (first : Found 64 (In out) p) where
        thirds : Is out (BrokenUp z l a x)
        thirds =
            let (y, q) = second_least.1.0 in
            let (m, n, k) = broken_in z (steps l) t all v a x y q in
            broken_is z (steps l) t all v a x y q out (i (broken_locked z (steps l) t all v a x y q) m n)

        pub third_some : is_some p ≡ true
        third_some = let (y, q) = second_least.1.0 in some_since p _ _ first (λ g. g y (low a x y q).2 (thirds.has y q))

        pub broken_shown : (b : ℕ) → p ≡ Some b → (ev : List ℕ) → 3 ≤ length ev
            → Given (Judged (rule 31 3 (BrokenUp z l) ∷ [])) ev (set (set (set ev 0 a) 1 x) 2 b) 31 3
        unfolding Judged
        broken_shown b d ev k =
            let third = found_as 64 (In out) (BrokenUp z l a x) thirds.says thirds.has b (rw d at first) in (
              a ∷ x ∷ b ∷ [],
              inl (
                (
                  a ∷ x ∷ b ∷ [],
                  then_found 64 2 (BrokenUp z l) a _ (found_hit 64 _ a h) (then_found 64 1 (BrokenUp z l a) x _ (found_hit 64 _ x second_least) (last_found 64 (BrokenUp z l a x) b (found_hit 64 _ b third) third.0)),
                  refl,
                ),
                refl,
              ),
              (refl, put_three a x b ev k),
            )
