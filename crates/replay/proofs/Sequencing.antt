-- The rules 28 and 29, and what is known of a sequence that keeps the rules up to 31.
use Prim.Native.Nat.{ℕ, ◌<◌, ◌≤◌}
use mathlib.Core.Path.{◌≡◌, refl, subst}
use mathlib.Core.Logic.{◌↔◌, inl}
use mathlib.Core.List.{List, [], ◌∷◌}
use native.Mathlib.Omega.{arith}
use lib.ListN.{length, set, drop}
use Rattle.order.specs.Least.{None, Least}
use Rattle.order.specs.Rule.{Kept, Judged, Numbered, rule}
use Rattle.order.specs.Evidence.{Given}
use Rattle.order.proofs.Dictionaries.{firstly_nil}
use Rattle.order.proofs.Judgements.{given_next, given_kept}
use Rattle.order.proofs.Searches.{found_hit, none_hit, found_as, none_as, one_shown, one_kept}
use Rattle.rows.specs.Table.{HasRows, rel}
use Rattle.record.specs.Execution.{Execution}
use Rattle.model.specs.Model.{Before}
use Rattle.sequences.specs.Sequence.{steps, TooLarge, sequence_rules}
use Rattle.replay.specs.Known.{Narrowed, Sequenced}
use Rattle.replay.proofs.Narrowings.{Large}

module _ (z : Execution) (l : List ℕ) where
  -- 28
  pub other_length : (length l ≡ z.events.size → ⊥) → (ev : List ℕ) → Given (Judged (sequence_rules z l)) ev ev 28 0
  unfolding Judged
  other_length f ev = ([], inl (([], firstly_nil _ f, refl), refl), (refl, refl))

  module _ (size : length l ≡ z.events.size) where
    length_kept : Kept (rule 28 0 (length l ≡ z.events.size → ⊥))
    length_kept [] q = q size
    length_kept (x ∷ w) q = q

    -- 29
    module _ (n : ℕ) (e : n ≡ z.events.size) where
      to_large : (k : ℕ) → Large n l k → TooLarge z l k
      unfolding TooLarge
      to_large k (a, b) = (a, omega arith)

      from_large : (k : ℕ) → TooLarge z l k → Large n l k
      unfolding TooLarge
      from_large k (a, b) = (a, omega arith)

      pub large_shown : (r : ℕ) → (r < n) × Least (Large n l) r → (ev : List ℕ) → 1 ≤ length ev → Given (Judged (sequence_rules z l)) ev (set ev 0 r) 29 1
      large_shown r h ev k =
          let f = found_as n (Large n l) (TooLarge z l) to_large from_large r h in
          given_next _ _ ev _ _ _ length_kept (one_shown 29 n (TooLarge z l) r (found_hit n _ r f) f.0 _ ev k)

      pub narrowed_all : (b : List ℕ) → Narrowed n l b → Narrowed z.events.size l b
      narrowed_all b = subst (λ (k : ℕ). Narrowed k l b) e

      pub large_next : None n (Large n l) → (ev out : List ℕ) (a k : ℕ) → Given (Judged (drop 2 (sequence_rules z l))) ev out a k
          → Given (Judged (sequence_rules z l)) ev out a k
      large_next f ev out a k q =
          let h = none_hit n _ (none_as n (Large n l) (TooLarge z l) to_large from_large f) in
          let low : (k : ℕ) → TooLarge z l k → k < n = λ k o. let m = (from_large k o).0 in omega arith in
          given_next _ _ _ _ _ _ length_kept (given_next _ _ _ _ _ _ (one_kept 29 n (TooLarge z l) n h (omega arith) low) q)

  -- no rule has the number 0
  pub sequence_numbered : Numbered (sequence_rules z l)
  sequence_numbered = (omega arith, (omega arith, (omega arith, (omega arith, tt))))

  -- all are kept
  pub sequenced : (b u : List ℕ) → Narrowed z.events.size l b → HasRows u 64 × ((x y : ℕ) → rel u x y ↔ Before (steps l) x y)
      → (ev out : List ℕ) (a k : ℕ) → Given (Judged (sequence_rules z l)) ev out a k → a ≡ 0 → Sequenced z l b u
  sequenced b u narrowed (rows, order) ev out a k g e = record {
    kept = given_kept (sequence_rules z l) [] ev out sequence_numbered a k e g;
    bytes = narrowed;
    rows = rows;
    order = order;
  }
