-- The definitions of `Whole`, branch by branch.
-- Assumes nothing.
use Prim.Native.Nat.{ℕ, ◌≤◌}
use mathlib.Core.Path.{◌≡◌}
use mathlib.Core.List.{List}
use lib.ListN.{length}
use borrow.Author.Tests.{le-ltb, le-leb, eq-eqb}
use Rattle.std.specs.Prelude.{Ok}
use Rattle.form.specs.Bytes.{num}
use Rattle.form.specs.Steps.{Step}
use Rattle.form.specs.Form.{due, sections, views}
use Rattle.form.specs.Place.{counts}
use Rattle.form.specs.Whole.{head, tail, body, whole}
use Rattle.form.specs.declared.Counts.{Counts}

module _ (s : List ℕ) where
  pub head_right : (a : ℕ) → due s 0 1 0 ≡ Ok a → num 1 s 0 ≡ 1 → (b : ℕ) → due s 1 1 1 ≡ Ok b → num 1 s 1 ≤ 4 → Ok b ≡ head s
  unfolding head
  head_right a e h b p g = simp (e, eq-eqb _ _ h, p, le-leb _ _ g)

  pub whole_body : (a : ℕ) (r : Step) → head s ≡ Ok a → r ≡ body (counts s) s a → r ≡ whole s
  unfolding whole
  whole_body a r e h = rw e h

module _ (c : Counts) (s : List ℕ) (at : ℕ) where
  pub tail_right : (a : ℕ) → due s 9 2 at ≡ Ok a → num 2 s at ≡ c.processors → (b : ℕ) → views c s c.processors a ≡ Ok b → length s ≤ b
      → Ok b ≡ tail c s at
  unfolding tail
  tail_right a e h b p g = simp (e, eq-eqb _ _ h, p, le-ltb _ _ g)

  pub body_tail : (a : ℕ) (r : Step) → sections c s at ≡ Ok a → r ≡ tail c s a → r ≡ body c s at
  unfolding body
  body_tail a r e h = rw e h
