-- The view question: its definitions, branch by branch, and that a view lies within a record that has the form.

use Prim.Native.Nat.{ℕ, ◌+◌, ◌≤◌, ◌<◌}
use mathlib.Core.Path.{◌≡◌, refl, sym, ◌∙◌}
use mathlib.Core.List.{List}
use native.Mathlib.Omega.{arith}
use native.Mathlib.Decide.{dec_lt}
use lib.ListN.{length}
use borrow.Author.Tests.{lt-ltb, le-ltb}
use Rattle.std.specs.Prelude.{Result, Ok, Err, MatchResult}
use Rattle.std.specs.Borrow.{Bor}
use Rattle.form.proofs.Answers.{Fair, fair_whole}
use Rattle.form.specs.Bytes.{num}
use Rattle.form.specs.Place.{start, view_start}
use Rattle.form.specs.Results.{Same}
use Rattle.form.specs.Right.{Right}
use Rattle.form.specs.Steps.{Step, and_then}
use Rattle.form.specs.Whole.{whole}
use Rattle.form.specs.declared.Fault.{Fault}
use Rattle.form.proofs.Rights.{whole_well}
use Rattle.form.proofs.Runs.{clash, then_next}
use Rattle.form.proofs.Starts.{view_start_next}
use Rattle.record.specs.declared.Part.{Part}
use Rattle.record.specs.declared.Unseen.{Unseen}
use Rattle.record.specs.declared.Unseen.TheVariants.{Unread, NoProcessor}
use Rattle.record.specs.View.{view_answer, part_from, part_count, view_part, views_at, Located, Seen, Refused}

unread : (x : Step) (n : ℕ) (f : Fault) → and_then x (λ z. Ok n) ≡ Err f → x ≡ Err f
unread (Ok z) n f e = absurd (clash f n (sym e))
unread (Err g) n f e = e

module _ (s : List ℕ) (p : ℕ) where
  -- what the view question finds
  abbrev pub Finds : ℕ → ℕ → ℕ → Type 0
  Finds answer from len = (answer ≡ view_answer s p) × ((from ≡ part_from s p) × (len ≡ part_count s p))

  refused : (f : Fault) → whole s ≡ Err f → Finds f.answer 0 0
  unfolding view_answer part_from part_count
  refused f e = (simp e, (simp e, simp e))

  pub view_refused : (f : Fault) → views_at s ≡ Err f → Finds f.answer 0 0
  unfolding views_at
  view_refused f e = refused f (unread (whole s) _ f e)

  pub view_unread : (f : Fault) → views_at s ≡ Err f → whole s ≡ Err f
  unfolding views_at
  view_unread f e = unread (whole s) _ f e

  module _ (z : ℕ) (e : whole s ≡ Ok z) where
    unknown : num 1 s 1 ≤ p → Finds 4 0 0
    unfolding view_answer part_from part_count
    unknown h = (simp (e, le-ltb _ _ h), (simp (e, le-ltb _ _ h), simp (e, le-ltb _ _ h)))

    known : p < num 1 s 1 → Finds 0 (view_start s p + 2) (num 2 s (view_start s p))
    unfolding view_answer part_from part_count
    known h = (simp (e, lt-ltb _ _ h), (simp (e, lt-ltb _ _ h), simp (e, lt-ltb _ _ h)))

    fits : Dec (p < num 1 s 1) → part_from s p + part_count s p ≤ length s
    fits (yes h) =
        let b = ((whole_well s z e).view p h).fits in
        let q = view_start_next s p in
        let (a, (f, n)) = known h in
        omega arith
    fits (no h) = let (a, (f, n)) = unknown (omega arith) in omega arith

  module _ (n : ℕ) (e : views_at s ≡ Ok n) where
    pub view_read : (z : ℕ) × (whole s ≡ Ok z)
    unfolding views_at
    view_read = let (z, q, g) = then_next (whole s) _ n e in (z, q)

    pub view_unknown : num 1 s 1 ≤ p → Finds 4 0 0
    unfolding views_at
    view_unknown h = let (z, q, g) = then_next (whole s) _ n e in unknown z q h

    pub view_known : p < num 1 s 1 → Finds 0 (view_start s p + 2) (num 2 s (view_start s p))
    unfolding views_at
    view_known h = let (z, q, g) = then_next (whole s) _ n e in known z q h

  pub part_fits : part_from s p + part_count s p ≤ length s
  part_fits = go (whole s) refl
    where
      go : (x : Step) → whole s ≡ x → part_from s p + part_count s p ≤ length s
      go (Ok z) e = fits z e (dec_lt p (num 1 s 1))
      go (Err f) e = let (a, (b, c)) = refused f e in omega arith

-- a record whose section 9 is reached has the form
module _ (s : List ℕ) (n : ℕ) (e : views_at s ≡ Ok n) where
  pub reached_right : Right s
  unfolding views_at
  reached_right = let (z, q, g) = then_next (whole s) _ n e in whole_well s z q

  pub reached_place : n ≡ start s 9
  unfolding views_at
  reached_place = let (z, q, g) = then_next (whole s) _ n e in cc

pub two_fit : (s : List ℕ) → Right s → 2 ≤ length s
two_fit s r =
    let f = (r.section 2 (omega arith) (omega arith)).fits in
    let g = (r.section 2 (omega arith) (omega arith)).ends in
    omega arith

-- two answers and two parts that the equations allow are one
pub view_decided : (s : List ℕ) (p a b : ℕ) (x y : List ℕ) → a ≡ view_answer s p → b ≡ view_answer s p → x ≡ view_part s p → y ≡ view_part s p
    → (a ≡ b) × (x ≡ y)
view_decided s p a b x y e f g h = (e ∙ sym f, g ∙ sym h)

module _ (s : List ℕ) (p : ℕ) where
  one_refusal : (u v : Unseen) → Refused s p u → Refused s p v → u ≡ v
  one_refusal (Unread f) (Unread g) h k = cc
  one_refusal (Unread f) NoProcessor h k = let (z, e) = k.0 in absurd (clash f z (sym h.0 ∙ e))
  one_refusal NoProcessor (Unread g) h k = let (z, e) = h.0 in absurd (clash g z (sym k.0 ∙ e))
  one_refusal NoProcessor NoProcessor h k = refl

  never_both : (u : Unseen) → view_answer s p ≡ 0 → Refused s p u → ⊥
  never_both (Unread f) a h =
      let t : Fair (Err f) = rw h.0 at (fair_whole s) in
      let z : f.answer ≡ 0 = h.1 ∙ a in
      omega arith
  never_both NoProcessor a h = let z : 4 ≡ 0 = h.2 ∙ a in omega arith

  -- `find`
  pub find_decided : (x y : Result Part Unseen) → MatchResult x (Located s p) (Refused s p) → MatchResult y (Located s p) (Refused s p)
      → Same (λ v w. (v.at ≡ w.at) × (v.count ≡ w.count)) x y
  find_decided (Ok v) (Ok w) h k = (h.1 ∙ sym k.1, h.2 ∙ sym k.2)
  find_decided (Err u) (Err v) h k = one_refusal u v h k
  find_decided (Ok v) (Err u) h k = never_both u h.0 k
  find_decided (Err u) (Ok v) h k = never_both u k.0 h

-- `view`
pub part_decided : (s : Bor (List ℕ)) (p : ℕ) (x y : Result (Bor (List ℕ)) Unseen) → MatchResult x (Seen s p) (Refused s.now p) → MatchResult y (Seen s p) (Refused s.now p)
    → Same (λ v w. v.now ≡ w.now) x y
part_decided s p (Ok v) (Ok w) h k = h.1 ∙ sym k.1
part_decided s p (Err u) (Err v) h k = one_refusal s.now p u v h k
part_decided s p (Ok v) (Err u) h k = never_both s.now p u h.0 k
part_decided s p (Err u) (Ok v) h k = never_both s.now p u k.0 h
