-- Where reading stops, the answer is 2 to 5, whatever the bytes: each check stops with one of these, and so do checks one after another.
use Prim.Native.Nat.{ℕ, zero, suc, ◌+◌, ◌-◌, ◌≤◌}
use mathlib.Core.Path.{◌≡◌, subst}
use mathlib.Core.List.{List, [], ◌∷◌}
use mathlib.Core.Bool.{Bool, true, false}
use lib.ListN.{length}
use lib.Dec.{leb, ltb, eqb, lit≤}
use Rattle.std.specs.Prelude.{Ok, Err}
use Rattle.form.specs.Bytes.{num}
use Rattle.form.specs.Form.{Field, width, limit, due, fields_from, fields, entry, entries, block, sections, views}
use Rattle.form.specs.Place.{counts}
use Rattle.form.specs.Steps.{Step, pick, and_then, run, upto}
use Rattle.form.specs.Whole.{head, tail, body, whole}
use Rattle.form.specs.declared.Counts.{Counts}
use Rattle.form.specs.declared.Fault.{Fault}

-- no fault, or one with an answer from 2 to 5
abbrev pub Fair : Step → Type 0
Fair (Ok at) = Unit {0}
Fair (Err f) = (2 ≤ f.answer) × (f.answer ≤ 5)

fair_then : (x : Step) (f : ℕ → Step) → Fair x → ((a : ℕ) → Fair (f a)) → Fair (and_then x f)
fair_then (Ok a) f h g = g a
fair_then (Err z) f h g = h

fair_pick : (b : Bool) (x y : Step) → Fair x → Fair y → Fair (pick b x y)
fair_pick true x y h g = h
fair_pick false x y h g = g

fair_run : (f : ℕ → ℕ → Step) → ((i a : ℕ) → Fair (f i a)) → (i m at : ℕ) → Fair (run f i m at)
unfolding run
fair_run f g i zero at = tt
fair_run f g i (suc m) at = fair_then (f i at) _ (g i at) (λ a. fair_run f g (i + 1) m a)

fair_upto : (f : ℕ → ℕ → Step) → ((i a : ℕ) → Fair (f i a)) → (i e at : ℕ) → Fair (upto f i e at)
unfolding upto
fair_upto f g i e at = fair_run f g i (e - i) at

fair_due : (s : List ℕ) (k w at : ℕ) → Fair (due s k w at)
unfolding due
fair_due s k w at = fair_pick (leb (at + w) (length s)) _ _ tt (lit≤ tt, lit≤ tt)

fair_fields : (k : ℕ) (fs : List Field) (at : ℕ) → Fair (fields_from k fs at)
fair_fields k [] at = tt
fair_fields k (f ∷ fs) at = fair_pick f.right _ _ (fair_fields k fs (at + f.size)) (lit≤ tt, lit≤ tt)

module _ (c : Counts) (s : List ℕ) where
  fair_entry : (k at : ℕ) → Fair (entry c s k at)
  unfolding entry
  fair_entry k at = fair_then (due s k (width k) at) _ (fair_due s k (width k) at) (λ a. fair_fields k (fields c s k at) at)

  fair_block : (k at : ℕ) → Fair (block c s k at)
  unfolding block entries
  fair_block k at =
      fair_then (due s k 2 at) _ (fair_due s k 2 at)
      (λ a. fair_pick (leb (num 2 s at) (limit k)) _ _ (fair_upto _ (λ i b. fair_entry k b) 0 (num 2 s at) a) (lit≤ tt, lit≤ tt))

  fair_tail : (at : ℕ) → Fair (tail c s at)
  unfolding tail views
  fair_tail at =
      fair_then (due s 9 2 at) _ (fair_due s 9 2 at)
      (λ a. fair_pick (eqb (num 2 s at) c.processors) _ _
      (fair_then (upto (λ i b. block c s 9 b) 0 c.processors a) _ (fair_upto _ (λ i b. fair_block 9 b) 0 c.processors a)
      (λ e. fair_pick (ltb e (length s)) _ _ (lit≤ tt, lit≤ tt) tt))
      (lit≤ tt, lit≤ tt))

  fair_body : (at : ℕ) → Fair (body c s at)
  unfolding body sections
  fair_body at = fair_then (upto (block c s) 2 9 at) _ (fair_upto _ fair_block 2 9 at) fair_tail

fair_head : (s : List ℕ) → Fair (head s)
unfolding head
fair_head s =
    fair_then (due s 0 1 0) _ (fair_due s 0 1 0)
    (λ a. fair_pick (eqb (num 1 s 0) 1) _ _
    (fair_then (due s 1 1 1) _ (fair_due s 1 1 1) (λ b. fair_pick (leb (num 1 s 1) 4) _ _ tt (lit≤ tt, lit≤ tt)))
    (lit≤ tt, lit≤ tt))

pub fair_whole : (s : List ℕ) → Fair (whole s)
unfolding whole
fair_whole s = fair_then (head s) _ (fair_head s) (fair_body (counts s) s)

pub stop_answer : (s : List ℕ) (f : Fault) → whole s ≡ Err f → (2 ≤ f.answer) × (f.answer ≤ 5)
stop_answer s f e = subst Fair e (fair_whole s)
