-- The pairs of section 3.
use Prim.Native.Nat.{ℕ, ◌+◌, ◌*◌, ◌<◌, ◌≤◌}
use mathlib.Core.Path.{◌≡◌, refl, sym, ap, ap₂, ◌∙◌, subst}
use mathlib.Core.List.{List, [], ◌∷◌}
use native.Mathlib.Omega.{arith}
use lib.ListN.{length}
use Rattle.rows.specs.Table.{Adds}
use Rattle.form.specs.Bytes.{num}
use Rattle.form.specs.Form.{width}
use Rattle.form.specs.Place.{count, entry_at}
use Rattle.form.specs.Right.{Right}
use Rattle.record.specs.Execution.{Execution}
use Rattle.record.specs.Says.{execution_of}
use Rattle.record.specs.Laid.{Stands}
use Rattle.record.specs.Words.{SameInstruction, Causes}
use Rattle.facts.proofs.Counting.{Upto, PairStep}
use Rattle.structure.specs.Structure.{Joining, pair_of}
use Rattle.record.specs.declared.Event.{Event}
use Rattle.record.specs.declared.Part.{Part}
use Rattle.record.proofs.Formings.{formed}
use Rattle.record.proofs.Lengths.{length_low}
use Rattle.record.proofs.Places.{entry_place, entry_within}

module _ (s : List ℕ) (r : Right s) (p : Part) (q : Stands s 3 p) (i : ℕ) (h : i < p.count) where
  two : 2 ≡ width 3
  unfolding width
  two = refl

  pub pair_place : p.at + 2 * i ≡ entry_at s 3 i
  pair_place = entry_place s r 3 (omega arith) (omega arith) p q 2 two i

  pub pair_fits : p.at + 2 * i + 2 ≤ length s
  pair_fits = entry_within s r 3 (omega arith) (omega arith) p q 2 two i h

  pub pair_low : p.at + 2 * i + 2 ≤ 2346
  pair_low = let a = pair_fits in let b = length_low s r in omega arith

  pub pair_within : i < (execution_of s).causes.size
  pair_within = subst (λ (x : ℕ). i < x) q.number h

  pub pair_from : num 1 s (p.at + 2 * i) ≡ ((execution_of s).causes.item i).from
  pair_from = ap (num 1 s) pair_place

  pub pair_to : num 1 s (p.at + 2 * i + 1) ≡ ((execution_of s).causes.item i).to
  pair_to = ap (λ (x : ℕ). num 1 s (x + 1)) pair_place

  pub from_low : num 1 s (p.at + 2 * i) < (execution_of s).events.size
  from_low = subst (λ (x : ℕ). x < count s 2) (sym pair_from) ((formed s r).causes.each i pair_within).0

  pub to_low : num 1 s (p.at + 2 * i + 1) < (execution_of s).events.size
  to_low = subst (λ (x : ℕ). x < count s 2) (sym pair_to) ((formed s r).causes.each i pair_within).1

-- the two numbers that are shown of pair i
pub pair_shown : (x : Execution) (i a b : ℕ) → a ≡ (x.causes.item i).from → b ≡ (x.causes.item i).to → a ∷ b ∷ [] ≡ pair_of x i
pair_shown x i a b e f = ap₂ (λ (y z : ℕ). y ∷ z ∷ []) e f

-- all of them
pub causes_all : (x : Execution) (t u : List ℕ) (i : ℕ) → i ≡ x.causes.size → Adds t u (Upto (PairStep x.causes) i) → Adds t u (Causes x)
unfolding Upto Causes
causes_all x t u i e d = rw e at d

-- rule 10 at pair i, of whose events x and y were read
module _ (z : Execution) (i a b : ℕ) (x y : Event) (ea : a ≡ (z.causes.item i).from) (eb : b ≡ (z.causes.item i).to)
    (ex : x ≡ z.events.item a) (ey : y ≡ z.events.item b) where
  there : x ≡ z.events.item (z.causes.item i).from
  there = ex ∙ ap z.events.item ea

  other : y ≡ z.events.item (z.causes.item i).to
  other = ey ∙ ap z.events.item eb

  pub joining_is : i < z.causes.size → (SameInstruction x y → ⊥) → Joining z i
  unfolding Joining
  joining_is l g = (l, λ q. g (rw (there, other) q))

  pub joining_not : SameInstruction x y → Joining z i → ⊥
  unfolding Joining
  joining_not q j = j.1 (rw (there, other) at q)
