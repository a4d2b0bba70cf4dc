use Prim.Native.Nat.{ℕ, ◌+◌, ◌*◌, ◌<◌, ◌≤◌}
use mathlib.Core.Path.{◌≡◌, refl, sym, ◌∙◌}
use mathlib.Core.Logic.{inl, inr, ⊎_elim}
use mathlib.Core.List.{List}
use native.Mathlib.Omega.{arith}
use lib.ListN.{length}
use lib.Dec.{eqb}
use mir.Val.{Fits}
use mir.Syntax.{w64}
use Rattle.order.specs.Decides.{Decides}
use Rattle.order.proofs.Tests.{by_as, by_no, by_eq}
use Rattle.form.specs.Bytes.{num}
use Rattle.form.specs.Form.{width}
use Rattle.form.specs.Place.{entry_at}
use Rattle.form.specs.Right.{Right}
use Rattle.record.specs.Laid.{Stands}
use Rattle.record.specs.Execution.{Initial}
use Rattle.record.specs.Says.{execution_of}
use Rattle.record.specs.Words.{InitialFor}
use Rattle.record.specs.declared.Event.{Event}
use Rattle.record.specs.declared.Part.{Part}
use Rattle.record.proofs.Lengths.{small}
use Rattle.record.proofs.Reading.{field_fits, field_small, field_of, first_of}
use Rattle.record.proofs.lists.is_for.Goals as goal

-- entry i of section 5
module _ (s : List ℕ) (r : Right s) (p : Part) (q : Stands s 5 p) (i : ℕ) (h : i < p.count) where
  low : (d : ℕ) → d ≤ 12 → Fits w64 (p.at + 12 * i + d)
  unfolding width
  low d l = small _ (field_small s r 5 (omega arith) (omega arith) p q 12 refl i h d l)

  within : (d n : ℕ) → d + n ≤ 12 → p.at + 12 * i + d + n ≤ length s
  unfolding width
  within d n l = field_fits s r 5 (omega arith) (omega arith) p q 12 refl i h d n l

  field : (n d : ℕ) → num n s (p.at + 12 * i + d) ≡ num n s (entry_at s 5 i + d)
  unfolding width
  field n d = field_of s r 5 (omega arith) (omega arith) p q 12 refl i h n d

  first : num 1 s (p.at + 12 * i) ≡ num 1 s (entry_at s 5 i)
  unfolding width
  first = first_of s r 5 (omega arith) (omega arith) p q 12 refl i h 1

-- an event, and an entry whose fields were read
module _ (x : Event) (i : Initial) (place : ℕ) (p : place ≡ i.place) where
  other_place : (place ≡ x.place → ⊥) → InitialFor x i → ⊥
  other_place g (inl q) = g (p ∙ sym q.1.1)
  other_place g (inr q) = g (p ∙ sym q.1.1.1)

  module _ (e : place ≡ x.place) (class : ℕ) (k : class ≡ i.class) where
    for_memory : x.kind < 2 → Decides (eqb class 0) (InitialFor x i)
    for_memory m = by_as _ (λ c. inl (m, (sym k ∙ c, sym e ∙ p))) (λ q. ⊎_elim (λ a. k ∙ a.1.0) (λ b. let r = b.0 in absurd (omega arith)) q) (by_eq _ _)

    module _ (r : 2 ≤ x.kind) where
      for_register : class ≡ 1 → (owner : ℕ) → owner ≡ i.processor → Decides (eqb owner x.processor) (InitialFor x i)
      for_register c owner o = by_as _
          (λ f. inr (r, (sym k ∙ c, (sym f ∙ o, sym e ∙ p))))
          (λ q. ⊎_elim (λ a. let m = a.0 in absurd (omega arith)) (λ b. o ∙ sym b.1.1.0) q)
          (by_eq _ _)

      other_class : (class ≡ 1 → ⊥) → Decides (eqb class 1) (InitialFor x i)
      other_class g = by_as _ (λ c. absurd (g c)) (λ q. ⊎_elim (λ a. let m = a.0 in absurd (omega arith)) (λ b. k ∙ b.1.0) q) (by_eq _ _)

pub overflow_mul-at : goal.overflow_mul-at
overflow_mul-at c = let f = (low _ c.requires.0 _ c.requires.1 _ c.requires.2 0 (omega arith)).fits in record { fits = omega arith }

pub overflow_add-at : goal.overflow_add-at
overflow_add-at c = let f = (low _ c.requires.0 _ c.requires.1 _ c.requires.2 0 (omega arith)).fits in record { fits = omega arith }

pub overflow_add-at-2 : goal.overflow_add-at-2
overflow_add-at-2 c = low _ c.requires.0 _ c.requires.1 _ c.requires.2 4 (omega arith)

pub num4-requires : goal.num4-requires
num4-requires c = within _ c.requires.0 _ c.requires.1 _ c.requires.2 4 4 (omega arith)

pub overflow_add-at-3 : goal.overflow_add-at-3
overflow_add-at-3 c = low _ c.requires.0 _ c.requires.1 _ c.requires.2 1 (omega arith)

pub num1-class-requires : goal.num1-class-requires
num1-class-requires c = within _ c.requires.0 _ c.requires.1 _ c.requires.2 1 1 (omega arith)

pub num1-requires : goal.num1-requires
num1-requires c = let f = within _ c.requires.0 _ c.requires.1 _ c.requires.2 0 1 (omega arith) in omega arith

pub returns-then-num4-x : goal.returns-then-num4-x
returns-then-num4-x c = by_no (other_place c.args.x ((execution_of c.args.s.now).initials.item c.args.i) _ (c.num4.ensures.0 ∙ field _ c.requires.0 _ c.requires.1 _ c.requires.2 4 4) c.if-num4-x.true)

pub returns-then-x-lt2 : goal.returns-then-x-lt2
returns-then-x-lt2 c =
    let read = field _ c.requires.0 _ c.requires.1 _ c.requires.2 in
    for_memory c.args.x ((execution_of c.args.s.now).initials.item c.args.i) _ (c.num4.ensures.0 ∙ read 4 4) c.if-num4-x.false _ (c.num1-class.ensures.0 ∙ read 1 1) c.if-x-lt2.true

pub returns-then-class-eq1 : goal.returns-then-class-eq1
returns-then-class-eq1 c =
    let read = field _ c.requires.0 _ c.requires.1 _ c.requires.2 in
    let own = first _ c.requires.0 _ c.requires.1 _ c.requires.2 in
    for_register c.args.x ((execution_of c.args.s.now).initials.item c.args.i) _ (c.num4.ensures.0 ∙ read 4 4) c.if-num4-x.false _ (c.num1-class.ensures.0 ∙ read 1 1) c.if-x-lt2.false c.if-class-eq1.true _ (c.num1.ensures.0 ∙ own)

pub returns-else-class-eq1 : goal.returns-else-class-eq1
returns-else-class-eq1 c =
    let read = field _ c.requires.0 _ c.requires.1 _ c.requires.2 in
    other_class c.args.x ((execution_of c.args.s.now).initials.item c.args.i) _ (c.num4.ensures.0 ∙ read 4 4) c.if-num4-x.false _ (c.num1-class.ensures.0 ∙ read 1 1) c.if-x-lt2.false c.if-class-eq1.false
