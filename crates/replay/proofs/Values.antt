-- Rule 33: whether a read has the value that its place holds, and the first step that is a read with another.
use Prim.Native.Nat.{ℕ, ◌<◌}
use mathlib.Core.Path.{◌≡◌, refl, sym, ap, ◌∙◌}
use mathlib.Core.Bool.{Bool}
use mathlib.Core.Logic.{◌⊎◌, inl, inr}
use mathlib.Core.List.{List}
use lib.Dec.{eqb}
use lib.ListN.{length}
use native.Mathlib.Omega.{arith}
use Rattle.order.specs.Decides.{Decides}
use Rattle.order.specs.Least.{Some, None}
use Rattle.order.proofs.Tests.{by_eq, by_as}
use Rattle.form.specs.Bytes.{num}
use Rattle.form.specs.Right.{Right}
use Rattle.form.proofs.Numbers.{num_one}
use Rattle.record.specs.Execution.{Execution}
use Rattle.record.specs.Says.{execution_of}
use Rattle.record.specs.declared.Event.{Event}
use Rattle.record.proofs.Formings.{formed}
use Rattle.model.specs.Model.{Reads}
use Rattle.model.specs.Rules.{WritesPlace, Initially}
use Rattle.axioms.specs.Faults.{Coded, code}
use Rattle.axioms.specs.declared.initial.Start.{Start}
use Rattle.axioms.specs.declared.initial.Start.TheVariants.{Absent, Other, Same}
use Rattle.axioms.proofs.Initials.{initially_unique}
use Rattle.sequences.specs.Sequence.{steps, LastWrite, Holds, Differs}
use Rattle.replay.specs.Known.{Narrowed, StateAt}
use Rattle.sequences.specs.ReadOff.{event}
use Rattle.replay.specs.declared.State.{State}
use Rattle.sequences.proofs.Sourcing.{last_unique}

module _ (z : Execution) (l : List ℕ) (i r : ℕ) where
  -- r's value is that of its place
  abbrev Agrees : Type 0
  Agrees = Holds z l i r (event z r).value

  -- w is the last write of r's place
  module _ (w : ℕ) (source : Some i (λ j. ((steps l).item j ≡ w) × LastWrite z l i r j)) where
    pub source_low : (m : State) → StateAt z l i m → w < z.events.size
    source_low m s = let (j, h, (e, u)) = source in rw e at (s.low j h)

    pub written_decides : (x y : Event) → x ≡ event z w → y ≡ event z r → Decides (eqb x.value y.value) Agrees
    written_decides x y ex ey = by_as _ to from (by_eq _ _)
      where
        value : {a b : Event} → a ≡ b → a.value ≡ b.value
        value = ap (λ (v : Event). v.value)

        here : (event z ((steps l).item source.0)).value ≡ x.value
        here = value (ap z.events.item source.2.0 ∙ sym ex)

        to : x.value ≡ y.value → Agrees
        to q = inl (source.0, source.2.1, here ∙ q ∙ value ey)

        from : Agrees → x.value ≡ y.value
        from (inl (k, v, d)) =
            sym here ∙ ap (λ (n : ℕ). (event z ((steps l).item n)).value) (last_unique z l i r source.0 k source.2.1 v) ∙ d ∙ sym (value ey)
        from (inr (n, d)) = absurd (n source.0 source.1 source.2.1.1)

  -- there is none
  module _ (none : None i (λ j. WritesPlace z ((steps l).item j) r)) where
    starts : Agrees → Initially z (event z r) (event z r).value
    starts (inl (j, u, v)) = absurd (none j u.0 u.1)
    starts (inr (f, v)) = v

    pub initial_decides : (k : Start) → Coded z r (code k) → (t : Bool) → Decides t (k ≡ Same) → Decides t Agrees
    initial_decides k d t = by_as t (to k d) (from k d)
      where
        to : (k : Start) → Coded z r (code k) → k ≡ Same → Agrees
        to Absent d e = cc
        to Other d e = cc
        to Same (inl (c, n)) e = absurd (omega arith)
        to Same (inr (inl (c, n))) e = absurd (omega arith)
        to Same (inr (inr (c, v))) e = inr (none, v)

        from : (k : Start) → Coded z r (code k) → Agrees → k ≡ Same
        from Absent (inl (c, n)) a = let v = starts a in absurd (n v.0 v.1 v.2.0)
        from Absent (inr (inl (c, n))) a = absurd (omega arith)
        from Absent (inr (inr (c, n))) a = absurd (omega arith)
        from Other (inl (c, n)) a = absurd (omega arith)
        from Other (inr (inl (c, (v, q, n)))) a = absurd (n (initially_unique z (event z r) _ _ q (starts a)))
        from Other (inr (inr (c, n))) a = absurd (omega arith)
        from Same d a = refl

-- the number of step i, read from the bytes
module _ (z : Execution) (l b : List ℕ) (narrow : Narrowed z.events.size l b) (i : ℕ) (h : i < length l) (e : ℕ) (read : e ≡ num 1 b i) where
  pub step_is : e ≡ (steps l).item i
  step_is = read ∙ num_one b i ∙ narrow.same i h

  pub differs_is : Reads (event z e) → (Holds z l i e (event z e).value → ⊥) → Differs z l i
  unfolding Differs
  differs_is r f = (h, rw step_is at r, rw step_is at f)

  -- it has its place's value, or is no read
  pub differs_not : {A B : Type 0} → A ⊎ B → (A → Holds z l i e (event z e).value) → (B → Reads (event z e) → ⊥) → Differs z l i → ⊥
  unfolding Differs
  differs_not (inl a) f g (k, r, n) = n (let q = f a in rw step_is at q)
  differs_not (inr b) f g (k, r, n) = g b (rw step_is r)

pub step_low : (s : List ℕ) → Right s → (b : List ℕ) (n : ℕ) → (l : List ℕ) × Narrowed (execution_of s).events.size l b × (n ≡ length l)
    → (i : ℕ) → i < n → (e : ℕ) → e ≡ num 1 b i → (e < (execution_of s).events.size) × (e < 64)
step_low s right b n (l, narrow, q) i h e read =
    let few = (formed s right).events.within in
    let low = narrow.low i (omega arith) in
    let is = step_is (execution_of s) l b narrow i (omega arith) e read in
    (omega arith, omega arith)
