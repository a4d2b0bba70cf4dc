-- Rule 23: the test of a reads-from pair.
use Prim.Native.Nat.{ℕ, ◌<◌}
use mathlib.Core.Path.{◌≡◌, subst}
use mathlib.Core.Logic.{◌⊎◌}
use mathlib.Core.Bool.{Bool, true, false}
use mathlib.Core.List.{List}
use lib.Dec.{eqb}
use Rattle.order.specs.Decides.{Decides}
use Rattle.order.proofs.Tests.{by_no, by_eq, by_as}
use Rattle.rows.specs.Members.{In, Is}
use Rattle.rows.specs.Table.{rel}
use Rattle.rows.specs.declared.Set.{Set}
use Rattle.form.specs.Right.{Right}
use Rattle.record.specs.Execution.{Execution}
use Rattle.record.specs.Says.{execution_of}
use Rattle.record.specs.Laid.{Stands}
use Rattle.record.specs.declared.Event.{Event}
use Rattle.record.specs.declared.Part.{Part}
use Rattle.record.proofs.Formings.{formed}
use Rattle.facts.specs.Facts.{Placed, Classed}
use Rattle.facts.specs.declared.Classes.{Classes}
use Rattle.model.specs.Rules.{WriteAndRead, WrongSource}
use Rattle.axioms.proofs.Sorts.{writes_is, reads_is}

-- the events of pair i
module _ (s : List ℕ) (r : Right s) (p : Part) (q : Stands s 8 p) (i : ℕ) (h : i < p.count) where
  pub pair_within : i < (execution_of s).sources.size
  pair_within = subst (λ (n : ℕ). i < n) q.number h

  pub from_low : (w : ℕ) → w ≡ ((execution_of s).sources.item i).from → w < (execution_of s).events.size
  from_low w e = rw e ((formed s r).sources.each i pair_within).0

  pub to_low : (w : ℕ) → w ≡ ((execution_of s).sources.item i).to → w < (execution_of s).events.size
  to_low w e = rw e ((formed s r).sources.each i pair_within).1

-- v is the first test, or the second where the first holds
module _ {P Q : Type 0} (v a : Bool) (d : Decides a P) where
  pub by_then : a ≡ true → (b : Bool) → v ≡ b → Decides b Q → Decides v (P × Q)
  by_then h b e f = rw e (by_as b (λ q. (d.holds h, q)) (λ q. q.1) f)

  pub by_else : a ≡ false → v ≡ a → Decides v (P × Q)
  by_else h e = rw (e, h) (by_no (λ q. d.fails h q.0))

-- events w and r: a write and a read, and of one place
module _ (z : Execution) (q : List ℕ) (places : Placed z q) (c : Classes) (classes : Classed z c) (writes reads : Set)
    (iw : Is writes (λ e. In c.stores e ⊎ In c.puts e)) (ir : Is reads (λ e. In c.loads e ⊎ In c.gets e)) (w r : ℕ)
    (lw : w < z.events.size) (lr : r < z.events.size) (b : Bool) (d : Decides b ((In writes w × In reads r) × rel q w r)) where
  pub paired_then : b ≡ true → (x y : Event) → x ≡ z.events.item w → y ≡ z.events.item r
      → Decides (eqb x.value y.value) (WriteAndRead (z.events.item w) (z.events.item r))
  paired_then h x y ex ey =
      let ((kw, kr), o) = d.holds h in
      rw (ex, ey) (by_as _
      (λ e. (((writes_is z c classes writes iw).says w kw).1, (((reads_is z c classes reads ir).says r kr).1, (((places.pairs w r).0 o).2, e))))
      (λ p. p.1.1.1)
      (by_eq _ _))

  pub paired_else : b ≡ false → Decides b (WriteAndRead (z.events.item w) (z.events.item r))
  paired_else h = rw h (by_no (λ p. d.fails h (
    ((writes_is z c classes writes iw).has w (lw, p.0), (reads_is z c classes reads ir).has r (lr, p.1.0)),
    (places.pairs w r).1 (lw, lr, p.1.1.0),
  )))

-- pair i, whose numbers were read as w and r
module _ (z : Execution) (i w r : ℕ) (ew : w ≡ (z.sources.item i).from) (er : r ≡ (z.sources.item i).to) where
  pub wrong_pair : i < z.sources.size → (WriteAndRead (z.events.item w) (z.events.item r) → ⊥) → WrongSource z i
  unfolding WrongSource
  wrong_pair l g = (l, λ h. g (rw (ew, er) h))

  pub right_pair : WriteAndRead (z.events.item w) (z.events.item r) → WrongSource z i → ⊥
  unfolding WrongSource
  right_pair h j = j.1 (rw (ew, er) at h)
