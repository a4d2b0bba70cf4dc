-- The rules and the HOL specification agree: the check answers 0 exactly to the valid executions, and the structure rules ask for the
-- well-formed ones.
use Prim.Native.Nat.{ℕ}
use mathlib.Core.Path.{◌≡◌, refl, subst}
use mathlib.Core.Logic.{◌↔◌, inl, inr}
use mathlib.Core.List.{List, [], ◌∷◌}
use native.Mathlib.Omega.{arith}
use Rattle.std.specs.Prelude.{Ok}
use Rattle.order.specs.Least.{Some}
use Rattle.order.specs.Relation.{Cyclic}
use Rattle.order.specs.Rule.{Kept, rule, Judged, AllKept, Numbered, Rounds}
use Rattle.order.proofs.Judgements.{judged_zero, zero_judged, judged_then, judged_behind}
use Rattle.order.proofs.Rules.{round_cyclic, kept_cycles}
use Rattle.form.specs.Whole.{whole}
use Rattle.form.proofs.Rights.{whole_well}
use Rattle.record.specs.Execution.{Execution}
use Rattle.record.specs.Formed.{Formed}
use Rattle.record.specs.Says.{execution_of}
use Rattle.record.proofs.Formings.{formed}
use Rattle.structure.specs.Structure.{Unordered, structure_rules}
use Rattle.structure.specs.Examined.{examination}
use Rattle.structure.proofs.Passing.{Passed, passed}
use Rattle.model.specs.Model.{OrderFor}
use Rattle.model.specs.Rules.{witness_rules, order_rules, check_rules}
use Rattle.model.specs.Hol.{wfes}
use Rattle.model.specs.Says.{structure_of}
use Rattle.model.specs.Validity.{Passes, Answers, Valid}
use Rattle.model.proofs.Orders.{kept_causality, causality_kept, kept_atomicity, atomicity_kept}
use Rattle.model.proofs.Serializations.{kept_stored, stored_kept, stored_candidate, candidate_stored, kept_queued, queued_kept, queued_candidate, candidate_queued}
use Rattle.model.proofs.Sources.{kept_fitting, fitting_kept, fitting_candidate, candidate_fitting, kept_written, written_kept, kept_initial, initial_kept}
use Rattle.model.proofs.Structures.{structure_formed, structure_is}
use Rattle.model.proofs.Views.{kept_viewed, viewed_kept, viewed_views, views_viewed}

-- ---- the rules and the model agree

module _ (z : Execution) (f : Formed z) where
  pub kept_valid : AllKept (check_rules z) → Valid z
  kept_valid (k20, (k21, (k22, (k23, (k24, (k25, (k26, (k27, u)))))))) =
      let v = kept_viewed z k20 in
      let t = kept_stored z k21 in
      let l = kept_queued z k22 in
      let g = kept_fitting z k23 in (
        record {
          views = λ p h. (v p h).single;
          stores = λ e. (t.due e, t.stands e);
          locks = λ i. (l.due i, l.stands i);
        },
        record {
          views = viewed_views z f v;
          stores = stored_candidate z f t;
          locks = queued_candidate z l;
          sources = fitting_candidate z f g;
          causality = kept_causality z f v k24;
          written = kept_written z f v g k25;
          initial = kept_initial z f v k26;
          atomicity = kept_atomicity z f v k27;
        },
      )

  -- that an entry of section 7 stands once, locked order shows by its events: by rules 13 and 14 it has some, and shares none
  pub valid_kept : AllKept (structure_rules z) → Valid z → AllKept (check_rules z)
  valid_kept k (s, c) =
      let v = views_viewed z f c.views s.views in
      let g = candidate_fitting z f c.sources in (
        viewed_kept z v,
        (
          stored_kept z (candidate_stored z f c.stores s.stores),
          (
            queued_kept z (candidate_queued z (structure_formed z f k).atoms c.locks s.locks),
            (
              fitting_kept z g,
              (
                causality_kept z f v c.causality,
                (written_kept z f v g c.written, (initial_kept z f v c.initial, (atomicity_kept z f v c.atomicity, tt))),
              ),
            ),
          ),
        ),
      )

-- ---- the check of a record that passes

pub numbered : (z : Execution) → Numbered (check_rules z)
numbered z =
    (omega arith, (omega arith, (omega arith, (omega arith, (omega arith, (omega arith, (omega arith, (omega arith, tt))))))))

-- a record that passes gets 0 exactly if what it says is valid
pub zero_valid : (s : List ℕ) → Passes s → (a : ℕ) (e : List ℕ) → Answers s a e → (a ≡ 0) ↔ Valid (execution_of s)
zero_valid s p a e c = (to, from)
  where
    q : Passed s
    q = passed s p

    judged : Judged (check_rules (execution_of s)) a e
    judged = q.judged _ a e c

    to : a ≡ 0 → Valid (execution_of s)
    to o = kept_valid _ q.form (judged_zero _ e (numbered (execution_of s)) (subst (λ (n : ℕ). Judged (check_rules (execution_of s)) n e) o judged))

    from : Valid (execution_of s) → a ≡ 0
    from v = (zero_judged _ a e (valid_kept _ q.form q.structure v) judged).0

-- 24 is the answer exactly if the rule about cycles is the first that is broken
pub causality : (s : List ℕ) → Passes s → AllKept (witness_rules (execution_of s)) → (a : ℕ) (e : List ℕ) → Answers s a e
    → (a ≡ 24) ↔ Some (execution_of s).processors (λ p. Cyclic (OrderFor (execution_of s) p))
unfolding Judged
causality s p k a e c = (to judged, from judged)
  where
    z : Execution
    z = execution_of s

    judged : Judged (order_rules z) a e
    judged = judged_behind (witness_rules z) (order_rules z) a e k ((passed s p).judged _ a e c)

    found : (w : List ℕ) → Rounds z.processors (OrderFor z) w → Some z.processors (λ r. Cyclic (OrderFor z r))
    found [] q = absurd q
    found (r ∷ w) (h, q) = (r, h, round_cyclic (OrderFor z r) w q)

    to : Judged (order_rules z) a e → a ≡ 24 → Some z.processors (λ r. Cyclic (OrderFor z r))
    to (inl (h, o)) n = found h.0 h.1.has
    to (inr (h, inl (q, o))) n = absurd (omega arith)
    to (inr (h, inr (g, inl (q, o)))) n = absurd (omega arith)
    to (inr (h, inr (g, inr (l, inl (q, o))))) n = absurd (omega arith)
    to (inr (h, inr (g, inr (l, inr (m, q))))) n = let o = q.0 in absurd (omega arith)

    from : Judged (order_rules z) a e → Some z.processors (λ r. Cyclic (OrderFor z r)) → a ≡ 24
    from (inl (h, o)) (r, l, q) = o
    from (inr (h, j)) (r, l, q) = absurd (kept_cycles 24 z.processors (OrderFor z) h r l q)

pub well_formed : (s : List ℕ) → Passes s → wfes (structure_of (execution_of s))
well_formed s p = let q = passed s p in structure_formed (execution_of s) q.form q.structure

-- a record that has the form passes exactly if it says a well-formed event structure and keeps rule 12, which asks for a pair of section 3
-- where HOL asks for a chain of them
pub structured : (s : List ℕ) (end : ℕ) → whole s ≡ Ok end
    → Passes s ↔ (wfes (structure_of (execution_of s)) × Kept (rule 12 2 (Unordered (execution_of s))))
unfolding examination Judged
structured s end r = (λ p. to (passed s p), λ w. rw r (judged_then (structure_rules (execution_of s)) [] 0 [] ((structure_is _ form).1 w) (refl, refl)))
  where
    form : Formed (execution_of s)
    form = formed s (whole_well s end r)

    to : Passed s → wfes (structure_of (execution_of s)) × Kept (rule 12 2 (Unordered (execution_of s)))
    to q = (structure_is _ q.form).0 q.structure
