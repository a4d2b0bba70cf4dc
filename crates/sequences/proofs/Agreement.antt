-- The replay says of a sequence what the check says of the record that is read off from it.
use Prim.Native.Nat.{ℕ, ◌<◌}
use mathlib.Core.Path.{◌≡◌}
use mathlib.Core.Logic.{◌↔◌, inl, inr}
use mathlib.Core.List.{List, [], ◌∷◌}
use Rattle.order.specs.Rule.{Kept, Judged, AllKept, rule}
use Rattle.order.proofs.Searches.{of_any}
use Rattle.record.specs.Execution.{Execution}
use Rattle.record.specs.Formed.{Formed}
use Rattle.structure.specs.Structure.{structure_rules}
use Rattle.model.specs.Rules.{WrongStore, WrongLock, BreaksUp, Torn, check_rules}
use Rattle.model.proofs.Lists.{Proper, misplaced_not}
use Rattle.model.proofs.Sources.{kept_fitting, fitting_kept}
use Rattle.model.proofs.Views.{viewed_kept}
use Rattle.sequences.specs.Sequence.{steps, Reversed, Differs, sequence_rules, step_rules, BrokenUp, once_rules, replay_rules}
use Rattle.sequences.specs.ReadOff.{read_off}
use Rattle.sequences.proofs.Along.{view_along, locked_was, along_kept, kept_along}
use Rattle.sequences.proofs.Bounds.{stores_proper, views_proper}
use Rattle.sequences.proofs.Locking.{locks_proper}
use Rattle.sequences.proofs.Members.{each_once}
use Rattle.sequences.proofs.Reading.{overwritten_kept, held_fitting, held_initial, holding}

module _ (z : Execution) (f : Formed z) (s : AllKept (structure_rules z)) (l : List ℕ) (k : AllKept (sequence_rules z l)) where
  pub full : Proper (steps l) (λ e. e < z.events.size)
  full = each_once z l k.1.1.0

  stores_kept : Kept (rule 21 1 (WrongStore (read_off z l)))
  unfolding WrongStore
  stores_kept w q = let (e, m) = of_any 1 (WrongStore (read_off z l)) w q in misplaced_not _ _ (stores_proper z l full) e m

  locks_kept : Kept (rule 22 1 (WrongLock (read_off z l)))
  unfolding WrongLock
  locks_kept w q =
      let (i, m) = of_any 1 (WrongLock (read_off z l)) w q in
      misplaced_not _ _ (locks_proper z l full (λ j o. s.1.1.1.0 (j ∷ []) o)) i m

  -- a view that is torn is a locked instruction that is broken up
  torn_kept : Kept (rule 27 4 (Torn (read_off z l)))
  unfolding Torn BreaksUp
  torn_kept w q =
      let (p, (a, (x, (b, (h, (c, same, other, ax, xb)))))) = of_any 4 (Torn (read_off z l)) w q in
      k.1.1.1.0 (a ∷ x ∷ b ∷ []) (locked_was z l a c, same, other, view_along z l p a x ax, view_along z l p x b xb)

  pub steps_check : AllKept (step_rules z l) → AllKept (check_rules (read_off z l))
  steps_check r = (
    viewed_kept (read_off z l) (λ p h. views_proper z l full p),
    (
      stores_kept,
      (
        locks_kept,
        (
          fitting_kept (read_off z l) (held_fitting z l full differs),
          (
            along_kept z l f s full (λ i o. s.1.1.1.0 (i ∷ []) o) (λ i o. s.1.1.1.1.0 (i ∷ []) o)
                (λ a x b o. k.1.1.1.0 (a ∷ x ∷ b ∷ []) o)
                (λ a b o. r.0 (a ∷ b ∷ []) o),
            (overwritten_kept z l full, (held_initial z l full differs, (torn_kept, tt))),
          ),
        ),
      ),
    ),
  )
    where
      differs : (i : ℕ) → Differs z l i → ⊥
      differs i o = r.1.0 (i ∷ []) o

  pub check_steps : AllKept (check_rules (read_off z l)) → AllKept (step_rules z l)
  check_steps (c20, (c21, (c22, (c23, (c24, (c25, (c26, rest))))))) = (
    λ w q. let (a, (b, o)) = of_any 2 (Reversed z l) w q in kept_along z l f s full c24 a b o,
    (λ w q. let (i, o) = of_any 1 (Differs z l) w q in holding z l full f (kept_fitting (read_off z l) c23) c26 i o, tt),
  )

-- of an execution that passes form and structure, and a list that holds each event once with the events of each locked instruction together:
-- the replay breaks no rule exactly if the check of what is read off breaks none
pub sequence_agrees : (z : Execution) → Formed z → AllKept (structure_rules z) → (l : List ℕ) → AllKept (sequence_rules z l)
    → AllKept (step_rules z l) ↔ AllKept (check_rules (read_off z l))
sequence_agrees z f s l k = (steps_check z f s l k, check_steps z f s l k)

-- where a list that holds each event once breaks up a locked instruction, the replay says so
pub breaks_said : (z : Execution) (l : List ℕ) → AllKept (once_rules z l) → (a x b : ℕ) → BrokenUp z l a x b
    → (n : ℕ) (e : List ℕ) → Judged (replay_rules z l) n e → n ≡ 31
unfolding Judged
breaks_said z l k a x b h n e (inl q) = absurd (k.0 q.0.0 q.0.1.has)
breaks_said z l k a x b h n e (inr (f, inl q)) = absurd (k.1.0 q.0.0 q.0.1.has)
breaks_said z l k a x b h n e (inr (f, inr (g, inl q))) = absurd (k.1.1.0 q.0.0 q.0.1.has)
breaks_said z l k a x b h n e (inr (f, inr (g, inr (m, inl q)))) = q.1
breaks_said z l k a x b h n e (inr (f, inr (g, inr (m, inr (o, j))))) = absurd (o (a ∷ x ∷ b ∷ []) h)
