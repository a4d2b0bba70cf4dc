-- Worked case: S1 keeps the structure rules.
use Prim.Native.Nat.{ℕ, zero, suc, ◌<◌}
use mathlib.Core.Path.{◌≡◌, refl}
use mathlib.Core.List.{List, [], ◌∷◌}
use native.Mathlib.Omega.{arith}
use Rattle.order.specs.Rule.{Kept, AllKept, rule, entry_rule}
use Rattle.order.specs.Relation.{Cycle}
use Rattle.order.proofs.Rules.{cycle_kept}
use Rattle.form.specs.Bytes.{num}
use Rattle.form.specs.Form.{width}
use Rattle.form.specs.Place.{start, count, entry_at}
use Rattle.form.proofs.Cases.{s1}
use Rattle.record.specs.Says.{execution_of}
use Rattle.record.specs.Words.{Causes}
use Rattle.structure.specs.Structure.{Joining, Unordered, Eventless, Repeated, pair_of, structure_rules}

-- what S1 says: no section 3 pair, no locked instruction, and memory events only
no_causes : (execution_of s1).causes.size ≡ 0
unfolding s1 num width start count
no_causes = refl

no_locks : (execution_of s1).locks.size ≡ 0
unfolding s1 num width start count
no_locks = refl

four_events : (execution_of s1).events.size ≡ 4
unfolding s1 num width start count
four_events = refl

memory : (e : ℕ) → e < 4 → ((execution_of s1).events.item e).kind < 2
unfolding s1 num width start count entry_at
memory zero h = omega arith
memory (suc zero) h = omega arith
memory (suc (suc zero)) h = omega arith
memory (suc (suc (suc zero))) h = omega arith
memory (suc (suc (suc (suc e)))) h = absurd (omega arith)

kept_10 : Kept (entry_rule 10 (Joining (execution_of s1)) (pair_of (execution_of s1)))
unfolding Joining
kept_10 [] q = q
kept_10 (i ∷ []) q = let l = q.0 in let z = no_causes in omega arith
kept_10 (i ∷ j ∷ w) q = q

kept_12 : Kept (rule 12 2 (Unordered (execution_of s1)))
unfolding Unordered
kept_12 [] q = q
kept_12 (a ∷ []) q = q
kept_12 (a ∷ b ∷ []) (l, h, u, v, w, x, y) = let f = four_events in let m = memory b (omega arith) in let g = v.1.0 in omega arith
kept_12 (a ∷ b ∷ c ∷ w) q = q

kept_13 : Kept (rule 13 1 (Eventless (execution_of s1)))
unfolding Eventless
kept_13 [] q = q
kept_13 (i ∷ []) q = let l = q.0 in let z = no_locks in omega arith
kept_13 (i ∷ j ∷ w) q = q

kept_14 : Kept (rule 14 1 (Repeated (execution_of s1)))
unfolding Repeated
kept_14 [] q = q
kept_14 (i ∷ []) q = let l = q.0 in let z = no_locks in omega arith
kept_14 (i ∷ j ∷ w) q = q

no_step : (a b : ℕ) → Causes (execution_of s1) a b → ⊥
unfolding Causes
no_step a b (i, l, q) = let z = no_causes in omega arith

pub s1_structure : AllKept (structure_rules (execution_of s1))
s1_structure = (kept_10, (cycle_kept (Causes (execution_of s1)) 11 loop, (kept_12, (kept_13, (kept_14, tt)))))
  where
    loop : (l : List ℕ) × Cycle (Causes (execution_of s1)) l → ⊥
    loop ([], c) = c
    loop (a ∷ [], c) = no_step a a c
    loop (a ∷ b ∷ l, c) = no_step a b c.0
