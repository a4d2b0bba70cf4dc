-- A record that passes the form rules and the structure rules: what it says is formed and keeps them, and the rules behind them judge it.
use Prim.Native.Nat.{ℕ}
use mathlib.Core.Path.{◌≡◌, refl, ap}
use mathlib.Core.List.{List, [], ◌++◌}
use native.Mathlib.Omega.{arith}
use lib.ListN.{length}
use Rattle.std.specs.Prelude.{Ok, Err}
use Rattle.order.specs.Rule.{Rule, Judged, AllKept, Numbered}
use Rattle.order.proofs.Judgements.{judged_zero, judged_behind}
use Rattle.form.specs.Right.{Right}
use Rattle.form.specs.Whole.{whole}
use Rattle.form.specs.Steps.{Step}
use Rattle.form.proofs.Rights.{whole_well}
use Rattle.record.specs.Execution.{Execution}
use Rattle.record.specs.Says.{execution_of}
use Rattle.record.specs.Formed.{Formed}
use Rattle.structure.specs.Structure.{structure_rules}
use Rattle.structure.specs.Examined.{examined_by, examination}
use Rattle.record.proofs.Formings.{formed}

-- no structure rule has the number 0
pub structure_numbered : (z : Execution) → Numbered (structure_rules z)
structure_numbered z = (omega arith, (omega arith, (omega arith, (omega arith, (omega arith, tt)))))

pub record Passed (s : List ℕ) : Type 1 where
  pub right : Right s
  pub form : Formed (execution_of s)
  pub structure : AllKept (structure_rules (execution_of s))
  pub judged : (rules : List Rule) (a : ℕ) (e : List ℕ) → examination s rules a e → Judged rules a e

-- a fault would show its section
pub passed : (s : List ℕ) → examination s [] 0 [] → Passed s
unfolding examination
passed s p = go (whole s) refl p
  where
    go : (x : Step) → whole s ≡ x → examined_by x (structure_rules (execution_of s) ++ []) 0 [] → Passed s
    go (Err f) e q = let n = ap length q.1 in absurd (omega arith)
    go (Ok n) e q = record {
      right = whole_well s n e;
      form = formed s (whole_well s n e);
      structure = kept;
      judged = λ rules a d j. judged_behind (structure_rules (execution_of s)) rules a d kept (rw e at j);
    }
      where
        kept : AllKept (structure_rules (execution_of s))
        kept = judged_zero (structure_rules (execution_of s)) [] (structure_numbered (execution_of s)) q
