-- What the rules about the orders suppose.
use Prim.Native.Nat.{ℕ}
use mathlib.Core.List.{List}
use native.Mathlib.Omega.{arith}
use lib.ListN.{replicate}
use Rattle.order.specs.Rule.{Numbered}
use Rattle.rows.specs.Table.{Adds}
use Rattle.rows.proofs.Table.{zeros_rel}
use Rattle.record.specs.Execution.{Execution}
use Rattle.facts.proofs.Counting.{blank_adds}
use Rattle.model.specs.Model.{Source}
use Rattle.model.specs.Rules.{witness_rules}
use Rattle.axioms.specs.Scene.{Sources}

pub sources_of : (z : Execution) (u : List ℕ) → Adds (replicate 64 0) u (Source z) → Sources z u
sources_of z u d = record { rows = let e = d.same in omega arith; pairs = blank_adds _ u (Source z) (zeros_rel 64) d }

pub witness_numbered : (z : Execution) → Numbered (witness_rules z)
witness_numbered z = (omega arith, (omega arith, (omega arith, (omega arith, tt))))
