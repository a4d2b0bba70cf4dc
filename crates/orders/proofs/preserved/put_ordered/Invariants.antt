use mathlib.Core.Path.{◌≡◌}
use lib.ListN.{length}
use Rattle.rows.specs.Members.{In}
use Rattle.record.specs.Execution.{Execution}
use Rattle.facts.specs.Facts.{Placed, Classed}
use Rattle.orders.specs.Programs.{Program, Headed}
use Rattle.orders.proofs.Programs.{Running}
use Rattle.orders.proofs.Headings.{Ahead}
use Rattle.orders.proofs.preserved.put_ordered.Given as goal

abbrev pub invariant-loop-h : goal.invariant-loop-h
invariant-loop-h l = (length l.t ≡ length l.initial.t)
    × ((z : Execution) → Placed z l.q → Classed z l.c → Program z l.fn.own → Headed z (In l.fn.own) l.fn.heads → Ahead l.fn.own l.fn.heads l.rest l.h-iterator.rest × Running z l.fn.own l.rest l.initial.t l.t)
