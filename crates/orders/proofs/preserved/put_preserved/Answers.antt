use native.Mathlib.Omega.{arith}
use Rattle.orders.proofs.Programs.{programs_more, programs_all}
use Rattle.orders.proofs.preserved.put_preserved.Goals as goal

pub loop-p-preserved : goal.loop-p-preserved
loop-p-preserved c = programs_more _ _ _ c.requires.1 _ c.loop-p-test.true _ c.row.ensures _ _ c.loop-p.invariant c.put_program.ensures

pub returns : goal.returns
returns c = programs_all _ c.requires.0 _ _ _ (omega arith) c.loop-p.invariant
