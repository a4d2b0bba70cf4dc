use mathlib.Core.Logic.{inr}
use native.Mathlib.Omega.{arith}
use Rattle.form.proofs.Rights.{whole_well}
use Rattle.structure.proofs.Examining.{examined_stop, examined_next}
use Rattle.replay.proofs.replay.replay.Goals as goal

pub layout-requires : goal.layout-requires
layout-requires c = whole_well _ c.in-Ok.field-0 (cc)

pub from_ten-requires : goal.from_ten-requires
from_ten-requires c = (whole_well _ c.in-Ok.field-0 (cc), c.layout.ensures, omega arith)

pub returns-in-Err : goal.returns-in-Err
returns-in-Err c =
    inr (omega arith, examined_stop _ _ c.in-Err.f (cc) c.args.ev.now (omega arith))

pub returns-in-Ok : goal.returns-in-Ok
returns-in-Ok c =
    rw (c.into.ensures.0, c.into.ensures.1) (inr (omega arith, examined_next _ _ c.in-Ok.field-0 (cc) _ _ _ _ c.from_ten.ensures))
