use native.Mathlib.Omega.{arith}
use Rattle.form.proofs.Rights.{whole_well}
use Rattle.readoff.proofs.Writing.{off_stop, off_next}
use Rattle.readoff.proofs.read_off.read_off.Goals as goal

pub layout-requires : goal.layout-requires
layout-requires c = whole_well _ c.in-Ok.field-0 (cc)

pub from_ten-requires : goal.from_ten-requires
from_ten-requires c =
    (whole_well _ c.in-Ok.field-0 (cc), c.layout.ensures, omega arith)

pub returns-in-Err : goal.returns-in-Err
returns-in-Err c =
    off_stop _ _ _ (omega arith) c.in-Err.f (cc)

pub returns-in-Err-from_ten : goal.returns-in-Err-from_ten
returns-in-Err-from_ten c = off_next _ _ _ (omega arith) c.in-Ok.field-0 (cc) _ _ _ c.in-Err-from_ten.ensures

pub returns-in-Ok-from_ten : goal.returns-in-Ok-from_ten
returns-in-Ok-from_ten c = off_next _ _ _ (omega arith) c.in-Ok.field-0 (cc) _ _ _ c.in-Ok-from_ten.ensures
