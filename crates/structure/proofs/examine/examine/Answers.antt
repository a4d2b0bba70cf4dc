use native.Mathlib.Omega.{arith}
use Rattle.form.proofs.Rights.{whole_well}
use Rattle.structure.proofs.Examining.{examined_stop, examined_next}
use Rattle.structure.proofs.examine.examine.Goals as goal

pub layout-requires : goal.layout-requires
layout-requires c = whole_well _ c.in-Ok.field-0 (cc)

pub examine_form-requires : goal.examine_form-requires
examine_form-requires c = let p = c.requires in
    (whole_well _ c.in-Ok.field-0 (cc), c.layout.ensures, p)

pub returns-in-Err : goal.returns-in-Err
returns-in-Err c = let p = c.requires in
    examined_stop _ _ c.in-Err.f (cc) c.args.ev.now (omega arith)

pub returns-in-Ok : goal.returns-in-Ok
returns-in-Ok c = rw (c.into.ensures.0, c.into.ensures.1) (examined_next _ _ c.in-Ok.field-0 (cc) _ _ _ _ c.examine_form.ensures)
