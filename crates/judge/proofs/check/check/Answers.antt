use mathlib.Core.Path.{refl}
use mathlib.Core.Logic.{inl, inr}
use native.Mathlib.Omega.{arith}
use Rattle.form.proofs.Rights.{whole_well}
use Rattle.structure.proofs.Examining.{examined_stop, examined_next}
use Rattle.judge.proofs.check.check.Goals as goal

pub returns-then-ev-lt65 : goal.returns-then-ev-lt65
returns-then-ev-lt65 c = inl (c.if-ev-lt65.true, refl, refl, refl)

pub layout-requires : goal.layout-requires
layout-requires c = whole_well _ c.in-Ok.field-0 (cc)

pub from_ten-requires : goal.from_ten-requires
from_ten-requires c = (whole_well _ c.in-Ok.field-0 (cc), c.layout.ensures, c.if-ev-lt65.false)

pub returns-in-Err : goal.returns-in-Err
returns-in-Err c = let l = c.if-ev-lt65.false in
    inr (l, examined_stop _ _ c.in-Err.f (cc) c.args.ev.now (omega arith))

pub returns-in-Ok : goal.returns-in-Ok
returns-in-Ok c = rw (c.into.ensures.0, c.into.ensures.1) (inr (c.if-ev-lt65.false, examined_next _ _ c.in-Ok.field-0 (cc) _ _ _ _ c.from_ten.ensures))
