use native.Mathlib.Omega.{arith}
use Rattle.form.proofs.Rights.{whole_well}
use Rattle.table.proofs.Tables.{tabled_stop, tabled_short, tabled_next}
use Rattle.table.proofs.order_table.Goals as goal

pub layout-l-requires : goal.layout-l-requires
layout-l-requires c = whole_well _ c.in-Ok.field-0 (cc)

pub returns-then-out-l : goal.returns-then-out-l
returns-then-out-l c = let l = c.layout-l.ensures.events in
    let h = c.if-out-l.true in
    tabled_short _ c.in-Ok.field-0 (cc) c.args.out.now (omega arith)

pub tabled_from_ten-requires : goal.tabled_from_ten-requires
tabled_from_ten-requires c = let l = c.layout-l.ensures.events in
    let h = c.if-out-l.false in
    (whole_well _ c.in-Ok.field-0 (cc), c.layout-l.ensures, omega arith)

pub returns-in-Err : goal.returns-in-Err
returns-in-Err c = tabled_stop _ c.in-Err.f (cc) _

pub returns-else-out-l : goal.returns-else-out-l
returns-else-out-l c = let l = c.layout-l.ensures.events in
    let h = c.if-out-l.false in
    rw c.from.ensures.0 (tabled_next _ c.in-Ok.field-0 (cc) c.args.out.now _ _ (omega arith) c.tabled_from_ten.ensures)
