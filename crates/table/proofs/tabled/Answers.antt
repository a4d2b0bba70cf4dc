use mathlib.Core.Path.{refl}
use native.Mathlib.Omega.{arith}
use Rattle.std.proofs.lemmas.Result.{err_from_is_err_and}
use Rattle.record.proofs.Formings.{formed}
use Rattle.table.proofs.Tables.{filled, judging_stop, judging_done}
use Rattle.table.proofs.tabled.Goals as goal

pub returns-in_err-witness : goal.returns-in_err-witness
returns-in_err-witness c = let n = c.in_err-witness.field-0.0.refuses in
    let p = err_from_is_err_and c.from_residual.result c.from_residual.ensures.1 in
    rw (p.1, p.2) (judging_stop _ _ _ _ _ _ c.in_err-witness.ensures (λ e. omega arith) _)

pub copy-requires : goal.copy-requires
copy-requires c = let p = c.requires in
    let n = (formed _ p.0.ready.right).events.within in
    let l = p.0.ready.laid.events in
    let g = p.3 in
    let u = c.put_happens_before.ensures.rows in
    (omega arith, omega arith)

pub returns : goal.returns
returns c = let p = c.requires in
    let n = (formed _ p.0.ready.right).events.within in
    let l = p.0.ready.laid.events in
    let g = p.3 in
    let u = c.put_happens_before.ensures.rows in
    let f = filled _ _ c.args.out.now _ c.args.l.events l (omega arith) (omega arith) c.put_happens_before.ensures c.copy.ensures in
    judging_done _ _ _ _ _ _ c.in_ok-witness.ensures refl _ _ f
