use mathlib.Core.Path.{refl}
use native.Mathlib.Omega.{arith}
use Rattle.std.proofs.lemmas.Result.{err_from_is_err_and}
use Rattle.rows.proofs.Table.{zeros_rel}
use Rattle.record.specs.Says.{execution_of}
use Rattle.structure.proofs.Passing.{structure_numbered}
use Rattle.table.proofs.Tables.{judging_more, judging_then}
use Rattle.table.proofs.tabled_from_ten.Goals as goal

pub gather-c-requires : goal.gather-c-requires
gather-c-requires c = let p = c.requires in
    record { right = (p.0, p.1); has_rows = ((omega arith, zeros_rel 8), ((omega arith, zeros_rel 64), (omega arith, zeros_rel 17))) }

pub structure-requires : goal.structure-requires
structure-requires c = let g = c.gather-c.ensures in
    (g.ready, g.entered, (omega arith, zeros_rel 64), omega arith)

pub returns-in_err-structure : goal.returns-in_err-structure
returns-in_err-structure c = let n = c.in_err-structure.field-0.0.refuses in
    let p = err_from_is_err_and c.from_residual.result c.from_residual.ensures.1 in
    rw (p.1, p.2) (judging_more _ _ _ _ _ _ c.in_err-structure.ensures.given _ (λ e. omega arith) _)

pub tabled-requires : goal.tabled-requires
tabled-requires c = let l = c.structure.auto.ev in
    (c.gather-c.ensures, c.in_ok-structure.ensures.held, omega arith, c.requires.2)

pub returns : goal.returns
returns c =
    judging_then _ _ _ _ _ _ c.in_ok-structure.ensures.given _ (structure_numbered (execution_of c.args.s.now)) refl _ _ _ c.tabled.ensures
