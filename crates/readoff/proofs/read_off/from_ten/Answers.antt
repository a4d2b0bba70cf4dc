use mathlib.Core.Path.{refl}
use native.Mathlib.Omega.{arith}
use Rattle.std.proofs.lemmas.Result.{err_from_is_err_and}
use Rattle.rows.proofs.Table.{zeros_rel}
use Rattle.readoff.proofs.Writing.{structure_kept, off_structure, off_sequence, off_done}
use Rattle.readoff.proofs.read_off.from_ten.Goals as goal

pub gather-c-requires-clause-has_rows : goal.gather-c-requires-clause-has_rows
gather-c-requires-clause-has_rows c = ((omega arith, zeros_rel 8), ((omega arith, zeros_rel 64), (omega arith, zeros_rel 17)))

pub structure-requires : goal.structure-requires
structure-requires c =
    let g = c.gather-c.ensures in
    (g.ready, g.entered, (omega arith, zeros_rel 64), omega arith)

pub returns-in_err-structure : goal.returns-in_err-structure
returns-in_err-structure c =
    let n = c.in_err-structure.field-0.0.refuses in
    let p = err_from_is_err_and c.from_residual.result c.from_residual.ensures.1 in
    rw (p.1, p.2) (off_structure _ _ _ _ _ c.in_err-structure.ensures.given _ (λ e. omega arith) _)

pub sequence-requires : goal.sequence-requires
sequence-requires c =
    let g = c.gather-c.ensures in
    let l = c.structure.auto.ev in
    (g.ready.right, g.ready.laid, g.entered, g.ready.classed, omega arith, (omega arith, zeros_rel 64), omega arith)

pub returns-in_err-sequence : goal.returns-in_err-sequence
returns-in_err-sequence c =
    let n = c.in_err-sequence.field-0.0.refuses in
    let p = err_from_is_err_and c.from_residual-in_err-sequence.result c.from_residual-in_err-sequence.ensures.1 in
    rw (p.1, p.2) (off_sequence _ _ _ _ _ c.in_ok-structure.ensures.given _ refl _ _ _ _ c.in_err-sequence.ensures.given (λ e. omega arith) _)

pub write-requires-clause-gathered : goal.write-requires-clause-gathered
write-requires-clause-gathered c = (c.gather-c.ensures, structure_kept _ _ _ _ _ c.in_ok-structure.ensures.given refl, c.requires.2)

pub returns : goal.returns
returns c =
    let q = c.in_ok-sequence.ensures.sequenced in
    off_done _ _ _ _ _ c.in_ok-structure.ensures.given _ refl _ _ _ _ c.in_ok-sequence.ensures.given refl _ _ _
    (c.write.ensures _ q.kept q.bytes)
