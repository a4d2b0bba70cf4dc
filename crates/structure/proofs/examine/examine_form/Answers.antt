use native.Mathlib.Omega.{arith}
use Rattle.rows.proofs.Table.{zeros_rel}
use Rattle.structure.proofs.examine.examine_form.Goals as goal

pub gather-c-requires : goal.gather-c-requires
gather-c-requires c = let p = c.requires in
    record { right = (p.0, p.1); has_rows = ((omega arith, zeros_rel 8), ((omega arith, zeros_rel 64), (omega arith, zeros_rel 17))) }

pub structure-requires : goal.structure-requires
structure-requires c = let p = c.requires in
    let h = c.gather-c.ensures in
    (h.ready, h.entered, (omega arith, zeros_rel 64), p.2)
