use mathlib.Core.Path.{refl}
use native.Mathlib.Omega.{arith}
use Rattle.std.proofs.lemmas.Result.{err_from_is_err_and}
use Rattle.rows.proofs.Table.{zeros_rel}
use Rattle.order.proofs.Judgements.{long_from, given_stop, given_same, given_on}
use Rattle.record.specs.Says.{execution_of}
use Rattle.structure.specs.Structure.{structure_rules}
use Rattle.structure.proofs.Passing.{structure_numbered}
use Rattle.model.specs.Rules.{check_rules}
use Rattle.judge.proofs.check.from_ten.Goals as goal

pub gather-c-requires : goal.gather-c-requires
gather-c-requires c = let p = c.requires in
    record { right = (p.0, p.1); has_rows = ((omega arith, zeros_rel 8), ((omega arith, zeros_rel 64), (omega arith, zeros_rel 17))) }

pub structure-requires : goal.structure-requires
structure-requires c = let g = c.gather-c.ensures in
    (g.ready, g.entered, (omega arith, zeros_rel 64), c.requires.2)

pub returns-in_err-structure : goal.returns-in_err-structure
returns-in_err-structure c = let z = execution_of c.args.s.now in
    let n = c.in_err-structure.field-0.0.refuses in
    let p = err_from_is_err_and c.from_residual.result c.from_residual.ensures.1 in
    rw (p.1, p.2) (given_stop (structure_rules z) (check_rules z) c.args.ev.now _ _ _ (λ e. omega arith) c.in_err-structure.ensures.given)

pub from_twenty-requires : goal.from_twenty-requires
from_twenty-requires c = let z = execution_of c.args.s.now in
    let e = c.in_ok-structure.ensures in
    let same = given_same (structure_rules z) (check_rules z) c.args.ev.now _ (structure_numbered z) _ _ refl e.given in
    (c.gather-c.ensures, e.held, long_from _ _ same c.requires.2)

pub returns : goal.returns
returns c = let z = execution_of c.args.s.now in
    given_on (structure_rules z) (check_rules z) c.args.ev.now _ (structure_numbered z) _ _ refl c.in_ok-structure.ensures.given _ _ _ c.from_twenty.ensures
