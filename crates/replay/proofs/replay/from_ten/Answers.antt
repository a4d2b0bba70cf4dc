use mathlib.Core.List.{[]}
use mathlib.Core.Path.{refl}
use native.Mathlib.Omega.{arith}
use Rattle.std.proofs.lemmas.Result.{err_from_is_err_and}
use Rattle.order.proofs.Judgements.{given_stop, given_kept, given_on}
use Rattle.rows.proofs.Table.{zeros_rel}
use Rattle.record.specs.Says.{execution_of}
use Rattle.structure.specs.Structure.{structure_rules}
use Rattle.sequences.specs.Sequence.{replay_rules}
use Rattle.structure.proofs.Passing.{structure_numbered}
use Rattle.replay.proofs.replay.from_ten.Goals as goal

pub gather-c-requires-clause-has_rows : goal.gather-c-requires-clause-has_rows
gather-c-requires-clause-has_rows c = ((omega arith, zeros_rel 8), ((omega arith, zeros_rel 64), (omega arith, zeros_rel 17)))

pub structure-requires : goal.structure-requires
structure-requires c = let g = c.gather-c.ensures in
    (g.ready, g.entered, (omega arith, zeros_rel 64), c.requires.2)

pub returns-in_err-structure : goal.returns-in_err-structure
returns-in_err-structure c = let z = execution_of c.args.s.now in
    let n = c.in_err-structure.field-0.0.refuses in
    let p = err_from_is_err_and c.from_residual.result c.from_residual.ensures.1 in
    rw (p.1, p.2) (given_stop (structure_rules z) (replay_rules z c.args.list.now) c.args.ev.now _ _ _ (λ e. omega arith) c.in_err-structure.ensures.given)

pub from_twentyeight-requires : goal.from_twentyeight-requires
from_twentyeight-requires c = let z = execution_of c.args.s.now in
    let o = c.in_ok-structure.ensures in
    let long = c.requires.2 in
    let k = c.structure.auto.ev in
    let kept = given_kept (structure_rules z) [] c.args.ev.now _ (structure_numbered z) _ _ refl o.given in
    (c.gather-c.ensures, o.held, kept, omega arith)

pub returns : goal.returns
returns c = let z = execution_of c.args.s.now in
    let l = c.args.list.now in
    given_on (structure_rules z) (replay_rules z l) c.args.ev.now _ (structure_numbered z) _ _ refl c.in_ok-structure.ensures.given _ _ _
    c.from_twentyeight.ensures
