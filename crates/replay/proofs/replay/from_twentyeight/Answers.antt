use mathlib.Core.Path.{refl}
use native.Mathlib.Omega.{arith}
use Rattle.std.proofs.lemmas.Result.{err_from_is_err_and}
use Rattle.order.proofs.Judgements.{given_stop, given_on}
use Rattle.rows.proofs.Table.{zeros_rel}
use Rattle.record.specs.Says.{execution_of}
use Rattle.sequences.specs.Sequence.{sequence_rules, step_rules}
use Rattle.replay.proofs.Sequencing.{sequence_numbered}
use Rattle.replay.proofs.replay.from_twentyeight.Goals as goal

pub sequence-requires : goal.sequence-requires
sequence-requires c = let p = c.requires in
    let g = p.0.ready in
    (g.right, g.laid, p.0.entered, g.classed, omega arith, (omega arith, zeros_rel 64), p.3)

pub returns-in_err-sequence : goal.returns-in_err-sequence
returns-in_err-sequence c = let z = execution_of c.args.s.now in
    let l = c.args.list.now in
    let n = c.in_err-sequence.field-0.0.refuses in
    let p = err_from_is_err_and c.from_residual.result c.from_residual.ensures.1 in
    rw (p.1, p.2) (given_stop (sequence_rules z l) (step_rules z l) c.args.ev.now _ _ _ (λ e. omega arith) c.in_err-sequence.ensures.given)

pub returns : goal.returns
returns c = let z = execution_of c.args.s.now in
    let l = c.args.list.now in
    given_on (sequence_rules z l) (step_rules z l) c.args.ev.now _ (sequence_numbered z l) _ _ refl c.in_ok-sequence.ensures.given _ _ _
    c.from_thirtytwo.ensures
