use mathlib.Core.Path.{refl}
use native.Mathlib.Omega.{arith}
use Rattle.std.proofs.lemmas.Result.{err_from_is_err_and}
use Rattle.order.proofs.Judgements.{long_from, given_stop, given_kept, given_same, given_on}
use Rattle.model.specs.Rules.{witness_rules, order_rules}
use Rattle.record.specs.Says.{execution_of}
use Rattle.judge.proofs.Orderings.{witness_numbered}
use Rattle.judge.proofs.check.from_twenty.Goals as goal

pub returns-in_err-witness : goal.returns-in_err-witness
returns-in_err-witness c = let z = execution_of c.args.s.now in
    let n = c.in_err-witness.field-0.0.refuses in
    let p = err_from_is_err_and c.from_residual.result c.from_residual.ensures.1 in
    rw (p.1, p.2) (given_stop (witness_rules z) (order_rules z) c.args.ev.now _ _ _ (λ e. omega arith) c.in_err-witness.ensures)

pub ordered-requires : goal.ordered-requires
ordered-requires c = let p = c.requires in
    let z = execution_of c.args.s.now in
    let g = c.in_ok-witness.ensures in (
      p.0,
      p.1,
      given_kept (witness_rules z) (order_rules z) c.args.ev.now _ (witness_numbered z) _ _ refl g,
      long_from _ _ (given_same (witness_rules z) (order_rules z) c.args.ev.now _ (witness_numbered z) _ _ refl g) p.2,
    )

pub returns : goal.returns
returns c = let z = execution_of c.args.s.now in
    given_on (witness_rules z) (order_rules z) c.args.ev.now _ (witness_numbered z) _ _ refl c.in_ok-witness.ensures _ _ _ c.ordered.ensures
