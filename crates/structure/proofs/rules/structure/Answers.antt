use native.Mathlib.Omega.{arith}
use Rattle.order.proofs.Searches.{found_hit, entry_shown}
use Rattle.order.proofs.Judgements.{given_next}
use Rattle.record.specs.Says.{execution_of}
use Rattle.record.proofs.Formings.{formed}
use Rattle.structure.specs.Structure.{Joining}
use Rattle.structure.proofs.Pairs.{pair_shown}
use Rattle.structure.proofs.Judging.{kept_10}
use Rattle.structure.proofs.rules.structure.Goals as goal

pub overflow_cast-ev : goal.overflow_cast-ev
overflow_cast-ev c =
    let n = (formed _ c.requires.0.right).events.within in
    let l = c.pair-from.ensures.low in
    omega arith

pub overflow_cast-ev-in-Some : goal.overflow_cast-ev-in-Some
overflow_cast-ev-in-Some c =
    let n = (formed _ c.requires.0.right).events.within in
    let l = c.pair-from.ensures.low in
    omega arith

pub returns-in-Some-clause-given : goal.returns-in-Some-clause-given
returns-in-Some-clause-given c =
    let b = c.requires.3 in
    let z = execution_of c.args.s.now in
    let h = c.in-Some.ensures in
    let e = c.pair-from.ensures in
    entry_shown 10 _ (Joining z) _ (found_hit _ (Joining z) _ h) h.0 _ _ _ (pair_shown z c.in-Some.i _ _ e.from e.to) _ c.args.ev.now (omega arith)

pub returns-clause-given : goal.returns-clause-given
returns-clause-given c = let q = c.requires.0 in
    given_next _ _ _ _ _ _ (kept_10 _ q.right _ q.laid.causes c.in_default.ensures) c.from_eleven.ensures.given
