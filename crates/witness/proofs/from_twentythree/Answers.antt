use native.Mathlib.Omega.{arith}
use Rattle.record.specs.Says.{execution_of}
use Rattle.order.proofs.Searches.{found_hit, entry_shown}
use Rattle.order.proofs.Judgements.{given_next, given_none}
use Rattle.witness.proofs.Witnesses.{source_low, reader_low, source_shown, kept_23}
use Rattle.witness.proofs.from_twentythree.Goals as goal

pub overflow_cast-ev : goal.overflow_cast-ev
overflow_cast-ev c =
    let p = c.requires in
    let h = source_low _ p.0 _ p.1 _ c.in-Some.ensures.0 in
    omega (arith, c.source_of.ensures)

pub overflow_cast-ev-in-Some : goal.overflow_cast-ev-in-Some
overflow_cast-ev-in-Some c =
    let p = c.requires in
    let h = reader_low _ p.0 _ p.1 _ c.in-Some.ensures.0 in
    omega (arith, c.reader_of.ensures)

pub returns-in-Some : goal.returns-in-Some
returns-in-Some c =
    let b = c.requires.4 in
    let f = c.in-Some.ensures in
    entry_shown 23 _ _ _ (found_hit _ _ _ f) f.0 _ _ _ (source_shown (execution_of c.args.s.now) c.in-Some.i _ _ c.source_of.ensures c.reader_of.ensures) _ c.args.ev.now (omega arith)

pub returns : goal.returns
returns c =
    let p = c.requires in
    given_next _ _ _ _ _ _ (kept_23 _ p.0 _ p.1 c.in_default.ensures) (given_none _)
