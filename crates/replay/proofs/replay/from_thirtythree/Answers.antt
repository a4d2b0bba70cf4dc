use native.Mathlib.Omega.{arith}
use Rattle.order.proofs.Judgements.{given_next, given_none}
use Rattle.record.specs.Says.{execution_of}
use Rattle.replay.proofs.Judging.{all_steps, shown_33, kept_33}
use Rattle.replay.proofs.replay.from_thirtythree.Goals as goal

pub differing-requires-clause-by_index : goal.differing-requires-clause-by_index
differing-requires-clause-by_index c =
    let p = c.requires in
    let (u, q) = p.1 in
    (_, q.bytes, all_steps _ _ _ _ q _ p.0.laid.events)

pub num1-requires : goal.num1-requires
num1-requires c =
    let p = c.requires in
    let (u, q) = p.1 in
    let o = all_steps _ _ _ _ q _ p.0.laid.events in
    let f = q.bytes.fits in
    let i = (c.in-Some.ensures _ q.bytes o).0 in
    omega arith

pub returns-in-Some : goal.returns-in-Some
returns-in-Some c =
    let p = c.requires in
    let (u, q) = p.1 in
    let b = p.2 in
    let n = p.0.laid.events in
    let i = c.in-Some.ensures _ q.bytes (all_steps _ _ _ _ q _ n) in
    shown_33 (execution_of c.args.s.now) _ _ _ q _ n _ i _ c.num1.ensures.0 _ c.args.ev.now (omega arith)

pub returns : goal.returns
returns c =
    let p = c.requires in
    let (u, q) = p.1 in
    let n = p.0.laid.events in
    let i = c.in_default.ensures _ q.bytes (all_steps _ _ _ _ q _ n) in
    given_next _ _ _ _ _ _ (kept_33 (execution_of c.args.s.now) _ _ _ q _ n i) (given_none _)
