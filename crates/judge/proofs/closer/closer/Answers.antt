use native.Mathlib.Omega.{arith}
use Rattle.record.specs.Says.{execution_of}
use Rattle.judge.proofs.Closings.{Closed, closed_begin, closed_shown, closed_more, closed_done}
use Rattle.judge.proofs.closer.closer.Goals.{After-seek-2, After-seek-3}
use Rattle.judge.proofs.closer.closer.Goals as goal

-- the first rule is kept, then the second
one : (c : After-seek-2) → Closed (execution_of c.args.s.now) c.args.ev.now c.seek.new.ev 1
one c = closed_more (execution_of c.args.s.now) _ _ 0 (closed_begin _ _) (omega arith) _ c.in_default.ensures

two : (c : After-seek-3) → Closed (execution_of c.args.s.now) c.args.ev.now c.seek-2.new.ev 2
two c =
    let x = closed_more (execution_of c.args.s.now) _ _ 0 (closed_begin _ c.args.ev.now) (omega arith) _ c.in_default.ensures in
    closed_more (execution_of c.args.s.now) _ _ 1 x (omega arith) _ c.in_default-seek.ensures

pub returns-in-Some : goal.returns-in-Some
returns-in-Some c = closed_shown (execution_of c.args.s.now) _ _ 0 (closed_begin _ _) (omega arith) _ _ c.in-Some.ensures

pub returns-in-Some-seek : goal.returns-in-Some-seek
returns-in-Some-seek c = closed_shown (execution_of c.args.s.now) _ _ 1 (one (goal.at.returns-in-Some-seek c).After-seek-2) (omega arith) _ _ c.in-Some-seek.ensures

pub returns-in-Some-seek-2 : goal.returns-in-Some-seek-2
returns-in-Some-seek-2 c = closed_shown (execution_of c.args.s.now) _ _ 2 (two (goal.at.returns-in-Some-seek-2 c).After-seek-3) (omega arith) _ _ c.in-Some-seek-2.ensures

pub returns : goal.returns
returns c =
    let x = two (goal.at.returns c).After-seek-3 in
    closed_done (execution_of c.args.s.now) _ _ 3 (closed_more (execution_of c.args.s.now) _ _ 2 x (omega arith) _ c.in_default-seek-2.ensures) (omega arith)
