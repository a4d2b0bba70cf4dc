use native.Mathlib.Omega.{arith}
use Rattle.order.proofs.Judgements.{given_next}
use Rattle.record.specs.Says.{execution_of}
use Rattle.record.proofs.Formings.{formed}
use Rattle.replay.proofs.Judging.{programmed, first_some, shown_32, kept_32}
use Rattle.replay.proofs.replay.from_thirtytwo.Goals as goal

pub reversed-requires : goal.reversed-requires
reversed-requires c =
    let p = c.requires in
    let n = (formed _ p.ready.0.right).events.within in
    let e = p.ready.0.laid.events in
    ((programmed _ _ _ p.ready.2 c.put_preserved.ensures).rows, p.sequenced.0.rows, omega arith)

pub against-requires : goal.against-requires
against-requires c =
    let p = c.requires in
    let q = p.sequenced.0 in
    let g = programmed _ _ _ p.ready.2 c.put_preserved.ensures in
    let t = g.rows in
    let u = q.rows in
    let h = (c.in-Some.ensures _ _ _ (formed _ p.ready.0.right) p.ready.3 g q p.ready.0.laid.events).0 in
    (omega arith, omega arith)

pub unwrap-b-requires : goal.unwrap-b-requires
unwrap-b-requires c =
    let p = c.requires in
    let f = formed _ p.ready.0.right in
    let q = p.sequenced.0 in
    let g = programmed _ _ _ p.ready.2 c.put_preserved.ensures in
    let h = c.in-Some.ensures _ _ _ f p.ready.3 g q p.ready.0.laid.events in
    first_some (execution_of c.args.s.now) c.args.list.now _ h _ (c.against.ensures _ _ _ f p.ready.3 g q) _ c.first.ensures

pub overflow_cast-ev : goal.overflow_cast-ev
overflow_cast-ev c =
    let p = c.requires in
    let g = programmed _ _ _ p.ready.2 c.put_preserved.ensures in
    let h = (c.in-Some.ensures _ _ _ (formed _ p.ready.0.right) p.ready.3 g p.sequenced.0 p.ready.0.laid.events).0 in
    record { fits = omega arith }

pub returns-in-Some : goal.returns-in-Some
returns-in-Some c =
    let p = c.requires in
    let f = formed _ p.ready.0.right in
    let q = p.sequenced.0 in
    let g = programmed _ _ _ p.ready.2 c.put_preserved.ensures in
    let h = c.in-Some.ensures _ _ _ f p.ready.3 g q p.ready.0.laid.events in
    let b = p.sequenced.1 in
    shown_32 (execution_of c.args.s.now) c.args.list.now _ h _ (c.against.ensures _ _ _ f p.ready.3 g q) _ c.first.ensures _ c.unwrap-b.ensures _
    c.args.ev.now (omega arith)

pub returns : goal.returns
returns c =
    let p = c.requires in
    let q = p.sequenced.0 in
    let f = formed _ p.ready.0.right in
    let g = programmed _ _ _ p.ready.2 c.put_preserved.ensures in
    let h = c.in_default.ensures _ _ _ f p.ready.3 g q p.ready.0.laid.events in
    given_next _ _ c.args.ev.now _ _ _ (kept_32 _ _ _ _ q f h) c.from_thirtythree.ensures
