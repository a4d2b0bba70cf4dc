use Rattle.rows.proofs.Members.{in_low}
use Rattle.rows.proofs.Filters.{filter_begin, filter_more, filter_skip, filter_done}
use Rattle.cycles.proofs.Reaches.{meet_into, into_meet}
use Rattle.cycles.proofs.back.Goals as goal

pub loop-a-init : goal.loop-a-init
loop-a-init c = rw c.into_iter-a-iterator.ensures.into_iter_gives (filter_begin _ _ _ c.none-r.ensures)

pub one-requires : goal.one-requires
one-requires c = in_low _ _ c.in-Some.ensures.steps.0.0

pub loop-a-preserved-then-meets : goal.loop-a-preserved-then-meets
loop-a-preserved-then-meets c =
    let s = c.in-Some.ensures.steps in
    filter_more _ _ _ _ c.loop-a.invariant _ s.0.0 _ s.1 (meet_into _ _ _ _ c.row.ensures (c.meets.ensures.holds c.if-meets.true)) _ _ c.one.ensures c.bitor-r.ensures

pub loop-a-preserved : goal.loop-a-preserved
loop-a-preserved c =
    let s = c.in-Some.ensures.steps in
    filter_skip _ _ _ _ c.loop-a.invariant _ s.0.0 _ s.1 (λ q. c.meets.ensures.fails c.if-meets.false (into_meet _ _ _ _ c.row.ensures q))

pub returns : goal.returns
returns c = filter_done _ _ _ _ c.loop-a.invariant c.in-None.ensures.steps
