use Rattle.replay.proofs.Stating.{write_known, state_read, state_write}
use Rattle.replay.proofs.State.step.Goals as goal

pub returns-then-has : goal.returns-then-has
returns-then-has c z l i p k h e s =
    state_write z l i _ s _ e h _ p
    ((write_known z _ k _ _ h _ c.bitor.ensures c.has.ensures).holds c.if-has.true)
    c.row.result c.sub.result c.one.result
    c.row.ensures c.sub.ensures c.one.ensures
    _ c.bitor-then-has.ensures

pub returns-else-has : goal.returns-else-has
returns-else-has c z l i p k h e s =
    state_read z l i _ s _ e h ((write_known z _ k _ _ h _ c.bitor.ensures c.has.ensures).fails c.if-has.false)
