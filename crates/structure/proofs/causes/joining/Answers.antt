use Rattle.order.proofs.Searches.{none_next}
use Rattle.structure.proofs.Pairs.{pair_within, joining_is, joining_not}
use Rattle.structure.proofs.causes.joining.Goals as goal

pub returns-then-not-same_instruction : goal.returns-then-not-same_instruction
returns-then-not-same_instruction c =
    let e = c.pair-from.ensures in
    let t = c.loop-i-test.true in
    let w = pair_within _ c.requires.0 _ c.requires.1 _ t in
    let g = c.same_instruction.ensures.fails c.if-not-same_instruction.true in
    (t, (joining_is _ _ _ _ _ _ e.from e.to c.event_of.ensures c.event_of-in-loop-i.ensures w g, c.loop-i.invariant))

pub loop-i-preserved : goal.loop-i-preserved
loop-i-preserved c =
    let e = c.pair-from.ensures in
    let h = c.same_instruction.ensures.holds c.if-not-same_instruction.false in
    none_next _ _ c.loop-i.invariant (joining_not _ _ _ _ _ _ e.from e.to c.event_of.ensures c.event_of-in-loop-i.ensures h)
