use Rattle.rows.proofs.Seeks.{seek_begin, seek_next, seek_found, seek_none}
use Rattle.record.proofs.Formings.{formed}
use Rattle.structure.proofs.Partners.{first_register, partner_decided}
use Rattle.structure.proofs.registers.unordered.Goals as goal

pub loop-a-init : goal.loop-a-init
loop-a-init c = rw c.into_iter-a-iterator.ensures.into_iter_gives (seek_begin _ _ (first_register _ _ c.requires.is))

pub returns-then-is_some : goal.returns-then-is_some
returns-then-is_some c =
    let d = partner_decided _ (formed _ c.requires.right.0).events.within _ _ c.unordered_with.ensures in
    seek_found _ _ _ c.loop-a.invariant _ c.in-Some.ensures.steps.0 (d.holds (rw c.is_some.ensures at c.if-is_some.true))

pub loop-a-preserved : goal.loop-a-preserved
loop-a-preserved c =
    let d = partner_decided _ (formed _ c.requires.right.0).events.within _ _ c.unordered_with.ensures in
    seek_next _ _ _ c.loop-a.invariant _ (d.fails (rw c.is_some.ensures at c.if-is_some.false)) _ c.in-Some.ensures.steps.1

pub returns : goal.returns
returns c = seek_none _ _ _ c.loop-a.invariant 64 c.in-None.ensures.steps
