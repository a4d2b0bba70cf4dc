use Rattle.orders.proofs.Instructions.{Held, held_all, held_none, instruction_adds}
use Rattle.orders.proofs.preserved.put_instruction.Goals.{then-meets, else-meets}
use Rattle.orders.proofs.preserved.put_instruction.Goals as goal

pub returns : goal.returns
returns c = let a = c.args in
    let h : Held a.here a.c.locked c.bitor-memory.result c.if-meets.held = elim c.if-meets.branch [
      | then-meets w ↦ rw w.held-is (held_all _ _ _ (c.meets.ensures.holds w.if-meets.true))
      | else-meets w ↦ rw w.held-is (held_none _ _ _ _ (c.meets.ensures.fails w.if-meets.false) w.none-held.ensures)
    ] in
    λ z q k x y o. instruction_adds z _ _ _ _ q k x y o _ _ c.bitor-memory.ensures h
    _ _ c.bitand.ensures c.bitor.ensures
    _ _ _ c.bitand-2.ensures c.bitor-2.ensures c.bitor-3.ensures
    _ c.sub.ensures _ _ _ _ c.put_steps.ensures c.put_steps-2.ensures c.put_steps-3.ensures
