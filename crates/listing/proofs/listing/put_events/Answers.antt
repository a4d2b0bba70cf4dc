use mathlib.Core.Path.{◌≡◌}
use native.Mathlib.Omega.{arith}
use Rattle.order.proofs.Numbers.{counted_as}
use Rattle.rows.specs.Table.{rel}
use Rattle.listing.proofs.Texts.{decimal_length}
use Rattle.listing.proofs.Lines.{eventing_none, eventing_room, eventing_more, eventing_done}
use Rattle.listing.proofs.listing.put_events.Goals as goal

pub loop-e-init : goal.loop-e-init
loop-e-init c = eventing_none _ _ _ (omega arith)

pub put_word-to-requires : goal.put_word-to-requires
put_word-to-requires c = let r = eventing_room _ _ _ _ _ _ c.loop-e.invariant in omega arith

pub put_number-to-requires : goal.put_number-to-requires
put_number-to-requires c = let r = eventing_room _ _ _ _ _ _ c.loop-e.invariant in omega arith

pub put_number-to-requires-in-loop-e : goal.put_number-to-requires-in-loop-e
put_number-to-requires-in-loop-e c =
    let r = eventing_room _ _ _ _ _ _ c.loop-e.invariant in
    omega (arith, decimal_length)

pub put_word-to-requires-in-loop-e : goal.put_word-to-requires-in-loop-e
put_word-to-requires-in-loop-e c =
    let r = eventing_room _ _ _ _ _ _ c.loop-e.invariant in
    omega (arith, decimal_length)

pub loop-e-preserved : goal.loop-e-preserved
loop-e-preserved c =
    let i = c.row.ensures in
    let k = counted_as 64 _ (rel c.args.t.now c.loop-e.e) _ (λ x _. i.says x) (λ x _. i.has x) c.size.ensures in
    eventing_more _ _ _ _ _ _ c.loop-e.invariant _ k _ _ _ _ _ _ _ _
    c.put_word-to.ensures
    c.put_number-to.ensures
    c.put_number-to-in-loop-e.ensures
    c.put_word-to-in-loop-e.ensures

pub returns : goal.returns
returns c = let e : c.loop-e.e ≡ c.args.n = omega arith in eventing_done _ _ _ _ _ _ (rw e at c.loop-e.invariant)
