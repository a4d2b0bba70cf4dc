use native.Mathlib.Omega.{arith}
use Rattle.record.proofs.Formings.{formed}
use Rattle.facts.proofs.Listings.{stores_list, stores_listed, locks_list, locks_listed, listed_more}
use Rattle.orders.proofs.Unions.{stores_adds, locks_adds, happens}
use Rattle.orders.proofs.union.put_happens_before.Goals as goal

pub put_part_of_order-requires : goal.put_part_of_order-requires
put_part_of_order-requires c = let p = c.requires in
    let g = p.0 in
    let r = g.ready.right in
    let h = p.1.rows in
    let t = c.put_preserved.ensures.same in
    let n = (formed _ r).events.within in
    (listed_more _ _ _ _ n (stores_listed _ r _ g.ready.laid), g.ready.placed.rows, omega arith)

pub put_order_of_groups-requires : goal.put_order_of_groups-requires
put_order_of_groups-requires c = let p = c.requires in
    let g = p.0 in
    let r = g.ready.right in
    let h = p.1.rows in
    let t = c.put_preserved.ensures.same in
    let n = (formed _ r).locks.within in
    let e = g.entered.rows in
    let v = c.put_part_of_order.ensures.same in
    (listed_more _ _ _ _ n (locks_listed _ r _ g.ready.laid), omega arith, omega arith)

pub put_sources-requires : goal.put_sources-requires
put_sources-requires c = let p = c.requires in
    let g = p.0 in
    let r = g.ready.right in
    let h = p.1.rows in
    let t = c.put_preserved.ensures.same in
    let v = c.put_part_of_order.ensures.same in
    let w = c.put_order_of_groups.ensures.same in
    (r, g.ready.laid.sources, omega arith)

pub returns : goal.returns
returns c = let p = c.requires in
    let g = p.0 in
    let r = g.ready.right in
    let h = p.1.rows in
    let t = c.put_preserved.ensures.same in
    let f = formed _ r in
    happens _ _ _ _ _ _ p.1 c.put_preserved.ensures
    (stores_adds _ f _ g.ready.placed _ g.ready.classed _ c.bitor.ensures _ (stores_list _ r _ g.ready.laid) _ _ c.put_part_of_order.ensures)
    (locks_adds _ f _ g.entered _ (locks_list _ r _ g.ready.laid) _ _ c.put_order_of_groups.ensures) c.put_sources.ensures
