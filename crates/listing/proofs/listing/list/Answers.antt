use mathlib.Core.Path.{refl}
use native.Mathlib.Omega.{arith}
use lib.ListN.{replicate}
use Rattle.listing.proofs.Listings.{verdict_told, listed_short, events_room, listed_whole}
use Rattle.listing.proofs.listing.list.Goals as goal

pub put_events-requires : goal.put_events-requires
put_events-requires c =
    let v = verdict_told _ (replicate 65 0) _ _ _ refl (omega arith) c.check-v.ensures _ _ _ (omega arith) c.put_verdict-at.ensures in
    events_room _ _ _ _ _ v (c.lists_events.ensures.holds c.if-lists_events.true) (replicate 64 0) _ _ _ refl c.order_table.ensures c.count_at.ensures.0

pub returns-then-lists_events : goal.returns-then-lists_events
returns-then-lists_events c =
    let v = verdict_told _ (replicate 65 0) _ _ _ refl (omega arith) c.check-v.ensures _ _ _ (omega arith) c.put_verdict-at.ensures in
    listed_whole _ _ _ _ _ v (c.lists_events.ensures.holds c.if-lists_events.true) (replicate 64 0) _ _ _ refl c.order_table.ensures c.count_at.ensures.0 _ _ c.put_events.ensures

pub returns : goal.returns
returns c =
    let v = verdict_told _ (replicate 65 0) _ _ _ refl (omega arith) c.check-v.ensures _ _ _ (omega arith) c.put_verdict-at.ensures in
    listed_short _ _ _ _ _ v (c.lists_events.ensures.fails c.if-lists_events.false)
