use mathlib.Core.Path.{refl}
use native.Mathlib.Omega.{arith}
use Rattle.order.proofs.Walks.{within_below}
use Rattle.cycles.proofs.Searches.{shortest_within, left_none}
use Rattle.cycles.proofs.show.Goals as goal

pub returns-then-not-any : goal.returns-then-not-any
returns-then-not-any c = (left_none _ _ c.left-live.ensures (c.any.ensures.fails c.if-not-any.true), refl)

pub fill-requires : goal.fill-requires
fill-requires c = let p = c.requires in
    let m = c.any.ensures.holds c.if-not-any.false in
    let s = c.shortest-len.ensures in
    let l = shortest_within _ _ (within_below _ _) (c.left-live.ensures.cyclic _ m.1) _ _ s in
    (p.0, p.1, omega arith, omega arith, s)
