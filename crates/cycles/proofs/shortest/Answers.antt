use Rattle.order.proofs.Walks.{within_below}
use Rattle.cycles.proofs.Digs.{no_member}
use Rattle.cycles.proofs.Searches.{search_begin, search_less, search_better, search_same, search_done}
use Rattle.cycles.proofs.shortest.Goals.{in-Some-steps, in_default-steps}
use Rattle.cycles.proofs.shortest.Goals as goal

pub loop-at-init : goal.loop-at-init
loop-at-init c = search_begin _ _ (within_below _ _) _ _ _ c.requires.2 c.full.ensures c.bitand-rest.ensures

pub loop-at-smaller : goal.loop-at-smaller
loop-at-smaller c = search_less _ _ _ _ _ c.loop-at.invariant _ c.in-Some.ensures.1 _ c.without.ensures _ c.dig-rest.ensures

pub loop-at-preserved : goal.loop-at-preserved
loop-at-preserved c =
    elim c.match-steps.branch [
      | in-Some-steps w ↦ rw w.found-is (search_better _ _ _ _ _ c.loop-at.invariant _ c.in-Some.ensures.1 _ c.without.ensures _ c.dig-rest.ensures _ w.in-Some-steps.ensures)
      | in_default-steps w ↦ rw w.found-is (search_same _ _ _ _ _ c.loop-at.invariant _ c.in-Some.ensures.1 _ c.without.ensures _ c.dig-rest.ensures w.in_default-steps.ensures)
    ]

pub returns : goal.returns
returns c = let p = c.requires in
    search_done _ _ (within_below _ _) (p.2.cyclic _ p.3.1) _ _ _ c.loop-at.invariant (no_member _ c.in_default.ensures)
