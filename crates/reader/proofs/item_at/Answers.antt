-- Sections k to 8 and then the views are left, and give the answer.
use mathlib.Core.Path.{◌∙◌}
use native.Mathlib.Omega.{arith}
use Rattle.reader.proofs.Walking.{walking, walk_none, walk_found, walk_past, walk_over}
use Rattle.reader.proofs.item_at.Goals.{then-at-end+else-i-count, else-at-end}
use Rattle.reader.proofs.item_at.Goals as goal

pub loop-k-init : goal.loop-k-init
loop-k-init c = walking _ _

pub returns-then-i-count : goal.returns-then-i-count
returns-then-i-count c =
    let n = c.count_at-count.ensures in
    let i = c.number_from-i.ensures in
    walk_found c.loop-k.invariant (omega arith) n.0 n.1 c.width-len.ensures i.before i.reached (omega arith)

pub loop-k-preserved : goal.loop-k-preserved
loop-k-preserved c =
    let n = c.count_at-count.ensures in
    let l = c.loop-k.invariant in
    elim c.if-at-end.branch [
      | then-at-end+else-i-count t ↦ walk_over l (omega arith) n.0 n.1 c.width-len.ensures t.number_from-i.ensures.before t.if-i-count.false
      | else-at-end t ↦ walk_past l (omega arith) n.0 n.1 c.width-len.ensures t.if-at-end.false
    ]

pub returns : goal.returns
returns c = c.view_from.ensures ∙ walk_none c.loop-k.invariant (omega arith)
