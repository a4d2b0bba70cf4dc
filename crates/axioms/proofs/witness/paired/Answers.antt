use native.Mathlib.Omega.{arith}
use Rattle.order.specs.Decides.{Decides}
use Rattle.rows.specs.Members.{In}
use Rattle.rows.specs.Table.{rel}
use Rattle.record.specs.Says.{execution_of}
use Rattle.record.proofs.Formings.{formed}
use Rattle.axioms.proofs.Pairings.{by_then, by_else, paired_then, paired_else}
use Rattle.axioms.proofs.witness.paired.Goals.{then-has, else-has, then-has-2, else-has-2}
use Rattle.axioms.proofs.witness.paired.Goals as goal

pub has-requires : goal.has-requires
has-requires c = let n = (formed _ c.requires.facts.0).events.within in omega arith

pub has-requires-then-has : goal.has-requires-then-has
has-requires-then-has c = let n = (formed _ c.requires.facts.0).events.within in omega arith

pub linked-requires : goal.linked-requires
linked-requires c =
    let n = (formed _ c.requires.facts.0).events.within in
    let e = c.requires.facts.1.rows in
    (omega arith, omega arith)

pub returns-then-linked : goal.returns-then-linked
returns-then-linked c =
    let (_, p, k) = c.requires.facts in
    let (lw, lr) = c.requires.events in
    let d : Decides c.if-has.value (In c.bitor-writes.result c.args.w × In c.bitor-reads.result c.args.r) = elim c.if-has.branch [
      | then-has w ↦ by_then _ _ c.has.ensures w.if-has.true _ w.value-is w.has-then-has.ensures
      | else-has w ↦ by_else _ _ c.has.ensures w.if-has.false w.value-is
    ] in
    let e : Decides c.if-has-2.value ((In c.bitor-writes.result c.args.w × In c.bitor-reads.result c.args.r) × rel c.args.q.now c.args.w c.args.r) = elim c.if-has-2.branch [
      | then-has-2 w ↦ by_then _ _ d w.if-has-2.true _ w.value-is w.linked.ensures
      | else-has-2 w ↦ by_else _ _ d w.if-has-2.false w.value-is
    ] in
    paired_then (execution_of c.args.s.now) _ p _ k _ _ c.bitor-writes.ensures c.bitor-reads.ensures _ _ lw lr _ e c.if-linked.true _ _ c.event_of.ensures c.event_of-then-linked.ensures

pub returns-else-linked : goal.returns-else-linked
returns-else-linked c =
    let (_, p, k) = c.requires.facts in
    let (lw, lr) = c.requires.events in
    let d : Decides c.if-has.value (In c.bitor-writes.result c.args.w × In c.bitor-reads.result c.args.r) = elim c.if-has.branch [
      | then-has w ↦ by_then _ _ c.has.ensures w.if-has.true _ w.value-is w.has-then-has.ensures
      | else-has w ↦ by_else _ _ c.has.ensures w.if-has.false w.value-is
    ] in
    let e : Decides c.if-has-2.value ((In c.bitor-writes.result c.args.w × In c.bitor-reads.result c.args.r) × rel c.args.q.now c.args.w c.args.r) = elim c.if-has-2.branch [
      | then-has-2 w ↦ by_then _ _ d w.if-has-2.true _ w.value-is w.linked.ensures
      | else-has-2 w ↦ by_else _ _ d w.if-has-2.false w.value-is
    ] in
    paired_else (execution_of c.args.s.now) _ p _ k _ _ c.bitor-writes.ensures c.bitor-reads.ensures _ _ lw lr _ e c.if-linked.false
