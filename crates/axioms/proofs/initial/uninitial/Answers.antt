use mathlib.Core.Path.{sym, ◌∙◌}
use native.Mathlib.Omega.{arith}
use denote.Enum.Bare.{differs_true, differs_false}
use Rattle.std.proofs.Common.{rules}
use Rattle.axioms.specs.contracts.initial.Start.{the_type}
use Rattle.rows.proofs.Members.{in_low}
use Rattle.record.specs.Says.{execution_of}
use Rattle.axioms.proofs.Initials.{unread_begin, unread_coded, unread_before, unread_more, unread_done}
use Rattle.axioms.proofs.initial.uninitial.Goals.{then-ne-via-then-ne, then-ne-via-else-ne+then-any}
use Rattle.axioms.proofs.initial.uninitial.Goals as goal

pub loop-r-init : goal.loop-r-init
loop-r-init c =
    let p = c.requires in
    rw c.into_iter-r-iterator.ensures.into_iter_gives (unread_begin _ _ _ _ _ _ p.right.2.1 _ p.is _ _ _ c.bitor.ensures c.bitand-reads.ensures c.sub-r-items.ensures)

pub preceding-requires : goal.preceding-requires
preceding-requires c =
    let h = in_low _ _ c.in-Some.ensures.steps.0.0 in
    let t = c.requires.right.2.1.view.line.rows in
    let q = c.requires.right.2.1.places.rows in
    (omega arith, omega arith)

pub returns-then-ne : goal.returns-then-ne
returns-then-ne c p scene =
    let l = c.in-Some.ensures.steps.0 in
    elim c.then-ne.branch [
      | then-ne-via-then-ne w ↦ unread_coded _ _ _ _ _ _ c.loop-r.invariant _ l _ c.start_of.ensures (differs_true the_type _ _ (sym c.ne.ensures ∙ w.if-ne.true)) p scene
      | then-ne-via-else-ne+then-any w ↦ unread_before _ _ _ _ _ _ c.loop-r.invariant _ l _ c.start_of.ensures _ (w.preceding.ensures (execution_of c.args.s.now)) (w.any.ensures.holds w.if-any.true) p scene
    ]

pub loop-r-preserved : goal.loop-r-preserved
loop-r-preserved c =
    let s = c.in-Some.ensures.steps in
    unread_more _ _ _ _ _ _ c.loop-r.invariant _ s.0 _ c.start_of.ensures _ (c.preceding.ensures (execution_of c.args.s.now)) (differs_false the_type (search rules) _ _ (sym c.ne.ensures ∙ c.if-ne.false)) (c.any.ensures.fails c.if-any.false) _ s.1

pub returns : goal.returns
returns c = unread_done _ _ _ _ _ _ c.loop-r.invariant c.in-None.ensures.steps
