use mathlib.Core.Path.{sym, ◌∙◌}
use native.Mathlib.Omega.{arith}
use denote.Enum.Bare.{same_true, same_false}
use Rattle.std.proofs.Common.{rules}
use Rattle.axioms.specs.contracts.initial.Start.{the_type}
use Rattle.record.specs.Says.{execution_of}
use Rattle.record.proofs.Formings.{formed}
use Rattle.replay.proofs.Values.{source_low, written_decides, initial_decides}
use Rattle.replay.proofs.steps.agrees.Goals as goal

pub source-requires : goal.source-requires
source-requires c =
    let p = c.requires.right in
    let n = (formed _ p.0).events.within in
    let h = p.2.rows in
    omega arith

pub event_of-requires : goal.event_of-requires
event_of-requires c =
    let p = c.requires in
    let (l, (i, s)) = p.by_index in
    (p.right.0, source_low (execution_of c.args.s.now) l i _ _ (c.in-Some.ensures.source _ l i p.right.2 p.right.3 s) _ s)

pub returns-in-Some : goal.returns-in-Some
returns-in-Some c l i s =
    let p = c.requires in
    written_decides (execution_of c.args.s.now) l i _ _ (c.in-Some.ensures.source _ l i p.right.2 p.right.3 s)
    c.event_of.result c.event_of-in-Some.result c.event_of.ensures c.event_of-in-Some.ensures

pub returns-in-None : goal.returns-in-None
returns-in-None c l i s =
    let p = c.requires in
    initial_decides (execution_of c.args.s.now) l i _ (c.in-None.ensures.source _ l i p.right.2 p.right.3 s) _ c.start_of.ensures _
    (record { holds = λ h. same_true the_type (search rules) _ _ (sym c.eq.ensures ∙ h); fails = λ h. same_false the_type _ _ (sym c.eq.ensures ∙ h) })
