use mathlib.Core.Path.{ap}
use native.Mathlib.Omega.{arith}
use Rattle.record.specs.declared.Event.{Event}
use Rattle.facts.proofs.Counting.{upto_none}
use Rattle.facts.proofs.Sorting.{sort_more, sort_done, processor_low, kind_low, event_low}
use Rattle.facts.proofs.sorts.sort.Goals as goal

pub loop-e-init : goal.loop-e-init
loop-e-init c = upto_none _ _

pub link-requires : goal.link-requires
link-requires c = let p = c.requires in
    let q = p.1 in
    let t = p.2 in
    let z = c.loop-e.invariant.same in
    let a = processor_low _ p.0 c.loop-e.e (omega arith) in
    let b = event_low _ p.0 c.loop-e.e (omega arith) in
    let e = ap (λ (y : Event). y.processor) c.event_of-x.ensures in
    (omega arith, omega arith)

pub overflow_add-x : goal.overflow_add-x
overflow_add-x c = let p = c.requires in
    let q = p.1 in
    let a = kind_low _ p.0 c.loop-e.e (omega arith) in
    let e = ap (λ (y : Event). y.kind) c.event_of-x.ensures in
    omega arith

pub link-requires-in-loop-e : goal.link-requires-in-loop-e
link-requires-in-loop-e c = let p = c.requires in
    let q = p.1 in
    let t = p.2 in
    let z = c.loop-e.invariant.same in
    let w = c.link.ensures.same in
    let a = kind_low _ p.0 c.loop-e.e (omega arith) in
    let b = event_low _ p.0 c.loop-e.e (omega arith) in
    let e = ap (λ (y : Event). y.kind) c.event_of-x.ensures in
    (omega arith, omega arith)

pub loop-e-preserved : goal.loop-e-preserved
loop-e-preserved c = sort_more _ _ _ _ c.event_of-x.ensures _ _ _ c.loop-e.invariant c.link.ensures c.link-in-loop-e.ensures

pub returns : goal.returns
returns c = let p = c.requires in
    let q = p.1 in
    let t = p.2 in
    let z = c.loop-e.invariant.same in
    sort_done _ _ _ (omega arith) (processor_low _ p.0) _ (omega arith) p.3 c.loop-e.invariant
