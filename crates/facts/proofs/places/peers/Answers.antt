use mathlib.Core.Path.{ap}
use native.Mathlib.Omega.{arith}
use Rattle.record.specs.declared.Event.{Event}
use Rattle.facts.proofs.Placing.{peers_memory, peers_register}
use Rattle.facts.proofs.Sorting.{processor_low, kind_low}
use Rattle.facts.proofs.places.peers.Goals as goal

pub returns-then-x-lt2 : goal.returns-then-x-lt2
returns-then-x-lt2 c = let p = c.requires in
    peers_memory _ _ p.1 _ _ _ c.event_of-x.ensures c.if-x-lt2.true _ _ _ _ c.row.ensures c.row-then-x-lt2.ensures c.bitor.ensures c.bitand.ensures

pub row-requires-2 : goal.row-requires-2
row-requires-2 c = let p = c.requires in
    let r = p.1.rows in
    let a = processor_low _ p.0 _ p.2 in
    let e = ap (λ (y : Event). y.processor) c.event_of-x.ensures in
    omega arith

pub returns : goal.returns
returns c = let p = c.requires in
    let a = processor_low _ p.0 _ p.2 in
    let e = ap (λ (y : Event). y.processor) c.event_of-x.ensures in
    peers_register _ _ p.1 _ _ _ c.event_of-x.ensures c.if-x-lt2.false (omega arith) (kind_low _ p.0) _ _ _ _ _ _
    c.row-2.ensures c.row-3.ensures c.row-4.ensures c.bitor-2.ensures c.bitand-2.ensures c.bitand-3.ensures
