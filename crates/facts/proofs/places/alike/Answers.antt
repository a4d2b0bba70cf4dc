use mathlib.Core.Path.{ap}
use Rattle.std.proofs.Common.{rules, ◌≡◌}
use Rattle.record.specs.Says.{execution_of}
use Rattle.record.specs.declared.Event.{Event}
use Rattle.facts.proofs.Keeping.{kept_is}
use Rattle.facts.proofs.Placing.{alike_is}
use Rattle.facts.proofs.Slotting.{register_low, slot_memory, slot_register}
use Rattle.facts.proofs.places.alike.Goals as goal

pub returns-then-x-ge2 : goal.returns-then-x-ge2
returns-then-x-ge2 c = let p = c.requires in
    slot_register _ _ p.2 _ _ c.event_of-x.ensures _ _ _ c.row.ensures c.bitand-near.ensures c.if-x-ge2.true (register_low _ p.0) p.3 _ c.peers-possible.ensures

pub returns : goal.returns
returns c = let e = ap (λ (y : Event). y.place) c.event_of-x.ensures in
    slot_memory _ _ c.requires.2 _ _ c.event_of-x.ensures _ _ _ c.row.ensures c.bitand-near.ensures _
    (alike_is (execution_of c.args.s.now) _ _ e _ _ _ c.peers-possible.ensures
    (kept_is _ _ _ (λ k. ((execution_of c.args.s.now).events.item k).place ≡ c.event_of-x.result.place) c.keep.ensures
    (λ k m s. search rules)
    (λ k m s h. search rules)))
