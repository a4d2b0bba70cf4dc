use native.Mathlib.Omega.{arith}
use Rattle.order.specs.Rule.{Any}
use Rattle.order.proofs.Searches.{found_hit, two_shown}
use Rattle.order.proofs.Judgements.{given_next}
use Rattle.record.specs.Says.{execution_of}
use Rattle.record.proofs.Formings.{formed}
use Rattle.structure.specs.Structure.{Unordered}
use Rattle.structure.proofs.Judging.{kept_12, registers_of}
use Rattle.structure.proofs.Partners.{first_register, partner_low, partner_found}
use Rattle.structure.proofs.rules.from_twelve.Goals as goal

pub unordered-requires-clause-is : goal.unordered-requires-clause-is
unordered-requires-clause-is c = let p = c.requires in registers_of _ p.0.right _ p.0.classed _ c.bitor.ensures

pub unordered_with-requires-clause-a_bound : goal.unordered_with-requires-clause-a_bound
unordered_with-requires-clause-a_bound c = let p = c.requires in
    let i = registers_of _ p.0.right _ p.0.classed _ c.bitor.ensures in
    i.says _ (first_register _ _ i _ c.in-Some.ensures.1.0)

pub unwrap-b-requires : goal.unwrap-b-requires
unwrap-b-requires c = partner_found _ (formed _ c.requires.0.right).events.within _ _ c.unordered_with.ensures c.in-Some.ensures.1.0

pub returns-in-Some : goal.returns-in-Some
returns-in-Some c = let p = c.requires in
    let b = p.3 in
    let z = execution_of c.args.s.now in
    let h = c.in-Some.ensures in
    let f = rw c.unwrap-b.ensures at c.unordered_with.ensures in
    two_shown 12 64 (Unordered z) _ (found_hit 64 (λ a. Any 1 (Unordered z a)) _ h) _ (found_hit 64 (Unordered z c.in-Some.a) _ f) h.0
    (λ j q. partner_low _ (formed _ p.0.right).events.within _ j q) _ c.args.ev.now (omega arith)

pub from_thirteen-requires : goal.from_thirteen-requires
from_thirteen-requires c = let p = c.requires in
    let n = p.0.laid.locks.number in
    let w = (formed _ p.0.right).locks.within in
    let h = p.1.rows in
    (omega arith, omega arith, p.3)

pub returns : goal.returns
returns c = let p = c.requires in
    given_next _ _ _ _ _ _ (kept_12 _ p.0.right c.in_default.ensures) (c.from_thirteen.ensures _ p.1 p.0.laid.locks.number)
