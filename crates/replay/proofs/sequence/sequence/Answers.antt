use Rattle.record.proofs.Refusing.{ok_at_zero}
use native.Mathlib.Omega.{arith}
use mathlib.Core.Path.{◌≡◌}
use lib.ListN.{length}
use Rattle.record.specs.Says.{execution_of}
use Rattle.record.proofs.Formings.{formed}
use Rattle.replay.proofs.Sequencing.{other_length, large_shown, narrowed_all, large_next, sequenced}
use Rattle.replay.proofs.sequence.sequence.Goals as goal

pub returns-then-list-n-clause-given : goal.returns-then-list-n-clause-given
returns-then-list-n-clause-given c = let e = c.requires.1.events in
    let n = c.if-list-n.true in
    other_length (execution_of c.args.s.now) c.args.list.now (λ q. n (omega arith)) _

pub narrow-requires : goal.narrow-requires
narrow-requires c = let w = (formed _ c.requires.0).events.within in
    let e = c.requires.1.events in
    let b = c.requires.4 in
    let q = c.if-list-n.false in
    (omega arith, omega arith, omega arith)

pub returns-in-Some-clause-given : goal.returns-in-Some-clause-given
returns-in-Some-clause-given c = let e = c.requires.1.events in
    let b = c.requires.6 in
    let q = c.if-list-n.false in
    let z = execution_of c.args.s.now in
    let l = c.args.list.now in
    let size : length l ≡ z.events.size = omega arith in
    large_shown z l size _ e _ c.in-Some.ensures.found c.args.ev.now (omega arith)

pub returns : goal.returns
returns c = let e = c.requires.1.events in
    let q = c.if-list-n.false in
    let z = execution_of c.args.s.now in
    let l = c.args.list.now in
    let size : length l ≡ z.events.size = omega arith in
    let narrowed = narrowed_all z l size _ e _ c.in_default.ensures.narrowed in
    let given = large_next z l size _ e c.in_default.ensures.found _ _ _ _ (c.from_thirty.ensures.by_index_2 l narrowed size) in
    record {
      sequenced = ok_at_zero c.from_thirty.result _
          (λ o. sequenced z l _ _ narrowed (c.from_thirty.ensures.by_index_3 l narrowed size o) _ _ _ _ given o);
      given = given;
    }
