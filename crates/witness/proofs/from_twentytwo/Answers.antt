use Rattle.std.specs.Prelude.{Some, None}
use native.Mathlib.Omega.{arith}
use Rattle.order.proofs.Searches.{found_hit, one_shown}
use Rattle.order.proofs.Judgements.{given_next}
use Rattle.record.proofs.Formings.{formed}
use Rattle.witness.proofs.Witnesses.{locks_few, locks_ready, locks_found, kept_22}
use Rattle.witness.proofs.from_twentytwo.Goals as goal

pub full-due-requires : goal.full-due-requires
full-due-requires c = let p = c.requires.0 in locks_few _ p.right _ p.laid

pub misplaced-requires : goal.misplaced-requires
misplaced-requires c = let p = c.requires.0 in locks_ready _ p.right _ p.laid

pub returns-in-Some : goal.returns-in-Some
returns-in-Some c =
    let p = c.requires.0 in
    let b = c.requires.1 in
    let f = locks_found _ p.right _ p.laid _ c.full-due.ensures (Some _) c.in-Some.ensures in
    one_shown 22 64 _ _ (found_hit _ _ _ f) f.0 _ c.args.ev.now (omega arith)

pub returns : goal.returns
returns c =
    let p = c.requires.0 in
    given_next _ _ _ _ _ _ (kept_22 _ (formed _ p.right) (locks_found _ p.right _ p.laid _ c.full-due.ensures None c.in_default.ensures)) c.from_twentythree.ensures
