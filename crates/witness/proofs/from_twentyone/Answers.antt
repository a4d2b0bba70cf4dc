use Rattle.std.specs.Prelude.{Some, None}
use native.Mathlib.Omega.{arith}
use Rattle.order.proofs.Searches.{found_hit, one_shown}
use Rattle.order.proofs.Judgements.{given_next}
use Rattle.record.proofs.Formings.{formed}
use Rattle.witness.proofs.Witnesses.{stores_ready, stores_found, kept_21}
use Rattle.witness.proofs.from_twentyone.Goals as goal

pub misplaced-requires : goal.misplaced-requires
misplaced-requires c = let p = c.requires.0 in stores_ready _ p.right _ p.laid

pub returns-in-Some : goal.returns-in-Some
returns-in-Some c =
    let p = c.requires.0 in
    let b = c.requires.1 in
    let f = stores_found _ p.right _ p.laid _ p.classed (Some _) c.in-Some.ensures in
    one_shown 21 64 _ _ (found_hit _ _ _ f) f.0 _ c.args.ev.now (omega arith)

pub returns : goal.returns
returns c =
    let p = c.requires.0 in
    given_next _ _ _ _ _ _ (kept_21 _ (formed _ p.right) (stores_found _ p.right _ p.laid _ p.classed None c.in_default.ensures)) c.from_twentytwo.ensures
