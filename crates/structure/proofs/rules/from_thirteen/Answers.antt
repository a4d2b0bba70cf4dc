use native.Mathlib.Omega.{arith}
use Rattle.order.proofs.Searches.{found_hit, one_shown}
use Rattle.order.proofs.Judgements.{given_next}
use Rattle.structure.specs.Structure.{Eventless}
use Rattle.structure.proofs.Judging.{kept_13}
use Rattle.structure.proofs.rules.from_thirteen.Goals as goal

pub overflow_cast-ev : goal.overflow_cast-ev
overflow_cast-ev c = let b = c.requires.1 in omega (arith, c.in-Some.ensures.within)

pub returns-in-Some : goal.returns-in-Some
returns-in-Some c = let b = c.requires.2 in
    λ x f e. let h = c.in-Some.ensures.found x f e in one_shown 13 _ (Eventless x) _ (found_hit _ (Eventless x) _ h) h.0 _ c.args.ev.now (omega arith)

pub returns : goal.returns
returns c = λ x f e.
    let h = c.in_default.ensures.found x f e in
    given_next _ _ _ _ _ _ (kept_13 x _ e h) (c.from_fourteen.ensures x f e h)
