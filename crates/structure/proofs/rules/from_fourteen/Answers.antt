use native.Mathlib.Omega.{arith}
use Rattle.order.proofs.Searches.{found_hit, one_shown}
use Rattle.order.proofs.Judgements.{given_next, given_none}
use Rattle.structure.specs.Structure.{Repeated}
use Rattle.structure.proofs.Judging.{kept_14}
use Rattle.structure.proofs.rules.from_fourteen.Goals as goal

pub overflow_cast-ev : goal.overflow_cast-ev
overflow_cast-ev c = let b = c.requires.1 in omega (arith, c.in-Some.ensures.within)

pub returns-in-Some : goal.returns-in-Some
returns-in-Some c = let b = c.requires.2 in
    λ x f e z. let h = c.in-Some.ensures.found x f e z in one_shown 14 _ (Repeated x) _ (found_hit _ (Repeated x) _ h) h.0 _ c.args.ev.now (omega arith)

pub returns : goal.returns
returns c = λ x f e z. given_next _ _ _ _ _ _ (kept_14 x _ e (c.in_default.ensures.found x f e z)) (given_none _)
