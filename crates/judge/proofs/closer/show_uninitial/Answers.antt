use mathlib.Core.Path.{refl, sym, ◌∙◌}
use native.Mathlib.Omega.{arith}
use borrow.Author.Rules.{rules}
use lib.ListN.{length-set}
use denote.Enum.Bare.{differs_true, differs_false}
use Rattle.axioms.specs.contracts.initial.Start.{the_type}
use Rattle.record.specs.Says.{execution_of}
use Rattle.order.proofs.Searches.{found_some, found_at}
use Rattle.judge.proofs.Showings.{tag_is, initial_quiet, initial_low, code_shown, before_third, before_shown}
use Rattle.judge.proofs.closer.show_uninitial.Goals as goal

pub returns-in_err-r : goal.returns-in_err-r
returns-in_err-r c = let scene = c.requires.scene.0 in
    rw c.from_residual.ensures (initial_quiet (execution_of c.args.s.now) _ _ _ _ _ scene (c.in_err-r.ensures _ scene), refl)

pub start_of-start-requires : goal.start_of-start-requires
start_of-start-requires c = let scene = c.requires.scene.0 in
    (c.requires.right.0, c.requires.right.1.initials, initial_low (execution_of c.args.s.now) _ _ _ _ _ scene _ (c.in_ok-r.ensures _ scene))

pub overflow_cast-ev-2 : goal.overflow_cast-ev-2
overflow_cast-ev-2 c = let scene = c.requires.scene.0 in
    let h = (c.in_ok-r.ensures _ scene).0 in
    record { fits = omega arith }

pub bounds-ev-1 : goal.bounds-ev-1
bounds-ev-1 c = let b = c.requires.scene.2 in
    simp length-set (omega arith)

pub bounds-ev-2 : goal.bounds-ev-2
bounds-ev-2 c = let b = c.requires.scene.2 in
    simp length-set (omega arith)

pub returns-then-ne : goal.returns-then-ne
returns-then-ne c = let scene = c.requires.scene.0 in
    let b = c.requires.scene.2 in
    rw (tag_is c.start_of-start.result)
    (code_shown (execution_of c.args.s.now) _ _ _ _ _ scene _ (c.in_ok-r.ensures _ scene) _ c.start_of-start.ensures (differs_true the_type _ _ (sym c.ne.ensures ∙ c.if-ne.true)) c.args.ev.now (omega arith))

pub preceding-requires : goal.preceding-requires
preceding-requires c = let scene = c.requires.scene.0 in
    let h = (c.in_ok-r.ensures _ scene).0 in
    let t = scene.view.line.rows in
    let q = scene.places.rows in
    (omega arith, omega arith)

pub unwrap-x-requires : goal.unwrap-x-requires
unwrap-x-requires c = let scene = c.requires.scene.0 in
    found_some _ _ _ c.first.ensures
    (before_third (execution_of c.args.s.now) _ _ _ _ _ scene _ (c.in_ok-r.ensures _ scene) _ c.start_of-start.ensures (differs_false the_type (search rules) _ _ (sym c.ne.ensures ∙ c.if-ne.false)) _ (c.preceding.ensures _ _ scene))

pub overflow_cast-ev-4 : goal.overflow_cast-ev-4
overflow_cast-ev-4 c = let m = (found_at _ _ _ _ c.first.ensures c.unwrap-x.ensures).0 in
    record { fits = omega arith }

pub bounds-ev-3 : goal.bounds-ev-3
bounds-ev-3 c = let b = c.requires.scene.2 in
    simp length-set (omega arith)

pub returns : goal.returns
returns c = let scene = c.requires.scene.0 in
    let b = c.requires.scene.2 in
    rw (tag_is c.start_of-start.result)
    (before_shown (execution_of c.args.s.now) _ _ _ _ _ scene _ (c.in_ok-r.ensures _ scene) _ c.start_of-start.ensures (differs_false the_type (search rules) _ _ (sym c.ne.ensures ∙ c.if-ne.false)) _ (c.preceding.ensures _ _ scene) _ (found_at _ _ _ _ c.first.ensures c.unwrap-x.ensures) c.args.ev.now (omega arith))
