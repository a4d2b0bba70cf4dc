use mathlib.Core.Path.{refl}
use native.Mathlib.Omega.{arith}
use lib.ListN.{length-set}
use Rattle.order.proofs.Searches.{found_some, found_at}
use Rattle.judge.proofs.Showings.{over_quiet, source_seen, over_second, over_third, over_shown}
use Rattle.judge.proofs.closer.show_overwritten.Goals as goal

pub returns-in_err-w : goal.returns-in_err-w
returns-in_err-w c = rw c.from_residual.ensures (λ z scene sources. (over_quiet z _ _ _ _ _ scene (c.in_err-w.ensures z _ scene sources), refl))

pub overwritten_from-requires : goal.overwritten_from-requires
overwritten_from-requires c = let (z, (scene, sources)) = c.requires.0 in
    let h = (c.in_ok-w.ensures z _ scene sources).0 in
    let t = scene.view.line.rows in
    let u = sources.rows in
    (t, scene.places.rows, omega arith, omega arith)

pub unwrap-r-requires : goal.unwrap-r-requires
unwrap-r-requires c = let (z, (scene, sources)) = c.requires.0 in
    let h = c.in_ok-w.ensures z _ scene sources in
    let f = c.overwritten_from.ensures z _ scene sources (source_seen z _ _ _ _ _ scene _ h) in
    found_some _ _ _ f (over_second z _ _ _ _ _ scene _ h)

pub overwriting-requires : goal.overwriting-requires
overwriting-requires c = let (z, (scene, sources)) = c.requires.0 in
    let h = c.in_ok-w.ensures z _ scene sources in
    let w = h.0 in
    let r = (found_at _ _ _ _ (c.overwritten_from.ensures z _ scene sources (source_seen z _ _ _ _ _ scene _ h)) c.unwrap-r.ensures).0 in
    let t = scene.view.line.rows in
    let q = scene.places.rows in
    (omega arith, omega arith, omega arith)

pub unwrap-x-requires : goal.unwrap-x-requires
unwrap-x-requires c = let (z, (scene, sources)) = c.requires.0 in
    let h = c.in_ok-w.ensures z _ scene sources in
    let f = found_at _ _ _ _ (c.overwritten_from.ensures z _ scene sources (source_seen z _ _ _ _ _ scene _ h)) c.unwrap-r.ensures in
    found_some _ _ _ c.first.ensures (over_third z _ _ _ _ _ scene _ h _ f _ (c.overwriting.ensures z _ scene))

pub overflow_cast-ev-2 : goal.overflow_cast-ev-2
overflow_cast-ev-2 c = let (z, (scene, sources)) = c.requires.0 in
    let h = (c.in_ok-w.ensures z _ scene sources).0 in
    record { fits = omega arith }

pub bounds-ev-1 : goal.bounds-ev-1
bounds-ev-1 c = let b = c.requires.2 in
    simp length-set (omega arith)

pub overflow_cast-ev-3 : goal.overflow_cast-ev-3
overflow_cast-ev-3 c = let (z, (scene, sources)) = c.requires.0 in
    let h = c.in_ok-w.ensures z _ scene sources in
    let m = (found_at _ _ _ _ (c.overwritten_from.ensures z _ scene sources (source_seen z _ _ _ _ _ scene _ h)) c.unwrap-r.ensures).0 in
    record { fits = omega arith }

pub overflow_cast-ev-4 : goal.overflow_cast-ev-4
overflow_cast-ev-4 c = let m = (found_at _ _ _ _ c.first.ensures c.unwrap-x.ensures).0 in
    record { fits = omega arith }

pub bounds-ev-2 : goal.bounds-ev-2
bounds-ev-2 c = let b = c.requires.2 in
    simp length-set (omega arith)

pub bounds-ev-3 : goal.bounds-ev-3
bounds-ev-3 c = let b = c.requires.2 in
    simp length-set (omega arith)

pub returns : goal.returns
returns c = let b = c.requires.2 in
    λ z scene sources.
    let h = c.in_ok-w.ensures z _ scene sources in
    let f = found_at _ _ _ _ (c.overwritten_from.ensures z _ scene sources (source_seen z _ _ _ _ _ scene _ h)) c.unwrap-r.ensures in
    over_shown z _ _ _ _ _ scene _ h _ f _ (c.overwriting.ensures z _ scene) _ (found_at _ _ _ _ c.first.ensures c.unwrap-x.ensures) c.args.ev.now (omega arith)
