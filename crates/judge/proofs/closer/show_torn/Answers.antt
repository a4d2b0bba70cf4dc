use mathlib.Core.Path.{refl}
use native.Mathlib.Omega.{arith}
use lib.ListN.{length-set}
use Rattle.order.proofs.Searches.{found_some, found_at}
use Rattle.judge.proofs.Showings.{torn_quiet, first_locked, first_seen, torn_second, torn_third, torn_shown}
use Rattle.judge.proofs.closer.show_torn.Goals as goal

pub returns-in_err-a : goal.returns-in_err-a
returns-in_err-a c = rw c.from_residual.ensures (λ z view mated classed. (torn_quiet z _ _ _ view (c.in_err-a.ensures z _ view.line mated classed.locked), refl))

pub tearing-requires : goal.tearing-requires
tearing-requires c = let (z, (view, (mated, classed))) = c.requires.0 in
    let h = (c.in_ok-a.ensures z _ view.line mated classed.locked).0 in
    let t = view.line.rows in
    let m = mated.rows in
    (t, omega arith, omega arith)

pub unwrap-x-requires : goal.unwrap-x-requires
unwrap-x-requires c = let (z, (view, (mated, classed))) = c.requires.0 in
    let h = c.in_ok-a.ensures z _ view.line mated classed.locked in
    let f = c.tearing.ensures z _ view.line mated (first_locked z _ _ _ view _ h) (first_seen z _ _ _ view _ h) in
    found_some _ _ _ f (torn_second z _ _ _ view _ h)

pub torn_from-requires : goal.torn_from-requires
torn_from-requires c = let (z, (view, (mated, classed))) = c.requires.0 in
    let h = c.in_ok-a.ensures z _ view.line mated classed.locked in
    let a = h.0 in
    let x = (found_at _ _ _ _ (c.tearing.ensures z _ view.line mated (first_locked z _ _ _ view _ h) (first_seen z _ _ _ view _ h)) c.unwrap-x.ensures).0 in
    let t = view.line.rows in
    let m = mated.rows in
    (omega arith, omega arith)

pub unwrap-b-requires : goal.unwrap-b-requires
unwrap-b-requires c = let (z, (view, (mated, classed))) = c.requires.0 in
    let h = c.in_ok-a.ensures z _ view.line mated classed.locked in
    let f = found_at _ _ _ _ (c.tearing.ensures z _ view.line mated (first_locked z _ _ _ view _ h) (first_seen z _ _ _ view _ h)) c.unwrap-x.ensures in
    found_some _ _ _ c.first.ensures (torn_third z _ _ _ view _ h _ f _ (c.torn_from.ensures z _ view.line mated))

pub overflow_cast-ev-2 : goal.overflow_cast-ev-2
overflow_cast-ev-2 c = let (z, (view, (mated, classed))) = c.requires.0 in
    let h = (c.in_ok-a.ensures z _ view.line mated classed.locked).0 in
    record { fits = omega arith }

pub bounds-ev-1 : goal.bounds-ev-1
bounds-ev-1 c = let b = c.requires.2 in
    simp length-set (omega arith)

pub overflow_cast-ev-3 : goal.overflow_cast-ev-3
overflow_cast-ev-3 c = let (z, (view, (mated, classed))) = c.requires.0 in
    let h = c.in_ok-a.ensures z _ view.line mated classed.locked in
    let l = (found_at _ _ _ _ (c.tearing.ensures z _ view.line mated (first_locked z _ _ _ view _ h) (first_seen z _ _ _ view _ h)) c.unwrap-x.ensures).0 in
    record { fits = omega arith }

pub overflow_cast-ev-4 : goal.overflow_cast-ev-4
overflow_cast-ev-4 c = let m = (found_at _ _ _ _ c.first.ensures c.unwrap-b.ensures).0 in
    record { fits = omega arith }

pub bounds-ev-2 : goal.bounds-ev-2
bounds-ev-2 c = let b = c.requires.2 in
    simp length-set (omega arith)

pub bounds-ev-3 : goal.bounds-ev-3
bounds-ev-3 c = let b = c.requires.2 in
    simp length-set (omega arith)

pub returns : goal.returns
returns c = let b = c.requires.2 in
    λ z view mated classed.
    let h = c.in_ok-a.ensures z _ view.line mated classed.locked in
    let f = found_at _ _ _ _ (c.tearing.ensures z _ view.line mated (first_locked z _ _ _ view _ h) (first_seen z _ _ _ view _ h)) c.unwrap-x.ensures in
    torn_shown z _ _ _ view _ h _ f _ (c.torn_from.ensures z _ view.line mated) _ (found_at _ _ _ _ c.first.ensures c.unwrap-b.ensures) c.args.ev.now (omega arith)
