use mathlib.Core.Path.{◌≡◌, sym, ◌∙◌}
use mathlib.Core.Logic.{inl, inr}
use native.Mathlib.Omega.{arith}
use borrow.Author.Tests.{eqb-false}
use lib.ListN.{get_or}
use Rattle.std.specs.Prelude.{ℕ, None}
use Rattle.rows.specs.Members.{In, Is}
use Rattle.rows.specs.Table.{rel}
use Rattle.rows.proofs.Members.{in_low}
use Rattle.cycles.proofs.Digs.{Been, free_less, fresh_begin, fresh_start, fresh_done, dig_less, dig_leaf, dig_found, dig_on, dig_end, dig_back, some_of, none_of, but_one, no_member, no_meet, no_next, next_in}
use Rattle.cycles.proofs.dig.Goals.{In-Some-last, Else-is_some, After-sub-live, then-w-start, else-w-start}
use Rattle.cycles.proofs.dig.Goals as goal

-- the path can go to w
way : (c : In-Some-last) → In c.loop-w.live c.in-Some-last.w × rel c.args.t.now c.loop-w.v c.in-Some-last.w
way c = next_in _ _ _ _ c.row.ensures _ c.bitand-next.ensures _ c.in-Some-last.ensures.0

-- where it has not been
off : (c : Else-is_some) → get_or c.loop-w.from c.in-Some-last.w None ≡ None
off c =
    elim c.if-w-start.branch [
      | then-w-start w ↦ absurd (eqb-false _ _ (sym w.value-is ∙ c.if-is_some.false) w.if-w-start.true)
      | else-w-start w ↦ none_of _ (cc)
    ]

-- it cannot go on
stuck : (c : After-sub-live) → ((k : ℕ) → rel c.args.t.now c.loop-w.v k → In c.loop-w.live k → ⊥) × Is c.sub-live.result (λ j. In c.loop-w.live j × (j ≡ c.loop-w.v → ⊥))
stuck c = (no_next _ _ _ _ c.row.ensures _ c.bitand-next.ensures c.in_default-last.ensures, but_one _ _ _ _ c.one.ensures c.sub-live.ensures)

pub returns-in_default : goal.returns-in_default
returns-in_default c = fresh_done _ _ _ _ (fresh_begin c.args.t.now _) (no_member _ c.in_default.ensures)

pub loop-w-init : goal.loop-w-init
loop-w-init c = fresh_start _ _ _ _ (fresh_begin _ _) _ c.in-Some.ensures.1.0

pub row-requires-in-Some-last : goal.row-requires-in-Some-last
row-requires-in-Some-last c = c.requires _ (c.loop-w.invariant.low _ (way c).0)

pub without-live-requires : goal.without-live-requires
without-live-requires c = (way (goal.at.without-live-requires c).In-Some-last).0

pub loop-w-smaller-then-not-meets : goal.loop-w-smaller-then-not-meets
loop-w-smaller-then-not-meets c = let h = way (goal.at.loop-w-smaller-then-not-meets c).In-Some-last in
    let d = dig_less _ _ _ _ _ _ c.loop-w.invariant _ h.0 (no_meet _ _ _ _ c.row-in-Some-last.ensures (c.meets.ensures.fails c.if-not-meets.true)) _ c.without-live.ensures in
    omega arith

pub loop-w-preserved-then-not-meets : goal.loop-w-preserved-then-not-meets
loop-w-preserved-then-not-meets c = let h = way (goal.at.loop-w-preserved-then-not-meets c).In-Some-last in
    dig_leaf _ _ _ _ _ _ c.loop-w.invariant _ h.0 h.1 (no_meet _ _ _ _ c.row-in-Some-last.ensures (c.meets.ensures.fails c.if-not-meets.true)) _ c.without-live.ensures

pub bounds-from-w : goal.bounds-from-w
bounds-from-w c = in_low _ _ (way (goal.at.bounds-from-w c).In-Some-last).0

pub returns-then-is_some : goal.returns-then-is_some
returns-then-is_some c = let h = way (goal.at.returns-then-is_some c).In-Some-last in
    let b : Been c.loop-w.from c.loop-w.start c.in-Some-last.w = elim c.if-w-start.branch [
      | then-w-start w ↦ inl w.if-w-start.true
      | else-w-start w ↦ inr (some_of _ (cc))
    ] in
    dig_found _ _ _ _ _ _ c.loop-w.invariant _ h.0 h.1 b

pub overflow_cast-from : goal.overflow_cast-from
overflow_cast-from c = let m = in_low _ _ c.loop-w.invariant.here in omega arith

pub bounds-from-w-else-is_some : goal.bounds-from-w-else-is_some
bounds-from-w-else-is_some c = in_low _ _ (way (goal.at.bounds-from-w-else-is_some c).In-Some-last).0

pub loop-w-smaller-else-is_some : goal.loop-w-smaller-else-is_some
loop-w-smaller-else-is_some c =
    let m = in_low _ _ (way (goal.at.loop-w-smaller-else-is_some c).In-Some-last).0 in
    let s = c.loop-w.invariant.same in
    let d = free_less c.loop-w.from _ c.loop-w.v (omega arith) (off c) in
    omega arith

pub loop-w-preserved-else-is_some : goal.loop-w-preserved-else-is_some
loop-w-preserved-else-is_some c = let h = way (goal.at.loop-w-preserved-else-is_some c).In-Some-last in
    dig_on _ _ _ _ _ _ c.loop-w.invariant _ h.0 h.1 (off c)

pub one-requires : goal.one-requires
one-requires c = in_low _ _ c.loop-w.invariant.here

pub bounds : goal.bounds
bounds c = in_low _ _ c.loop-w.invariant.here

pub loop-w-smaller-in-Some-from : goal.loop-w-smaller-in-Some-from
loop-w-smaller-in-Some-from c = let s = stuck (goal.at.loop-w-smaller-in-Some-from c).After-sub-live in
    let d = dig_less _ _ _ _ _ _ c.loop-w.invariant _ c.loop-w.invariant.here s.0 _ s.1 in
    omega arith

pub loop-w-preserved-in-Some-from : goal.loop-w-preserved-in-Some-from
loop-w-preserved-in-Some-from c = let s = stuck (goal.at.loop-w-preserved-in-Some-from c).After-sub-live in
    dig_back _ _ _ _ _ _ c.loop-w.invariant s.0 _ s.1 _ (rw c.from-v.ensures c.in-Some-from.is)

pub loop-w-smaller : goal.loop-w-smaller
loop-w-smaller c = let s = stuck (goal.at.loop-w-smaller c).After-sub-live in
    let d = dig_less _ _ _ _ _ _ c.loop-w.invariant _ c.loop-w.invariant.here s.0 _ s.1 in
    omega arith

pub loop-w-preserved : goal.loop-w-preserved
loop-w-preserved c = let s = stuck (goal.at.loop-w-preserved c).After-sub-live in
    fresh_start _ _ _ _ (dig_end _ _ _ _ _ _ c.loop-w.invariant s.0 _ s.1 c.in_default-from.is) _ c.in-Some-first.ensures.1.0

pub returns-in_default-first : goal.returns-in_default-first
returns-in_default-first c = let s = stuck (goal.at.returns-in_default-first c).After-sub-live in
    fresh_done _ _ _ _ (dig_end _ _ _ _ _ _ c.loop-w.invariant s.0 _ s.1 c.in_default-from.is) (no_member _ c.in_default-first.ensures)
