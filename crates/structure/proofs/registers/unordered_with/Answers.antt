use Prim.Native.Nat.{ℕ, ◌<◌}
use mathlib.Core.Logic.{inl, inr, ⊎_elim}
use mathlib.Core.List.{List}
use native.Mathlib.Omega.{arith}
use Rattle.rows.proofs.Members.{in_low}
use Rattle.rows.proofs.Seeks.{seek_begin, seek_next, seek_found}
use Rattle.form.specs.Right.{Right}
use Rattle.record.specs.Says.{execution_of}
use Rattle.record.proofs.Formings.{formed}
use Rattle.structure.specs.Structure.{Unordered}
use Rattle.structure.proofs.Partners.{partners_begin, partner_is, partner_told}
use Rattle.structure.proofs.registers.unordered_with.Goals as goal
use Rattle.structure.proofs.registers.unordered_with.Goals.{else-x-y-via-then-x-y+then-y-eq3+else-not-linked, else-x-y-via-then-x-y+else-y-eq3, else-x-y-via-else-x-y}

-- an event is below 64
low : (s : List ℕ) → Right s → (a : ℕ) → a < (execution_of s).events.size → a < 64
low s r a l = let n = (formed s r).events.within in omega arith

pub row-requires : goal.row-requires
row-requires c = let p = c.requires in
    let l = low _ p.right.0 _ p.a_bound.0 in
    let h = p.right.2.rows in
    omega arith

pub overflow_add-a : goal.overflow_add-a
overflow_add-a c = let p = c.requires in let l = low _ p.right.0 _ p.a_bound.0 in omega arith

pub full-requires : goal.full-requires
full-requires c = let p = c.requires in let l = low _ p.right.0 _ p.a_bound.0 in omega arith

pub row-requires-2 : goal.row-requires-2
row-requires-2 c = let p = c.requires in
    let l = low _ p.right.0 _ p.a_bound.0 in
    let h = p.right.1.rows in
    omega arith

pub loop-b-init : goal.loop-b-init
loop-b-init c = let p = c.requires in
    let n = partners_begin _ _ _ _ p.right.1 p.right.2 p.a_bound.1 _ _ _ _ _ c.row.ensures c.full.ensures c.sub.ensures c.row-2.ensures c.sub-near.ensures in
    rw c.into_iter-b-iterator.ensures.into_iter_gives (record { near = n; left = seek_begin _ _ n.all })

pub linked-requires : goal.linked-requires
linked-requires c = let p = c.requires in
    let a = low _ p.right.0 _ p.a_bound.0 in
    let h = in_low _ _ c.in-Some.ensures.steps.0.0 in
    let g = p.right.1.rows in
    (omega arith, omega arith)

pub returns-then-not-linked : goal.returns-then-not-linked
returns-then-not-linked c = let i = c.loop-b.invariant in
    let s = c.in-Some.ensures.steps.0 in
    let kinds = ⊎_elim (λ e. inl e) (λ q. inr q.1) c.if-y-eq3.either in
    let apart = c.linked.ensures.fails c.if-not-linked.true in
    seek_found _ _ _ i.left _ s
    (partner_is _ _ c.requires.right.1 _ _ _ _ c.event_of-x.ensures c.event_of-y.ensures _ i.near (i.left.part _ s.0) c.if-x-y.true kinds apart)

pub loop-b-preserved : goal.loop-b-preserved
loop-b-preserved c = let i = c.loop-b.invariant in
    let told = partner_told _ _ c.requires.right.1 _ _ _ _ c.event_of-x.ensures c.event_of-y.ensures in
    let other : Unordered (execution_of c.args.s.now) c.args.a c.in-Some.b → ⊥ =
    elim c.else-x-y.branch [
      | else-x-y-via-then-x-y+then-y-eq3+else-not-linked w ↦ λ u. (told u).2 (w.linked.ensures.holds w.if-not-linked.false)
      | else-x-y-via-then-x-y+else-y-eq3 w ↦ λ u. ⊎_elim w.if-y-eq3.false.0 w.if-y-eq3.false.1 (told u).1
      | else-x-y-via-else-x-y w ↦ λ u. w.if-x-y.false (told u).0
    ] in
    record { near = i.near; left = seek_next _ _ _ i.left _ other _ c.in-Some.ensures.steps.1 }
