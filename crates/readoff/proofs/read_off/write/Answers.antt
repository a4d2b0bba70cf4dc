use Prim.Native.Nat.{ℕ, ◌≤◌}
use mathlib.Core.List.{List}
use lib.ListN.{length}
use Rattle.order.specs.Rule.{AllKept}
use Rattle.record.specs.declared.Layout.{Layout}
use Rattle.facts.specs.declared.Classes.{Classes}
use Rattle.facts.specs.Facts.{Gathered}
use Rattle.record.specs.Says.{execution_of}
use Rattle.structure.specs.Structure.{structure_rules}
use Rattle.sequences.specs.Sequence.{sequence_rules}
use Rattle.replay.specs.Known.{Narrowed}
use Rattle.readoff.proofs.Writing.{Known, front_long, listed, numbers, few, few_locks, few_processors, front_fits, room6, room7, room8, room9, written}
use Rattle.readoff.proofs.read_off.write.Goals as goal

known : (s : List ℕ) (l : Layout) (f q k : List ℕ) (c : Classes) (b o : List ℕ)
    → Gathered s l f q k c × AllKept (structure_rules (execution_of s)) × (2346 ≤ length o)
    → (w : (i : List ℕ) × AllKept (sequence_rules (execution_of s) i) × Narrowed (execution_of s).events.size i b)
    → Known s l f q k c b o w.0
known s l f q k c b o g w = record { facts = g.0; structure = g.1; kept = w.1; bytes = w.2; free = g.2 }

pub slice_bounds-list-end : goal.slice_bounds-list-end
slice_bounds-list-end c = front_long (known _ _ _ _ _ _ _ _ c.requires.gathered c.requires.by_index)

pub put_front-requires : goal.put_front-requires
put_front-requires c = front_fits (known _ _ _ _ _ _ _ _ c.requires.gathered c.requires.by_index)

pub put_some-six-requires : goal.put_some-six-requires
put_some-six-requires c =
    let h = known _ _ _ _ _ _ _ _ c.requires.gathered c.requires.by_index in
    rw (listed h) (numbers h, few h, room6 h _ c.put_front.ensures)

pub put_locks-seven-requires : goal.put_locks-seven-requires
put_locks-seven-requires c =
    let h = known _ _ _ _ _ _ _ _ c.requires.gathered c.requires.by_index in
    rw (listed h)
    (numbers h, few h, h.facts.entered.rows, few_locks h, room7 h _ c.put_front.ensures _ _ (rw (listed h) at c.put_some-six.ensures))

pub put_sources-eight-requires : goal.put_sources-eight-requires
put_sources-eight-requires c =
    let h = known _ _ _ _ _ _ _ _ c.requires.gathered c.requires.by_index in
    rw (listed h)
    (numbers h, few h, h.facts.ready.placed.rows, room8 h _ c.put_front.ensures _ _ (rw (listed h) at c.put_some-six.ensures) _ _ (rw (listed h) at c.put_locks-seven.ensures))

pub put_views-requires : goal.put_views-requires
put_views-requires c =
    let h = known _ _ _ _ _ _ _ _ c.requires.gathered c.requires.by_index in
    rw (listed h) (
      numbers h,
      few h,
      h.facts.sorted.rows,
      few_processors h,
      room9 h _ c.put_front.ensures _ _ (rw (listed h) at c.put_some-six.ensures) _ _ (rw (listed h) at c.put_locks-seven.ensures) _ _ (rw (listed h) at c.put_sources-eight.ensures),
    )

pub returns : goal.returns
returns c i k w =
    let p = c.requires.gathered in
    let h : Known _ _ _ _ _ _ _ _ i = record { facts = p.0; structure = p.1; kept = k; bytes = w; free = p.2 } in
    written h _ c.put_front.ensures _ _ (rw (listed h) at c.put_some-six.ensures) _ _ (rw (listed h) at c.put_locks-seven.ensures) _ _
    (rw (listed h) at c.put_sources-eight.ensures) _ _ (rw (listed h) at c.put_views.ensures)
