-- What the first processors see, written one view behind the other.
use Prim.Native.Nat.{ℕ, ◌+◌, ◌*◌, ◌<◌, ◌≤◌}
use mathlib.Core.Path.{◌≡◌, refl, sym, ◌∙◌}
use mathlib.Core.Logic.{◌⊎◌, inl, inr, ⊎_elim}
use mathlib.Core.Bool.{Bool, ◌||◌, decide}
use mathlib.Core.List.{List, ◌++◌}
use native.Mathlib.Omega.{arith}
use native.Mathlib.Numerals.{add-one}
use lib.Dec.{eqb}
use lib.ListN.{length, length-append}
use Rattle.std.specs.Prelude.{EachIndex}
use Rattle.order.specs.Decides.{Decides}
use Rattle.order.proofs.Tests.{by_as, by_yes, by_no}
use Rattle.rows.specs.Members.{In, Is}
use Rattle.rows.specs.Table.{rel}
use Rattle.rows.specs.declared.Set.{Set}
use Rattle.rows.proofs.Members.{dec_in}
use Rattle.record.specs.Execution.{Execution}
use Rattle.facts.specs.Facts.{Sorted}
use Rattle.sequences.specs.Sequence.{steps}
use Rattle.sequences.specs.ReadOff.{is_store, picked, event, view_of}
use Rattle.sequences.proofs.Tests.{sees_decides}
use Rattle.form.specs.Bytes.{two_bytes, counted}
use Rattle.readoff.specs.Bytes.{views}
use Rattle.lent.specs.Put.{Put, PutTo}
use Rattle.sequences.proofs.Bounds.{picked_short}
use Rattle.readoff.proofs.Pickings.{Picks}
use Rattle.lent.proofs.Puts.{put_nothing, put_then, put_length}

-- the rows f and the set of stores say what the execution does, and the numbers of the list are events
pub record Shown (z : Execution) (l f : List ℕ) (stores : Set) : Type 0 where
  pub sorted : Sorted z f
  pub stored : Is stores (λ e. (e < z.events.size) × ((z.events.item e).kind ≡ 1))
  pub low : EachIndex l (λ i. (steps l).item i < z.events.size)

-- the views of the first p processors are written, and end at `to`
pub record Viewing (l f : List ℕ) (stores : Set) (before : List ℕ) (at : ℕ) (after : List ℕ) (to p : ℕ) : Type 0 where
  pub high : to ≤ at + p * 66
  pub same : length after ≡ length before
  pub put : (z : Execution) → Shown z l f stores → PutTo before at (views z l p) after to

in_decides : (s : Set) (e : ℕ) → Decides (decide (dec_in s e)) (In s e)
unfolding decide
in_decides s e = go (dec_in s e)
  where
    go : (d : Dec (In s e)) → Decides (decide d) (In s e)
    go (yes h) = by_yes h
    go (no h) = by_no h

module _ (l f : List ℕ) (stores : Set) (before : List ℕ) (at : ℕ) where
  pub viewing_none : at ≤ length before → Viewing l f stores before at before at 0
  unfolding views
  viewing_none h = record { high = omega arith; same = refl; put = λ z s. (put_nothing before at h, omega arith) }

  -- one view more: the row of p, with the stores
  module _
      (few : length l ≤ 64) (p : ℕ) (low : p < 4) (row some : Set) (own : Is row (rel f p)) (both : Is some (λ e. In row e ⊎ In stores e)) where
    view_picks : (z : Execution) → Shown z l f stores → Picks some l (λ e. eqb (event z e).processor p || is_store (event z e))
    view_picks z s i h = by_as _ there back (sees_decides z p ((steps l).item i))
      where
        e : ℕ
        e = (steps l).item i

        within : e < z.events.size
        within = s.low i h

        there : ((event z e).processor ≡ p) ⊎ ((event z e).kind ≡ 1) → In some e
        there (inl q) = both.has e (inl (own.has e ((s.sorted.own p e low).1 (within, q))))
        there (inr q) = both.has e (inr (s.stored.has e (within, q)))

        back : In some e → ((event z e).processor ≡ p) ⊎ ((event z e).kind ≡ 1)
        back m = ⊎_elim (λ q. inl ((s.sorted.own p e low).0 (own.says e q)).1) (λ q. inr (s.stored.says e q).1) (both.says e m)

    module _
        (after : List ℕ) (to : ℕ) (v : Viewing l f stores before at after to p) (c : List ℕ) (r : ℕ)
        (put : (test : ℕ → Bool) → Picks some l test → PutTo after to (counted (picked test l)) c r) where
      abbrev any_test : ℕ → Bool
      any_test e = decide (dec_in some e)

      put_any : PutTo after to (counted (picked any_test l)) c r
      put_any = put any_test (λ i h. in_decides some ((steps l).item i))

      pub viewing_next : Viewing l f stores before at c r (p + 1)
      unfolding views
      viewing_next = record {
        high =
            let e = put_any.1 in
            let h = v.high in
            omega (arith, picked_short any_test l);
        same = put_length after c _ to put_any.0 ∙ v.same;
        put = λ z s.
            let (q, e) = v.put z s in
            let (t, g) = put _ (view_picks z s) in
            let w = length-append (views z l p) (counted (view_of z p l)) in
            rw (add-one p) (put_then before after c (views z l p) (counted (view_of z p l)) at to q t e, omega arith);
      }

-- their count stands ahead of them
module _ (l f : List ℕ) (stores : Set) (before first after : List ℕ) (at to m p : ℕ) where
  pub viewing_done : Put before at (two_bytes m) first → Viewing l f stores first (at + 2) after to p → p ≡ m
      → (z : Execution) → Shown z l f stores → PutTo before at (two_bytes m ++ views z l m) after to
  viewing_done q v e z s =
      let (t, g) = v.put z s in
      rw (sym e) (put_then before first after (two_bytes p) (views z l p) at (at + 2) (rw (sym e) at q) t refl, omega arith)
