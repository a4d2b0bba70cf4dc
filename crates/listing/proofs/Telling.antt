-- The listing of a record: what its answer says of the order table, and that it is the only one.
use Prim.Native.Nat.{ℕ, ◌+◌, ◌-◌, ◌<◌, ◌≤◌}
use mathlib.Core.Path.{◌≡◌, refl, sym, ap, ap₂, ◌∙◌, subst}
use mathlib.Core.Logic.{◌⊎◌, inl, inr}
use mathlib.Core.List.{List, ◌++◌}
use native.Mathlib.Omega.{arith}
use lib.ListN.{length, take, drop, get_or, length-append}
use lib.Seq.{take_at, ext_get_or}
use Rattle.std.specs.Prelude.{Ok, Err}
use Rattle.order.specs.Least.{Counted}
use Rattle.order.specs.Rule.{AllKept}
use Rattle.order.specs.Evidence.{Written}
use Rattle.order.proofs.Judgements.{Otherwise, judged_kept, zero_judged, given_unique}
use Rattle.order.proofs.Numbers.{counted_as, counted_unique, counted_low}
use Rattle.rows.specs.Table.{rel}
use Rattle.form.specs.Right.{Right}
use Rattle.form.specs.Whole.{whole}
use Rattle.form.specs.Steps.{Step}
use Rattle.form.proofs.Answers.{stop_answer}
use Rattle.form.proofs.Rights.{whole_well}
use Rattle.record.specs.Execution.{Execution}
use Rattle.record.specs.Says.{execution_of}
use Rattle.record.specs.Formed.{Formed}
use Rattle.record.proofs.Formings.{formed}
use Rattle.structure.specs.Structure.{structure_rules}
use Rattle.structure.specs.Examined.{examined_by, examination}
use Rattle.structure.proofs.Examining.{examination_unique}
use Rattle.model.specs.Model.{HappensBefore}
use Rattle.model.specs.Rules.{witness_rules, order_rules, check_rules}
use Rattle.model.proofs.Bounds.{happens_low}
use Rattle.model.specs.Validity.{Answers}
use Rattle.table.specs.Tabled.{Filled, tabled_by, Tabled}
use Rattle.listing.specs.Listing.{verdict, event_lines, Counts, Ordered, Listing, Listed}

-- ---- answer 0 or 24 to 27: form, structure and witness are in order

-- such an answer is 0 or above 23
ordered_apart : (a : ℕ) → Ordered a → 0 < (1 - a) + (a - 23)
ordered_apart a (inl o) = omega arith
ordered_apart a (inr (l, h)) = omega arith

ordered_other : (z : Execution) (a : ℕ) → Ordered a → Otherwise a (structure_rules z ++ witness_rules z)
ordered_other z a o = let f = ordered_apart a o in search arith

module _ (s : List ℕ) (a : ℕ) (e : List ℕ) (ans : Answers s a e) (o : Ordered a) where
  abbrev z : Execution
  z = execution_of s

  -- reading goes well, and the rules 10 to 23 are kept
  read_kept : (at : ℕ) × (whole s ≡ Ok at) × AllKept (structure_rules z ++ witness_rules z)
  unfolding examination
  read_kept = go (whole s) refl ans
    where
      go : (x : Step) → whole s ≡ x → examined_by x (structure_rules z ++ check_rules z) a e
          → (at : ℕ) × (whole s ≡ Ok at) × AllKept (structure_rules z ++ witness_rules z)
      go (Err f) w j =
          let (l, h) = stop_answer s f w in
          let n = j.0 in
          absurd (omega (arith, ordered_apart a o))
      go (Ok at) w j = (at, w, judged_kept (structure_rules z ++ witness_rules z) (order_rules z) a e (ordered_other z a o) j)

  pub ordered_right : Right s
  ordered_right = whole_well s read_kept.0 read_kept.1

  pub table_filled : (before after : List ℕ) (b : ℕ) → 64 ≤ length before → Tabled s before after b → Filled (execution_of s) before after
  unfolding Tabled
  table_filled before after b l t = let (at, w, k) = read_kept in go at k (rw w at t)
    where
      go : (at : ℕ) → AllKept (structure_rules z ++ witness_rules z) → tabled_by (Ok at) z before after b → Filled z before after
      go at k (inl (n, p, q)) = let m = (formed s ordered_right).events.within in absurd (omega arith)
      go at k (inr (n, (d, j, inl f))) = f.1
      go at k (inr (n, (d, j, inr f))) = absurd (f.0 (zero_judged (structure_rules z ++ witness_rules z) b d k j).0)

-- evidence in a buffer of 65 entries
pub evidence_front : (e before after : List ℕ) (k : ℕ) → length before ≡ 65 → length after ≡ 65 → Written e before after k → (k ≤ 65) × (take k after ≡ e)
evidence_front e before after k lb la (n, w) =
    let m = ap length w ∙ length-append e (drop k before) in
    (omega arith, ap (take k) w ∙ take_at e (drop k before) k (sym n))

-- ---- how many events each happens directly before

-- counts of the rows of a filled table
pub counts_of : (z : Execution) → Formed z → (before after cs : List ℕ) → Filled z before after → length cs ≡ z.events.size
    → ((k : ℕ) → k < z.events.size → Counted 64 (rel after k) (get_or cs k 0)) → Counts z cs
counts_of z form before after cs f e c = record {
  size = e;
  each = λ k l.
      counted_low _ 64 (HappensBefore z k) (get_or cs k 0) (λ i h. (happens_low z form k i h).1) form.events.within
      (counted_as 64 (rel after k) (HappensBefore z k) (get_or cs k 0) (λ i h. (f.words k i l).0) (λ i h. (f.words k i l).1) (c k l));
}

counts_unique : (z : Execution) (cs ds : List ℕ) → Counts z cs → Counts z ds → cs ≡ ds
counts_unique z cs ds p q =
    ext_get_or 0 cs ds (p.size ∙ sym q.size)
    (λ i l. let h : i < z.events.size = rw p.size at l in counted_unique _ (HappensBefore z i) (get_or cs i 0) (get_or ds i 0) (p.each i h) (q.each i h))

-- ---- one listing of each record

pub listing_unique : (s x y : List ℕ) → Listing s x → Listing s y → x ≡ y
listing_unique s x y p q =
    let (ab, de) = examination_unique s (check_rules (execution_of s)) p.a q.a p.e q.e p.answers q.answers in
    go p.a q.a p.e q.e ab de p.is q.is
  where
    z : Execution
    z = execution_of s

    Is : ℕ → List ℕ → List ℕ → Type 0
    Is a e t = (Ordered a × ((cs : List ℕ) × Counts z cs × (t ≡ verdict a e ++ event_lines 0 cs))) ⊎ ((Ordered a → ⊥) × (t ≡ verdict a e))

    go : (a b : ℕ) (d e : List ℕ) → a ≡ b → d ≡ e → Is a d x → Is b e y → x ≡ y
    go a b d e ab de (inl (o, (cs, c, i))) (inl (u, (ds, f, j))) =
        i ∙ ap₂ ◌++◌ (ap₂ verdict ab de) (ap (event_lines 0) (counts_unique z cs ds c f)) ∙ sym j
    go a b d e ab de (inl (o, i)) (inr (g, j)) = absurd (g (subst Ordered ab o))
    go a b d e ab de (inr (g, i)) (inl (o, j)) = absurd (g (subst Ordered (sym ab) o))
    go a b d e ab de (inr (g, i)) (inr (h, j)) = i ∙ ap₂ verdict ab de ∙ sym j

pub listed_unique : (s before x y : List ℕ) (k m : ℕ) → Listed s before x k → Listed s before y m → (k ≡ m) × (x ≡ y)
listed_unique s before x y k m (inl (l, z, e)) (inl (g, o, f)) = (z ∙ sym o, e ∙ sym f)
listed_unique s before x y k m (inl (l, z, e)) (inr (g, w)) = absurd (omega arith)
listed_unique s before x y k m (inr (l, w)) (inl (g, o, f)) = absurd (omega arith)
listed_unique s before x y k m (inr (l, p)) (inr (g, q)) =
    let r = given_unique (λ (a : ℕ) (t : List ℕ). (a ≡ 0) × Listing s t)
    (λ a b d e (i, u) (j, v). (i ∙ sym j, listing_unique s d e u v))
    before x y 0 0 k m (p.0, (refl, p.1), p.2) (q.0, (refl, q.1), q.2) in
    (r.1, r.2)
