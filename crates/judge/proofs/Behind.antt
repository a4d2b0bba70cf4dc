-- Rule 24 in one view: a cycle stands in the evidence behind the processor.
use Prim.Native.Nat.{ℕ, ◌+◌, ◌-◌, ◌<◌, ◌≤◌}
use mathlib.Core.Path.{◌≡◌, refl, ap, ◌∙◌}
use mathlib.Core.List.{List, [], ◌∷◌, ◌++◌, append-nil}
use native.Mathlib.Omega.{arith}
use lib.ListN.{length, take, drop, set, length-drop, drop_of_length-le}
use lib.Seq.{take_all, drop-drop}
use borrow.Rule.Slice.PartMut.{put_mid, mid_of, post_of, put_same}
use Rattle.order.specs.Relation.{Cyclic}
use Rattle.order.specs.Evidence.{Written}
use Rattle.order.proofs.Cycles.{cycle_within}
use Rattle.order.proofs.Rules.{shown_first_lem, round_cyclic, shown_as, cyclic_as}
use Rattle.rows.specs.Table.{on}
use Rattle.cycles.specs.Showing.{Exhibited}
use Rattle.record.specs.Execution.{Execution}
use Rattle.record.specs.Formed.{Formed}
use Rattle.model.specs.Model.{OrderFor}
use Rattle.model.specs.Rules.{rule24}
use Rattle.judge.specs.Later.{QuietAt, ShownAt}
use Rattle.judge.proofs.Scenes.{Arranged, rows_order, order_rows}

-- the part after the first entry, put back
module _ (ev ys : List ℕ) (h : 0 < length ev) where
  part : mid_of 1 (length ev - 1) ev ≡ drop 1 ev
  part = take_all (length ev - 1) (drop 1 ev) (omega (arith, length-drop 1 ev))

  pub put_nothing : ys ≡ mid_of 1 (length ev - 1) ev → put_mid 1 (length ev - 1) ev ys ≡ ev
  put_nothing e = ap (put_mid 1 (length ev - 1) ev) e ∙ put_same 1 (length ev - 1) ev

  after : post_of 1 (length ev - 1) ev ≡ []
  after = let l : length (drop 1 ev) ≤ length ev - 1 = omega (arith, length-drop 1 ev) in drop_of_length-le (drop 1 ev) l

  rest : (k : ℕ) → drop k (mid_of 1 (length ev - 1) ev) ≡ drop (k + 1) ev
  rest k = let e : 1 + k ≡ k + 1 = omega arith in ap (drop k) part ∙ drop-drop k 1 ev ∙ ap (λ (j : ℕ). drop j ev) e

  -- the first entry is p, and behind it stands what was written
  front : (p : ℕ) (zs : List ℕ) → set (take 1 ev ++ zs) 0 p ≡ p ∷ zs
  front p zs = go ev h
    where
      go : (l : List ℕ) → 0 < length l → set (take 1 l ++ zs) 0 p ≡ p ∷ zs
      go [] g = absurd (omega arith)
      go (x ∷ l) g = refl

  pub put_behind : (p k : ℕ) (l : List ℕ) → Written l (mid_of 1 (length ev - 1) ev) ys k
      → Written (p ∷ l) ev (set (put_mid 1 (length ev - 1) ev ys) 0 p) (k + 1)
  put_behind p k l (e, w) = (
    omega arith,
    front p (ys ++ post_of 1 (length ev - 1) ev)
        ∙ ap (λ (x : List ℕ). p ∷ (ys ++ x)) after ∙ ap (λ (x : List ℕ). p ∷ x) (append-nil ys ∙ w ∙ ap (λ (x : List ℕ). l ++ x) (rest k)),
  )

module _ (z : Execution) (f : Formed z) (p : ℕ) (h : p < z.processors) (t : List ℕ) (g : Arranged z p t) (n : ℕ) (e : n ≡ z.events.size)
    (ev ys : List ℕ) (long : 0 < length ev) where
  pub cycle_none : (Cyclic (on n t) → ⊥) × (ys ≡ mid_of 1 (length ev - 1) ev) → (Cyclic (OrderFor z p) → ⊥) × (put_mid 1 (length ev - 1) ev ys ≡ ev)
  cycle_none (a, c) = ((λ x. a (cyclic_as _ (on n t) (order_rows z f p h t g n e) x)), put_nothing ev ys long c)

  module _ (k : ℕ) (w : Exhibited (on n t) (mid_of 1 (length ev - 1) ev) ys k) where
    pub cycle_some_shown : ShownAt (rule24 z) p ev (set (put_mid 1 (length ev - 1) ev ys) 0 p) (k + 1)
    cycle_some_shown =
        let (m, s, v) = w in
        let d = shown_first_lem (OrderFor z p) m (shown_as (on n t) _ (rows_order z f p h t g n e) (order_rows z f p h t g n e) m s) in
        (length m ∷ m, record { has = (h, d.has); least = λ x q. d.least x q.1 }, omega arith, put_behind ev ys long p k m v)

    -- a shown cycle has at most as many events as there are
    pub cycle_few : n ≤ 64 → k ≤ 64
    cycle_few l =
        let (m, s, v) = w in
        let (x, y, q) = cycle_within (on n t) n (λ a b r. (r.0, r.1)) (m, s.cycle) in
        let o = s.shortest x y in
        let d = v.0 in
        omega arith

pub cycle_quiet : (z : Execution) (p : ℕ) → (Cyclic (OrderFor z p) → ⊥) → QuietAt (rule24 z) p
cycle_quiet z p f w (h, r) = f (round_cyclic (OrderFor z p) w r)
