-- The order table: happens-before copied into a lent table, and the answers rule after rule.
use Prim.Native.Nat.{ℕ, ◌+◌, ◌-◌, ◌<◌, ◌≤◌}
use mathlib.Core.Path.{◌≡◌, refl, sym, ap, ◌∙◌, subst}
use mathlib.Core.Logic.{◌⊎◌, ◌↔◌, inl, inr}
use mathlib.Core.List.{List, ◌++◌}
use native.Mathlib.Omega.{arith}
use native.Mathlib.Decide.{dec_lt}
use lib.ListN.{length, take, drop, get_or, length-append, length-drop, get_or-append}
use lib.Seq.{length-take-le, get_or-take, get_or-drop, drop_at, ext_get_or}
use Rattle.std.specs.Prelude.{Ok, Err}
use Rattle.order.specs.Rule.{Rule, Judged, Numbered}
use Rattle.order.specs.Evidence.{Given}
use Rattle.order.proofs.Judgements.{judged_unique, judged_zero, judged_more, judged_then}
use Rattle.rows.specs.Members.{In, Is}
use Rattle.rows.specs.Table.{row_of, rel}
use Rattle.rows.specs.declared.Set.{Set}
use Rattle.rows.proofs.Members.{word, is_unique}
use Rattle.rows.proofs.Table.{is_row}
use Rattle.form.specs.Whole.{whole}
use Rattle.form.specs.declared.Fault.{Fault}
use Rattle.form.specs.Steps.{Step}
use Rattle.record.specs.Execution.{Execution}
use Rattle.record.specs.Says.{execution_of}
use Rattle.structure.specs.Structure.{structure_rules}
use Rattle.model.specs.Model.{HappensBefore}
use Rattle.model.specs.Rules.{witness_rules}
use Rattle.orders.specs.Groups.{Happens}
use Rattle.table.specs.Tabled.{Filled, Judging, tabled_by, Tabled, Words}

-- ---- the first n rows of h, in the place of those of b
module _ (n : ℕ) (h b : List ℕ) (long : n ≤ length h) where
  front : length (take n h) ≡ n
  front = length-take-le n h long

  copied_row : (e : ℕ) → e < n → row_of (take n h ++ drop n b) e ≡ row_of h e
  copied_row e l = ap word (get_or-append (take n h) (drop n b) 0 e (omega (arith, front)) ∙ get_or-take n h e 0 l)

  copied_rel : (e k : ℕ) → e < n → rel (take n h ++ drop n b) e k ↔ rel h e k
  unfolding rel
  copied_rel e k l =
      let q = copied_row e l in
      (subst (λ (x : Set). In x k) q, subst (λ (x : Set). In x k) (sym q))

  copied_same : n ≤ length b → length (take n h ++ drop n b) ≡ length b
  copied_same l = omega (arith, length-append (take n h) (drop n b), front, length-drop n b)

pub filled : (z : Execution) (h b c : List ℕ) (n : ℕ) → n ≡ z.events.size → n ≤ length h → n ≤ length b → Happens z h
    → c ≡ take n h ++ drop n b → Filled z b c
filled z h b c n e l g d q =
    subst (λ (x : List ℕ). Filled z b x) (sym q) (record {
      same = copied_same n h b l g;
      words = λ a k i.
          let r = copied_rel n h b l a k (omega arith) in
          let p = d.pairs a k in
          (λ x. p.0 (r.0 x), λ x. r.1 (p.1 x));
      rest = subst (λ (j : ℕ). drop j (take n h ++ drop n b) ≡ drop j b) e (drop_at (take n h) (drop n b) n (length-take-le n h l));
    })

-- ---- the judgement, whose evidence is not handed out
module _ (z : Execution) (rules : List Rule) (u v : List ℕ) (a k : ℕ) (g : Given (Judged rules) u v a k) where
  pub judging_stop : (a ≡ 0 → ⊥) → (b : List ℕ) → Judging z rules b b a
  judging_stop f b = (g.0, g.1, inr (f, refl))

  pub judging_done : a ≡ 0 → (b c : List ℕ) → Filled z b c → Judging z rules b c 0
  judging_done e b c f = (g.0, subst (λ (x : ℕ). Judged rules x g.0) e g.1, inl (refl, f))

  -- rules after those that were judged
  module _ (more : List Rule) where
    pub judging_more : (a ≡ 0 → ⊥) → (b : List ℕ) → Judging z (rules ++ more) b b a
    judging_more f b = (g.0, judged_more rules more a g.0 f g.1, inr (f, refl))

    pub judging_then : Numbered rules → a ≡ 0 → (b c : List ℕ) (d : ℕ) → Judging z more b c d → Judging z (rules ++ more) b c d
    judging_then n e b c d (w, j, t) =
        let k = judged_zero rules g.0 n (subst (λ (x : ℕ). Judged rules x g.0) e g.1) in
        (w, judged_then rules more d w k j, t)

-- ---- the answers of the order table
module _ (s : List ℕ) where
  pub tabled_stop : (f : Fault) → whole s ≡ Err f → (b : List ℕ) → Tabled s b b f.answer
  unfolding Tabled
  tabled_stop f e b = rw e (refl, refl)

  module _ (at : ℕ) (e : whole s ≡ Ok at) where
    pub tabled_short : (b : List ℕ) → length b < (execution_of s).events.size → Tabled s b b 1
    unfolding Tabled
    tabled_short b l = rw e (inl (l, refl, refl))

    pub tabled_next : (b c : List ℕ) (a : ℕ) → (execution_of s).events.size ≤ length b
        → Judging (execution_of s) (structure_rules (execution_of s) ++ witness_rules (execution_of s)) b c a → Tabled s b c a
    unfolding Tabled
    tabled_next b c a l j = rw e (inr (l, j))

-- ---- two results that the order table's contract allows are one
filled_unique : (z : Execution) (b x y : List ℕ) → Words x → Words y → Filled z b x → Filled z b y → x ≡ y
filled_unique z b x y wx wy p q = ext_get_or 0 x y (p.same ∙ sym q.same) (λ i l. at i (dec_lt i n))
  where
    n : ℕ
    n = z.events.size

    at : (i : ℕ) → Dec (i < n) → get_or x i 0 ≡ get_or y i 0
    at i (yes l) = ap (λ (r : Set). r.word) (is_unique (row_of x i) (row_of y i) (HappensBefore z i) (wx i) (wy i) (row x p) (row y q))
      where
        row : (t : List ℕ) → Filled z b t → Is (row_of t i) (HappensBefore z i)
        row t f = record { says = λ k m. (f.words i k l).0 ((is_row t i).says k m); has = λ k m. (is_row t i).has k ((f.words i k l).1 m) }
    at i (no g) =
        let e : n + (i - n) ≡ i = omega arith in
        let t : (l : List ℕ) → get_or (drop n l) (i - n) 0 ≡ get_or l i 0 = λ l. get_or-drop n l (i - n) 0 ∙ ap (λ (k : ℕ). get_or l k 0) e in
        sym (t x) ∙ ap (λ (l : List ℕ). get_or l (i - n) 0) (p.rest ∙ sym q.rest) ∙ t y

judging_unique : (z : Execution) (rules : List Rule) (before x y : List ℕ) (a b : ℕ) → Words x → Words y → Judging z rules before x a
    → Judging z rules before y b → (a ≡ b) × (x ≡ y)
judging_unique z rules before x y a b wx wy (d, j, p) (e, k, q) =
    let ab = (judged_unique rules a b d e j k).0 in
    (ab, go ab p q)
  where
    go : a ≡ b → ((a ≡ 0) × Filled z before x) ⊎ ((a ≡ 0 → ⊥) × (x ≡ before)) → ((b ≡ 0) × Filled z before y) ⊎ ((b ≡ 0 → ⊥) × (y ≡ before)) → x ≡ y
    go ab (inl f) (inl g) = filled_unique z before x y wx wy f.1 g.1
    go ab (inl f) (inr g) = absurd (g.0 (sym ab ∙ f.0))
    go ab (inr f) (inl g) = absurd (f.0 (ab ∙ g.0))
    go ab (inr f) (inr g) = f.1 ∙ sym g.1

-- so the contract decides the answer and every word of the table
pub tabled_unique : (s before x y : List ℕ) (a b : ℕ) → Words x → Words y → Tabled s before x a → Tabled s before y b → (a ≡ b) × (x ≡ y)
unfolding Tabled
tabled_unique s before x y a b wx wy = go (whole s)
  where
    z : Execution
    z = execution_of s

    go : (t : Step) → tabled_by t z before x a → tabled_by t z before y b → (a ≡ b) × (x ≡ y)
    go (Err f) p q = (p.0 ∙ sym q.0, p.1 ∙ sym q.1)
    go (Ok at) (inl p) (inl q) = (p.1 ∙ sym q.1, p.2 ∙ sym q.2)
    go (Ok at) (inl p) (inr q) = let l = p.0 in let g = q.0 in absurd (omega arith)
    go (Ok at) (inr p) (inl q) = let l = q.0 in let g = p.0 in absurd (omega arith)
    go (Ok at) (inr p) (inr q) = judging_unique z _ before x y a b wx wy p.1 q.1
