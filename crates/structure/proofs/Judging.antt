-- The structure rules, rule by rule, as the judgement of those from a number on.
use Prim.Native.Nat.{ℕ, ◌<◌, ◌≤◌}
use mathlib.Core.Path.{◌≡◌, refl}
use mathlib.Core.Logic.{◌⊎◌, inl, inr, ⊎_elim}
use mathlib.Core.List.{List, ◌∷◌}
use native.Mathlib.Omega.{arith}
use native.Mathlib.Decide.{ℕ_discrete}
use lib.ListN.{length}
use Rattle.order.specs.Least.{None}
use Rattle.order.specs.Rule.{Rule, Kept, Judged, Any, rule, entry_rule, cycle_rule}
use Rattle.order.specs.Evidence.{Given}
use Rattle.order.specs.Relation.{Cyclic}
use Rattle.order.proofs.Searches.{none_hit, one_kept, two_kept}
use Rattle.order.proofs.Rules.{cycle_kept, cycle_shown, cyclic_as, shown_as}
use Rattle.rows.specs.Table.{HasRows, on, Adds}
use Rattle.rows.specs.Members.{In, Is}
use Rattle.rows.specs.declared.Set.{Set}
use Rattle.rows.proofs.Members.{is_as}
use Rattle.cycles.specs.Showing.{Exhibited}
use Rattle.form.specs.Right.{Right}
use Rattle.record.specs.Execution.{Execution}
use Rattle.record.specs.Says.{execution_of}
use Rattle.record.specs.Laid.{Stands, Laid}
use Rattle.structure.specs.Held.{Held}
use Rattle.record.specs.Words.{Register, Causes}
use Rattle.facts.specs.Facts.{Blank, Classed}
use Rattle.facts.specs.declared.Classes.{Classes}
use Rattle.structure.specs.Structure.{Joining, Unordered, Eventless, Repeated, pair_of}
use Rattle.record.specs.declared.Layout.{Layout}
use Rattle.record.specs.declared.Part.{Part}
use Rattle.record.proofs.Formings.{formed}

-- no entry breaks rule 13 or 14
module _ (x : Execution) (g : ℕ) (e : g ≡ x.locks.size) where
  pub kept_14 : None g (Repeated x) → Kept (rule 14 1 (Repeated x))
  unfolding Repeated
  kept_14 h = one_kept 14 g _ g (none_hit g _ h) (omega arith) (λ k b. let m = b.0 in omega arith)

  pub kept_13 : None g (Eventless x) → Kept (rule 13 1 (Eventless x))
  unfolding Eventless
  kept_13 h = one_kept 13 g _ g (none_hit g _ h) (omega arith) (λ k b. let m = b.0 in omega arith)

module _ (s : List ℕ) (r : Right s) where
  pub kept_12 : None 64 (λ a. Any 1 (Unordered (execution_of s) a)) → Kept (rule 12 2 (Unordered (execution_of s)))
  unfolding Unordered
  kept_12 h = two_kept 12 64 _ 64 (none_hit 64 _ h) (omega arith) (λ a b q. let n = (formed s r).events.within in let g = q.0 in let k = q.1 in omega arith)

  pub kept_10 : (p : Part) → Stands s 3 p → None p.count (Joining (execution_of s))
      → Kept (entry_rule 10 (Joining (execution_of s)) (pair_of (execution_of s)))
  unfolding Joining
  kept_10 p q h = one_kept 10 p.count _ p.count (none_hit p.count _ h) (omega arith) (λ k b. let e = q.number in let g = b.0 in omega arith)

  -- the register events, from the events by class
  pub registers_of : (c : Classes) → Classed (execution_of s) c → (both : Set) → Is both (λ k. In c.gets k ⊎ In c.puts k)
      → Is both (λ e. (e < (execution_of s).events.size) × Register ((execution_of s).events.item e))
  registers_of c p both u = is_as both _ _
      (λ k q. ⊎_elim (λ m. let a = p.gets.says k m in let b = a.1 in (a.0, omega arith)) (λ m. let a = p.puts.says k m in let b = a.1 in (a.0, omega arith)) q)
      (λ k q. at k q (ℕ_discrete ((execution_of s).events.item k).kind 2))
      u
    where
      at : (k : ℕ) → (k < (execution_of s).events.size) × Register ((execution_of s).events.item k) → Dec (((execution_of s).events.item k).kind ≡ 2)
          → In c.gets k ⊎ In c.puts k
      at k q (yes e) = inl (p.gets.has k (q.0, e))
      at k q (no g) = let h = ((formed s r).events.each k q.0).sort in let l = q.1 in inr (p.puts.has k (q.0, omega arith))

  -- the table of the section 3 pairs, filled from a blank one
  pub held_of : (t u : List ℕ) → HasRows t 64 → Blank t → Adds t u (Causes (execution_of s)) → Held (execution_of s) u
  held_of t u h f d = record {
    rows = let e = d.same in omega arith;
    pairs = λ a b. (
      λ q. ⊎_elim (λ z. absurd (f a b z)) (λ z. z) ((d.pairs a b).0 q),
      λ q. (d.pairs a b).1 (inr q),
    );
  }

  -- the two names of one relation: the rows of the table, and the pairs of section 3
  module _ (t : List ℕ) (held : Held (execution_of s) t) (n : ℕ) (e : n ≡ (execution_of s).events.size) where
    rows_causes : (a b : ℕ) → on n t a b → Causes (execution_of s) a b
    rows_causes a b q = (held.pairs a b).0 q.2

    causes_below : (a b : ℕ) → Causes (execution_of s) a b → (a < n) × (b < n)
    unfolding Causes
    causes_below a b (i, l, (f, g)) = let c = (formed s r).causes.each i l in let x = c.0 in let y = c.1 in (omega arith, omega arith)

    causes_rows : (a b : ℕ) → Causes (execution_of s) a b → on n t a b
    causes_rows a b q = ((causes_below a b q).0, (causes_below a b q).1, (held.pairs a b).1 q)

    module _ (before after : List ℕ) where
      pub shown_11 : (k : ℕ) → Exhibited (on n t) before after k → (qs : List Rule) → Given (Judged (cycle_rule 11 (Causes (execution_of s)) ∷ qs)) before after 11 k
      unfolding Judged
      shown_11 k (l, c, v) qs = (l, inl (cycle_shown _ 11 l (shown_as (on n t) _ rows_causes causes_rows l c), refl), v)

      pub kept_11 : (Cyclic (on n t) → ⊥) × (after ≡ before) → Kept (cycle_rule 11 (Causes (execution_of s))) × (after ≡ before)
      kept_11 (f, u) = (cycle_kept _ 11 (λ c. f (cyclic_as _ (on n t) causes_rows c)), u)

-- a judgement of what was left untouched
pub given_from : (qs : List Rule) (b c d : List ℕ) (a k : ℕ) → c ≡ b → Given (Judged qs) c d a k → Given (Judged qs) b d a k
given_from qs b c d a k e g = rw e at g

pub show_ready : (s : List ℕ) → Right s → (l : Layout) → Laid s l → (t : List ℕ) → Held (execution_of s) t → (ev : List ℕ) → 65 ≤ length ev
    → (l.events ≤ 64) × HasRows t l.events × (l.events ≤ length ev)
show_ready s r l p t h ev g =
    let w = (formed s r).events.within in
    let e = p.events in
    let f = h.rows in
    (omega arith, omega arith, omega arith)
