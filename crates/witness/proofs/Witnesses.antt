-- The rules about the witness, rule by rule, as the judgement of those from a number on.
use Rattle.std.specs.Prelude.{Option}
use Prim.Native.Nat.{ℕ, ◌+◌, ◌<◌, ◌≤◌}
use mathlib.Core.Path.{◌≡◌, ap₂, subst}
use mathlib.Core.Logic.{◌⊎◌, inl, inr, ⊎_elim}
use mathlib.Core.List.{List, [], ◌∷◌}
use native.Mathlib.Omega.{arith}
use lib.ListN.{length, set}
use Rattle.order.specs.Least.{None, Least, Hit, Found}
use Rattle.order.specs.Rule.{Rule, Kept, Judged, Any, rule, entry_rule}
use Rattle.order.specs.Evidence.{Given}
use Rattle.order.proofs.Searches.{none_next, found_hit, none_hit, hit_at, hit_not, one_kept, two_shown, two_kept}
use Rattle.rows.specs.Members.{In, Is}
use Rattle.rows.specs.Table.{rel}
use Rattle.rows.specs.declared.Set.{Set}
use Rattle.rows.proofs.Members.{is_as}
use Rattle.form.specs.Place.{view_start}
use Rattle.form.specs.Right.{Right}
use Rattle.form.proofs.Starts.{view_start_next}
use Rattle.record.specs.Execution.{Items, Execution}
use Rattle.record.specs.Formed.{Formed}
use Rattle.record.specs.Says.{execution_of}
use Rattle.record.specs.Laid.{Laid, Stands, Views}
use Rattle.record.specs.declared.Layout.{Layout}
use Rattle.record.specs.declared.Part.{Part}
use Rattle.record.proofs.Formings.{formed}
use Rattle.facts.specs.Facts.{Sorted, Classed}
use Rattle.facts.specs.Lists.{list_of, Listed}
use Rattle.facts.specs.declared.Classes.{Classes}
use Rattle.facts.proofs.Listings.{listed_more, stores_list, stores_listed, locks_list, locks_listed, view_list, view_listed}
use Rattle.axioms.proofs.Placings.{found_by}
use Rattle.model.specs.Model.{Sees}
use Rattle.model.specs.Rules.{Misplaced, WrongView, WrongStore, WrongLock, WrongSource, source_of}

-- ---- a list that is not what is due, each once

misplaced_as : (D E : Type 0) (l : Items ℕ) (e : ℕ) → (D → E) → (E → D) → Misplaced D l e → Misplaced E l e
unfolding Misplaced
misplaced_as D E l e f g (inl q) = inl (f q.0, q.1)
misplaced_as D E l e f g (inr (inl q)) = inr (inl ((λ x. q.0 (g x)), q.1))
misplaced_as D E l e f g (inr (inr q)) = inr (inr q)

-- what is due is below n, and so is what stands in the list
misplaced_low : (D : Type 0) (l : Items ℕ) (n e : ℕ) → (D → e < n) → ((i : ℕ) → i < l.size → l.item i < n) → Misplaced D l e → e < n
unfolding Misplaced
misplaced_low D l n e f g (inl q) = f q.0
misplaced_low D l n e f g (inr (inl (d, (i, h, q)))) = let a = g i h in omega arith
misplaced_low D l n e f g (inr (inr (j, h, (i, k, (p, q))))) = let a = g j h in omega arith

-- what a search finds, with a set of what is due, in a list that is read in place
misplaced_found : (due : Set) (Due : ℕ → Type 0) → Is due Due → (x l : Items ℕ) → x ≡ l → (r : Option ℕ) → Found 64 (λ e. Misplaced (In due e) x e) r
    → Found 64 (λ e. Misplaced (Due e) l e) r
misplaced_found due Due i x l q r h =
    found_by 64 _ _
    (λ e m. misplaced_as (In due e) (Due e) l e (i.says e) (i.has e) m)
    (λ e m. misplaced_as (Due e) (In due e) l e (i.has e) (i.says e) m)
    r
    (subst (λ (y : Items ℕ). Found 64 (λ e. Misplaced (In due e) y e) r) q h)

-- ---- what breaks a rule is below 64
module _ (z : Execution) (f : Formed z) where
  view_low : (p e : ℕ) → WrongView z p e → e < 64
  unfolding WrongView
  view_low p e (h, m) =
      let n = f.events.within in
      let l : e < z.events.size = misplaced_low _ (z.view p) _ e (λ q. q.0) (f.view p h).each m in
      omega arith

  pub processor_low : (p e : ℕ) → WrongView z p e → p < z.processors
  unfolding WrongView
  processor_low p e w = w.0

  store_low : (e : ℕ) → WrongStore z e → e < 64
  unfolding WrongStore
  store_low e m =
      let n = f.events.within in
      let l : e < z.events.size = misplaced_low _ z.stores _ e (λ q. q.0) f.stores.each m in
      omega arith

  lock_low : (i : ℕ) → WrongLock z i → i < 64
  unfolding WrongLock
  lock_low i m =
      let n = f.locks.within in
      let l : i < z.locks.size = misplaced_low _ z.lock_order _ i (λ q. q) f.lock_order.each m in
      omega arith

  -- ---- rule 20, view after view
  pub views_next : (p : ℕ) → None 64 (WrongView z p) → None p (λ k. Any 1 (WrongView z k)) → None (p + 1) (λ k. Any 1 (WrongView z k))
  views_next p h g = none_next (λ k. Any 1 (WrongView z k)) p g (λ (e, w). h e (view_low p e w) w)

  pub views_found : (p e : ℕ) → (e < 64) × Least (WrongView z p) e → None p (λ k. Any 1 (WrongView z k)) → (qs : List Rule) (b : List ℕ) → 2 ≤ length b
      → Given (Judged (rule 20 2 (WrongView z) ∷ qs)) b (set (set b 0 p) 1 e) 20 2
  views_found p e h g qs b k =
      let m = f.processors in
      let o = processor_low p e h.1.0 in
      let x : Hit 64 (λ j. Any 1 (WrongView z j)) p = hit_at (λ j. Any 1 (WrongView z j)) 64 p g (omega arith) (e, h.1.0) in
      two_shown 20 64 (WrongView z) p x e (found_hit _ _ e h) (omega arith) (view_low p) qs b k

  pub kept_20 : (p : ℕ) → z.processors ≤ p → None p (λ k. Any 1 (WrongView z k)) → Kept (rule 20 2 (WrongView z))
  kept_20 p l g =
      let x = hit_not (λ k. Any 1 (WrongView z k)) z.processors p g l in
      two_kept 20 z.processors (WrongView z) z.processors x (omega arith) processor_low

  -- ---- rules 21 to 23
  pub kept_21 : None 64 (WrongStore z) → Kept (rule 21 1 (WrongStore z))
  kept_21 h = one_kept 21 64 _ 64 (none_hit _ _ h) (omega arith) store_low

  pub kept_22 : None 64 (WrongLock z) → Kept (rule 22 1 (WrongLock z))
  kept_22 h = one_kept 22 64 _ 64 (none_hit _ _ h) (omega arith) lock_low

-- ---- the searches in a record
module _ (s : List ℕ) (r : Right s) where
  module _ (l : Layout) (d : Laid s l) where
    pub stores_ready : Listed s 64 l.stores
    stores_ready = listed_more s _ 64 _ (formed s r).events.within (stores_listed s r l d)

    pub stores_found : (c : Classes) → Classed (execution_of s) c → (k : Option ℕ) → Found 64 (λ e. Misplaced (In c.stores e) (list_of s l.stores) e) k
        → Found 64 (WrongStore (execution_of s)) k
    unfolding WrongStore
    stores_found c q k h = misplaced_found c.stores _ q.stores _ (execution_of s).stores (stores_list s r l d) k h

    pub locks_few : l.locks.count ≤ 64
    locks_few = let n = (formed s r).locks.within in let e = d.locks.number in omega arith

    pub locks_ready : Listed s 64 l.lockorder
    locks_ready = listed_more s _ 64 _ (let n = (formed s r).locks.within in omega arith) (locks_listed s r l d)

    pub locks_found : (due : Set) → Is due (λ k. k < l.locks.count) → (k : Option ℕ) → Found 64 (λ e. Misplaced (In due e) (list_of s l.lockorder) e) k
        → Found 64 (WrongLock (execution_of s)) k
    unfolding WrongLock
    locks_found due i k h = misplaced_found due _ all _ (execution_of s).lock_order (locks_list s r l d) k h
      where
        all : Is due (λ j. j < (execution_of s).locks.size)
        all = let e = d.locks.number in is_as due _ _ (λ j q. omega arith) (λ j q. omega arith) i

  module _ (p : ℕ) (h : p < (execution_of s).processors) (v : Part) (w : Views s p v) where
    pub view_ready : Listed s 64 v
    view_ready = listed_more s _ 64 _ (formed s r).events.within (view_listed s r p h v w)

    pub view_found : (f : List ℕ) → Sorted (execution_of s) f → (c : Classes) → Classed (execution_of s) c → (row due : Set) → Is row (rel f p)
        → Is due (λ k. In row k ⊎ In c.stores k) → (e : Option ℕ) → Found 64 (λ e. Misplaced (In due e) (list_of s v) e) e → Found 64 (WrongView (execution_of s) p) e
    unfolding WrongView
    view_found f o c q row due i u e t =
        found_by 64 _ _ (λ k m. (h, m)) (λ k m. m.1) e (misplaced_found due (Sees (execution_of s) p) sees _ ((execution_of s).view p) (view_list s p v w) e t)
      where
        low : p < 4
        low = let n = (formed s r).processors in omega arith

        sees : Is due (Sees (execution_of s) p)
        sees = is_as due _ _
            (λ k m. ⊎_elim
            (λ a. let b = (o.own p k low).0 (i.says k a) in (b.0, inl b.1))
            (λ a. let b = q.stores.says k a in (b.0, inr b.1))
            m)
            (λ k m. ⊎_elim (λ a. inl (i.has k ((o.own p k low).1 (m.0, a)))) (λ a. inr (q.stores.has k (m.0, a))) m.1)
            u

    -- where the view after this one stands
    pub view_after : v.at + v.count ≡ view_start s (p + 1)
    view_after = let a = w.place in let b = w.number in let e = view_start_next s p in omega arith

  module _ (p : Part) (q : Stands s 8 p) where
    pub source_low : (i : ℕ) → i < p.count → ((execution_of s).sources.item i).from < 65536
    source_low i h =
        let e = q.number in
        let n = (formed s r).events.within in
        let a = ((formed s r).sources.each i (omega arith)).0 in
        omega arith

    pub reader_low : (i : ℕ) → i < p.count → ((execution_of s).sources.item i).to < 65536
    reader_low i h =
        let e = q.number in
        let n = (formed s r).events.within in
        let a = ((formed s r).sources.each i (omega arith)).1 in
        omega arith

    pub kept_23 : None p.count (WrongSource (execution_of s)) → Kept (entry_rule 23 (WrongSource (execution_of s)) (source_of (execution_of s)))
    unfolding WrongSource
    kept_23 h = one_kept 23 p.count _ p.count (none_hit _ _ h) (omega arith) (λ k b. let e = q.number in let g = b.0 in omega arith)

-- the pair of an entry of section 8
pub source_shown : (z : Execution) (i x y : ℕ) → x ≡ (z.sources.item i).from → y ≡ (z.sources.item i).to → x ∷ y ∷ [] ≡ source_of z i
source_shown z i x y e f = ap₂ (λ (a b : ℕ). a ∷ b ∷ []) e f

-- a processor, by the number that the layout has
pub processor_here : (s : List ℕ) (l : Layout) → Laid s l → (p : ℕ) → p < l.processors → p < (execution_of s).processors
processor_here s l d p h = let e = d.processors in omega arith

pub processors_past : (s : List ℕ) (l : Layout) → Laid s l → (p : ℕ) → l.processors ≤ p → (execution_of s).processors ≤ p
processors_past s l d p h = let e = d.processors in omega arith
