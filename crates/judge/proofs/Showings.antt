-- The rules 25 to 27 in one view: what their searches find is their evidence.
use Prim.Native.Nat.{ℕ, ◌<◌, ◌≤◌}
use mathlib.Core.Path.{◌≡◌, refl, ap}
use mathlib.Core.Logic.{inl, inr}
use mathlib.Core.List.{List, [], ◌∷◌}
use native.Mathlib.Omega.{arith}
use lib.ListN.{length, set}
use Rattle.order.specs.Dictionary.{Firstly}
use Rattle.order.specs.Least.{None, Least}
use Rattle.order.specs.Rule.{About, Any, rule}
use Rattle.order.proofs.Dictionaries.{firstly_nil, firstly_cons}
use Rattle.order.proofs.Searches.{then_found, last_found, not_found, none_hit, found_hit, found_as, none_as, put_three, put_four}
use Rattle.rows.specs.Members.{In, Is}
use Rattle.rows.specs.declared.Set.{Set}
use Rattle.rows.proofs.Members.{in_low}
use Rattle.record.specs.Execution.{Execution}
use Rattle.record.specs.Words.{SameInstruction}
use Rattle.facts.specs.declared.Classes.{Classes}
use Rattle.model.specs.Model.{Reads, Locked, Source, ViewOrder}
use Rattle.model.specs.Rules.{Overwritten, Unsourced, WrongInitial, BreaksUp, Torn}
use Rattle.axioms.specs.Scene.{Viewed, Scene}
use Rattle.axioms.specs.Faults.{WrongFrom, Coded, code, Precedes}
use Rattle.axioms.proofs.Initials.{initially_unique, wrong_unsourced}
use Rattle.axioms.proofs.Tears.{broken_locked, broken_in, broken_is}
use denote.Enum.Declared.{tag_of}
use Rattle.axioms.specs.contracts.initial.Start.{the_type}
use Rattle.axioms.specs.declared.initial.Start.{Start}
use Rattle.axioms.specs.declared.initial.Start.TheVariants.{Absent, Other, Same}
use Rattle.judge.specs.Later.{later_rule, QuietAt, ShownAt}

-- ---- a rule about p and three numbers below 64, searched for one after the other

module _ (number : ℕ) (P : About 4) (p : ℕ) (low : (a x b : ℕ) → P p a x b → (a < 64) × (x < 64) × (b < 64)) where
  -- not found
  three_quiet : None 64 (λ k. Any 2 (P p k)) → QuietAt (rule number 4 P) p
  three_quiet n = not_found 64 2 (P p) 64 (λ k q. (low k q.0 q.1.0 q.1.1).0) (none_hit _ _ n) (omega arith)

  -- found: the second is searched for at the first, the third at both
  module _ (a : ℕ) (h : (a < 64) × Least (λ k. Any 2 (P p k)) a) where
    three_second : None 64 (λ k. Any 1 (P p a k)) → ⊥
    three_second n = let (x, (b, q)) = h.1.0 in n x (low a x b q).1 (b, q)

    module _ (x : ℕ) (hx : (x < 64) × Least (λ k. Any 1 (P p a k)) x) where
      three_third : None 64 (P p a x) → ⊥
      three_third n = let (b, q) = hx.1.0 in n b (low a x b q).2 q

      three_shown : (b : ℕ) → (b < 64) × Least (P p a x) b → (ev : List ℕ) → 4 ≤ length ev
          → ShownAt (rule number 4 P) p ev (set (set (set (set ev 0 p) 1 a) 2 x) 3 b) 4
      three_shown b hb ev l = (
        a ∷ x ∷ b ∷ [],
        then_found 64 2 (P p) a _ (found_hit _ _ _ h)
            (then_found 64 1 (P p a) x _ (found_hit _ _ _ hx) (last_found 64 (P p a x) b (found_hit _ _ _ hb) hb.0)),
        omega arith,
        (refl, put_four p a x b ev l),
      )

-- ---- 25
module _ (z : Execution) (p : ℕ) (t q : List ℕ) (c : Classes) (seen : Set) (s : Scene z p t q c seen) where
  over_source : (w r x : ℕ) → Overwritten z p w r x → Source z w r
  unfolding Overwritten
  over_source w r x h = h.1

  over_seen : (w r x : ℕ) → Overwritten z p w r x → In seen w × In seen r × In seen x
  unfolding Overwritten
  over_seen w r x h = (s.view.sees.has w h.2.0, s.view.sees.has r h.2.1, (s.view.line.within w x h.5).1)

  over_low : (w r x : ℕ) → Overwritten z p w r x → (w < 64) × (r < 64) × (x < 64)
  over_low w r x h = let (a, b, d) = over_seen w r x h in (in_low seen w a, in_low seen r b, in_low seen x d)

  pub over_quiet : None 64 (λ k. Any 2 (Overwritten z p k)) → QuietAt (later_rule z 0) p
  over_quiet = three_quiet 25 (Overwritten z) p over_low

  module _ (w : ℕ) (h : (w < 64) × Least (λ k. Any 2 (Overwritten z p k)) w) where
    pub source_seen : In seen w
    source_seen = let (r, (x, k)) = h.1.0 in (over_seen w r x k).0

    pub over_second : None 64 (λ e. Any 1 (Overwritten z p w e)) → ⊥
    over_second = three_second 25 (Overwritten z) p over_low w h

    module _ (r : ℕ) (f : (r < 64) × Least (λ e. Any 1 (Overwritten z p w e)) r)
        (out : Set) (i : Source z w r → In seen w → In seen r → Is out (Overwritten z p w r)) where
      over_out : Is out (Overwritten z p w r)
      over_out = let (k, o) = f.1.0 in
          let (a, b, d) = over_seen w r k o in
          i (over_source w r k o) a b

      pub over_third : None 64 (In out) → ⊥
      over_third n = three_third 25 (Overwritten z) p over_low w h r f (none_as _ _ _ over_out.says over_out.has n)

      pub over_shown : (x : ℕ) → (x < 64) × Least (In out) x → (ev : List ℕ) → 4 ≤ length ev
          → ShownAt (later_rule z 0) p ev (set (set (set (set ev 0 p) 1 w) 2 r) 3 x) 4
      over_shown x hx = three_shown 25 (Overwritten z) p over_low w h r f x (found_as _ _ _ over_out.says over_out.has x hx)

-- ---- 27
module _ (z : Execution) (p : ℕ) (t : List ℕ) (seen : Set) (s : Viewed z p t seen) where
  torn_low : (a x b : ℕ) → Torn z p a x b → (a < 64) × (x < 64) × (b < 64)
  unfolding Torn
  torn_low a x b h = let (i, j, k) = broken_in z (z.view p) t seen s.line a x b h.1 in (in_low seen a i, in_low seen x j, in_low seen b k)

  pub torn_quiet : None 64 (λ k. Any 2 (BreaksUp z (z.view p) k)) → QuietAt (later_rule z 2) p
  unfolding Torn
  torn_quiet n =
      three_quiet 27 (Torn z) p torn_low (none_as 64 _ _ (λ k (x, (b, q)). (x, (b, (s.processor, q)))) (λ k (x, (b, q)). (x, (b, q.1))) n)

  module _ (a : ℕ) (h : (a < 64) × Least (λ k. Any 2 (BreaksUp z (z.view p) k)) a) where
    first : (a < 64) × Least (λ k. Any 2 (Torn z p k)) a
    unfolding Torn
    first = found_as 64 _ _ (λ k (x, (b, q)). (x, (b, (s.processor, q)))) (λ k (x, (b, q)). (x, (b, q.1))) a h

    -- a is locked, and seen
    pub first_locked : Locked z a
    first_locked = let (y, (b, k)) = h.1.0 in broken_locked z (z.view p) t seen s.line a y b k

    pub first_seen : In seen a
    first_seen = let (y, (b, k)) = h.1.0 in (broken_in z (z.view p) t seen s.line a y b k).0

    pub torn_second : None 64 (λ k. Any 1 (BreaksUp z (z.view p) a k)) → ⊥
    unfolding Torn
    torn_second n =
        three_second 27 (Torn z) p torn_low a first (none_as 64 _ _ (λ k (b, q). (b, (s.processor, q))) (λ k (b, q). (b, q.1)) n)

    module _ (x : ℕ) (f : (x < 64) × Least (λ k. Any 1 (BreaksUp z (z.view p) a k)) x)
        (out : Set)
        (i : Locked z a → In seen a → In seen x → Is out (λ b. In seen b × (SameInstruction (z.events.item a) (z.events.item b) × ViewOrder z p x b))) where
      second : (x < 64) × Least (λ k. Any 1 (Torn z p a k)) x
      unfolding Torn
      second = found_as 64 _ _ (λ k (b, q). (b, (s.processor, q))) (λ k (b, q). (b, q.1)) x f

      torn_out : Is out (Torn z p a x)
      unfolding Torn
      torn_out =
          let (k, o) = f.1.0 in
          let (m, n, l) = broken_in z (z.view p) t seen s.line a x k o in
          let j = broken_is z (z.view p) t seen s.line a x k o out (i (broken_locked z (z.view p) t seen s.line a x k o) m n) in
          record { says = λ e q. (s.processor, j.says e q); has = λ e q. j.has e q.1 }

      pub torn_third : None 64 (In out) → ⊥
      torn_third n = three_third 27 (Torn z) p torn_low a first x second (none_as _ _ _ torn_out.says torn_out.has n)

      pub torn_shown : (b : ℕ) → (b < 64) × Least (In out) b → (ev : List ℕ) → 4 ≤ length ev
          → ShownAt (later_rule z 2) p ev (set (set (set (set ev 0 p) 1 a) 2 x) 3 b) 4
      torn_shown b hb = three_shown 27 (Torn z) p torn_low a first x second b (found_as _ _ _ torn_out.says torn_out.has b hb)

-- ---- 26

-- the number of a Start in the code is its number in evidence
pub tag_is : (i : Start) → tag_of the_type i ≡ code i
tag_is Absent = refl
tag_is Other = refl
tag_is Same = refl

module _ (z : Execution) (p r : ℕ) where
  -- a code below r's own breaks nothing
  code_none : (code : ℕ) → Coded z r code → (k : ℕ) → k < code → (m : List ℕ) → WrongInitial z (p ∷ r ∷ k ∷ m) → ⊥
  unfolding WrongInitial
  code_none code (inl (e, n)) k l m h = omega arith
  code_none code (inr (inl (e, d))) k l [] (u, inl (f, n)) = let i = d.1 in n i.0 i.1 i.2.0
  code_none code (inr (inl (e, d))) k l [] (u, inr (f, n)) = omega arith
  code_none code (inr (inr (e, d))) k l [] (u, inl (f, n)) = n d.0 d.1 d.2.0
  code_none code (inr (inr (e, d))) k l [] (u, inr (f, n)) = n.2 (initially_unique z (z.events.item r) _ _ n.1 d)
  code_none code (inr (inl (e, d))) k l (x ∷ []) (u, f, w, o) = omega arith
  code_none code (inr (inr (e, d))) k l (x ∷ []) (u, f, w, o) = omega arith
  code_none code (inr (inl (e, d))) k l (x ∷ y ∷ m) h = h
  code_none code (inr (inr (e, d))) k l (x ∷ y ∷ m) h = h

  code_empty : WrongInitial z (p ∷ r ∷ []) → ⊥
  unfolding WrongInitial
  code_empty h = h

  -- code 0 or 1 ends the evidence
  code_first : Unsourced z p r → (code : ℕ) → Coded z r code → code < 2 → Firstly (λ v. WrongInitial z (p ∷ r ∷ v)) (code ∷ [])
  unfolding WrongInitial
  code_first u code d l = firstly_cons (λ v. WrongInitial z (p ∷ r ∷ v)) code [] code_empty (code_none code d) (firstly_nil _ (has d))
    where
      has : Coded z r code → WrongInitial z (p ∷ r ∷ code ∷ [])
      has (inl q) = (u, inl q)
      has (inr (inl q)) = (u, inr q)
      has (inr (inr q)) = let e = q.0 in absurd (omega arith)

  -- behind code 2 stands the first write before r
  before_first : Unsourced z p r → (code : ℕ) → Coded z r code → code ≡ 2 → (b : ℕ) → Least (Precedes z p r) b
      → Firstly (λ v. WrongInitial z (p ∷ r ∷ v)) (code ∷ b ∷ [])
  unfolding WrongInitial
  before_first u code d e b h =
      firstly_cons (λ v. WrongInitial z (p ∷ r ∷ v)) code (b ∷ []) code_empty (code_none code d)
      (firstly_cons (λ v. WrongInitial z (p ∷ r ∷ code ∷ v)) b [] empty less (firstly_nil _ (has h.0)))
    where
      empty : WrongInitial z (p ∷ r ∷ code ∷ []) → ⊥
      empty (v, inl (f, n)) = omega arith
      empty (v, inr (f, n)) = omega arith

      less : (k : ℕ) → k < b → (m : List ℕ) → WrongInitial z (p ∷ r ∷ code ∷ k ∷ m) → ⊥
      less k g [] (v, f, w, o) = h.1 k g (w, o)
      less k g (y ∷ m) q = q

      has : Precedes z p r b → WrongInitial z (p ∷ r ∷ code ∷ b ∷ [])
      has (w, o) = (u, e, w, o)

  -- r breaks the rule, and not by its initial value
  before_some : (code : ℕ) → Coded z r code → code ≡ 2 → WrongFrom z p r → (x : ℕ) × Precedes z p r x
  unfolding WrongInitial
  before_some code d e ([], h) = absurd h
  before_some code d e (k ∷ [], (u, inl (f, n))) = absurd (code_none code d k (omega arith) [] (u, inl (f, n)))
  before_some code d e (k ∷ [], (u, inr (f, n))) = absurd (code_none code d k (omega arith) [] (u, inr (f, n)))
  before_some code d e (k ∷ x ∷ [], (u, f, w, o)) = (x, (w, o))
  before_some code d e (k ∷ x ∷ y ∷ w, h) = absurd h

module _ (z : Execution) (p : ℕ) (t q : List ℕ) (c : Classes) (seen : Set) (s : Scene z p t q c seen) where
  wrong_seen : (k : ℕ) → WrongFrom z p k → In seen k
  wrong_seen k w = s.view.sees.has k (wrong_unsourced z p k w).1

  wrong_empty : WrongInitial z (p ∷ []) → ⊥
  unfolding WrongInitial
  wrong_empty w = w

  pub initial_quiet : None 64 (WrongFrom z p) → QuietAt (later_rule z 1) p
  initial_quiet n [] w = wrong_empty w
  initial_quiet n (k ∷ m) w = n k (in_low seen k (wrong_seen k (m, w))) (m, w)

  module _ (r : ℕ) (h : (r < 64) × Least (WrongFrom z p) r) where
    unsourced : Unsourced z p r
    unsourced = wrong_unsourced z p r h.1.0

    pub initial_low : r < z.events.size
    initial_low = unsourced.1.0

    first_wrong : (w : List ℕ) → Firstly (λ v. WrongInitial z (p ∷ r ∷ v)) w → Firstly (λ v. WrongInitial z (p ∷ v)) (r ∷ w)
    first_wrong w f = firstly_cons (λ v. WrongInitial z (p ∷ v)) r w wrong_empty (λ k l m x. h.1.1 k l (m, x)) f

    module _ (i : Start) (d : Coded z r (code i)) where
      pub code_shown : (i ≡ Same → ⊥) → (ev : List ℕ) → 3 ≤ length ev → ShownAt (later_rule z 1) p ev (set (set (set ev 0 p) 1 r) 2 (code i)) 3
      code_shown g ev n = (r ∷ code i ∷ [], first_wrong (code i ∷ []) (code_first z p r unsourced (code i) d (below i g)), omega arith, (refl, put_three p r (code i) ev n))
        where
          below : (j : Start) → (j ≡ Same → ⊥) → code j < 2
          below Absent g = omega arith
          below Other g = omega arith
          below Same g = absurd (g refl)

      -- the writes before r
      module _ (e : i ≡ Same) (x : Set) (f : In seen r → Reads (z.events.item r) → Is x (Precedes z p r)) where
        two : code i ≡ 2
        two = ap code e

        before_out : Is x (Precedes z p r)
        before_out = f (wrong_seen r h.1.0) unsourced.2

        pub before_third : None 64 (In x) → ⊥
        before_third n =
            let (k, o) = before_some z p r (code i) d two h.1.0 in
            let m = before_out.has k o in
            n k (in_low x k m) m

        pub before_shown : (b : ℕ) → (b < 64) × Least (In x) b → (ev : List ℕ) → 4 ≤ length ev
            → ShownAt (later_rule z 1) p ev (set (set (set (set ev 0 p) 1 r) 2 (code i)) 3 b) 4
        before_shown b hb ev n = (
          r ∷ code i ∷ b ∷ [],
          first_wrong (code i ∷ b ∷ [])
              (before_first z p r unsourced (code i) d two b (found_as _ _ _ before_out.says before_out.has b hb).1),
          omega arith,
          (refl, put_four p r (code i) b ev n),
        )
