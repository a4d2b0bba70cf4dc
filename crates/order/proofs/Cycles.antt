-- Cycles: the one that is shown is one, it meets no event twice, among n events it has at most n, and greedy steps make it.
use Prim.Native.Nat.{ℕ, zero, suc, ◌<◌, ◌≤◌}
use mathlib.Core.Path.{◌≡◌, refl, sym, ap}
use mathlib.Core.Logic.{◌⊎◌, inl, inr}
use mathlib.Core.List.Memᴰ
use mathlib.Core.List.{List, [], ◌∷◌, ◌++◌, append_assoc, Memᴰ}
use native.Mathlib.Omega.{arith}
use native.Mathlib.Decide.{dec_lt}
use lib.ListN.{length, length-append}
use Rattle.order.specs.Relation.{Rel, Trail, Cycle, Cyclic, Below, Absent, Once}
use Rattle.order.specs.Least.{Least}
use Rattle.order.specs.Walk.{Walk}
use Rattle.order.specs.Dictionary.{Lex}
use Rattle.order.specs.Shown.{AtLeast, Shown}
use Rattle.order.proofs.Walks.{short}
use Rattle.order.proofs.Dictionaries.{lex_both}

-- steps from v to s through the list, each to the least event from which s is as many steps away as are left
abbrev pub Greedy : Rel → ℕ → ℕ → List ℕ → Type 0
Greedy R s v [] = R v s
Greedy R s v (c ∷ m) = Least (λ x. R v x × Walk R (suc (length m)) x s) c × Greedy R s c m

pub cycle_some : (R : Rel) (l : List ℕ) → Cycle R l → 0 < length l
cycle_some R [] c = absurd c
cycle_some R (a ∷ l) c = omega arith

mem_split : (l : List ℕ) (x : ℕ) → Memᴰ x l → (p : List ℕ) × (q : List ℕ) × (l ≡ p ++ x ∷ q)
mem_split [] x h = absurd (Memᴰ.not-nil h)
mem_split (a ∷ l) x h = go (mem_split l x) (Memᴰ.cases_cons h)
  where
    go : (Memᴰ x l → (p : List ℕ) × (q : List ℕ) × (l ≡ p ++ x ∷ q)) → (x ≡ a) ⊎ Memᴰ x l
        → (p : List ℕ) × (q : List ℕ) × (a ∷ l ≡ p ++ x ∷ q)
    go rest (inl e) = ([], l, ap (λ (y : ℕ). y ∷ l) (sym e))
    go rest (inr i) = let (p, q, e) = rest i in (a ∷ p, q, ap (λ (k : List ℕ). a ∷ k) e)

at_least : (s : ℕ) (l : List ℕ) → ((x : ℕ) → Memᴰ x l → s ≤ x) → AtLeast s l
at_least s [] f = tt
at_least s (x ∷ l) f = (f x (Memᴰ.head refl), at_least s l (λ y h. f y (Memᴰ.tail h)))

absent : (a : ℕ) (l : List ℕ) → (Memᴰ a l → ⊥) → Absent a l
absent a [] f = tt
absent a (x ∷ l) f = (λ e. f (Memᴰ.head e), absent a l (λ h. f (Memᴰ.tail h)))

module _ (R : Rel) where
  -- a list's steps are a walk
  pub trail_walk : (a : ℕ) (l : List ℕ) (b : ℕ) → Trail R a l b → Walk R (suc (length l)) a b
  trail_walk a [] b r = (b, r, refl)
  trail_walk a (c ∷ l) b (r, t) = (c, r, trail_walk c l b t)

  pub walk_trail : (k a b : ℕ) → Walk R (suc k) a b → (l : List ℕ) × Trail R a l b × (length l ≡ k)
  walk_trail zero a b (c, r, e) = ([], rw e at r, refl)
  walk_trail (suc k) a b (c, r, w) = let (l, t, q) = walk_trail k c b w in (c ∷ l, (r, t), ap suc q)

  pub walk_cyclic : (k a : ℕ) → Walk R (suc k) a a → Cyclic R
  walk_cyclic k a w = let (l, t, q) = walk_trail k a a w in (a ∷ l, t)

  pub cyclic_walk : Cyclic R → (k : ℕ) × (a : ℕ) × Walk R (suc k) a a
  cyclic_walk ([], r) = absurd r
  cyclic_walk (a ∷ l, r) = (length l, a, trail_walk a l a r)

  -- a relation on n events that has a cycle has one of at most n events
  pub cycle_within : (n : ℕ) → Below n R → Cyclic R → (l : List ℕ) × Cycle R l × (length l ≤ n)
  cycle_within n low c =
      let (k, a, w) = cyclic_walk c in
      let (m, b, v, h) = short R n low k a w in
      let (l, t, q) = walk_trail m b b v in
      (b ∷ l, t, omega arith)

  pub trail_join : (a : ℕ) (l : List ℕ) (b : ℕ) (m : List ℕ) (c : ℕ) → Trail R a l b → Trail R b m c → Trail R a (l ++ b ∷ m) c
  trail_join a [] b m c r u = (r, u)
  trail_join a (d ∷ l) b m c (r, t) u = (r, trail_join d l b m c t u)

  pub trail_split : (a : ℕ) (l : List ℕ) (b : ℕ) (m : List ℕ) (c : ℕ) → Trail R a (l ++ b ∷ m) c → Trail R a l b × Trail R b m c
  trail_split a [] b m c (r, u) = (r, u)
  trail_split a (d ∷ l) b m c (r, t) = let p = trail_split d l b m c t in ((r, p.0), p.1)

  module _ (s : ℕ) where
    pub greedy_trail : (v : ℕ) (m : List ℕ) → Greedy R s v m → Trail R v m s
    greedy_trail v [] r = r
    greedy_trail v (c ∷ m) (h, g) = (h.0.0, greedy_trail c m g)

    -- no other as long is before it
    pub greedy_lex : (v : ℕ) (m : List ℕ) → Greedy R s v m → (o : List ℕ) → Trail R v o s → length o ≡ length m → Lex m o
    greedy_lex v [] g o t q = tt
    greedy_lex v (c ∷ m) g [] t q = absurd (omega arith)
    greedy_lex v (c ∷ m) (h, g) (d ∷ o) (r, t) q = go (greedy_lex c m g) (dec_lt c d) (dec_lt d c)
      where
        n : length o ≡ length m
        n = omega arith

        go : ((o : List ℕ) → Trail R c o s → length o ≡ length m → Lex m o) → Dec (c < d) → Dec (d < c) → (c < d) ⊎ ((c ≡ d) × Lex m o)
        go rest (yes l) x = inl l
        go rest (no a) (yes l) = absurd (h.1 d l (r, rw n at (trail_walk d o s t)))
        go rest (no a) (no b) = let e : d ≡ c = omega arith in inr (sym e, rest o (rw e at t) n)

  -- every number of a cycle begins a cycle as long
  pub turned : (l : List ℕ) (x : ℕ) → Cycle R l → Memᴰ x l → (m : List ℕ) × Cycle R (x ∷ m) × (suc (length m) ≡ length l)
  turned [] x r h = absurd r
  turned (a ∷ l) x r h = go (Memᴰ.cases_cons h)
    where
      go : (x ≡ a) ⊎ Memᴰ x l → (m : List ℕ) × Cycle R (x ∷ m) × (suc (length m) ≡ suc (length l))
      go (inl e) = (l, rw e r, refl)
      go (inr i) =
          let (p, q, e) = mem_split l x i in
          let t = trail_split a p x q a (rw e at r) in
          (q ++ a ∷ p, trail_join x q a p x t.1 t.0, omega (arith, ap length e, length-append q (a ∷ p), length-append p (x ∷ q)))

  -- the greedy list of the shortest length from the least number that has one is the one that is shown
  pub shown : (s : ℕ) (m : List ℕ) → Greedy R s s m
      → ((k a : ℕ) → k < length m → Walk R (suc k) a a → ⊥) → ((a : ℕ) → a < s → Walk R (suc (length m)) a a → ⊥)
      → Shown R (s ∷ m)
  shown s m g short low = record { cycle = cycle; shortest = shortest; begun = at_least s m member; least = λ o r q b. lex o r q }
    where
      cycle : Trail R s m s
      cycle = greedy_trail s s m g

      shortest : (o : List ℕ) → Cycle R o → suc (length m) ≤ length o
      shortest [] r = absurd r
      shortest (a ∷ o) r = go (dec_lt (length o) (length m))
        where
          go : Dec (length o < length m) → suc (length m) ≤ suc (length o)
          go (yes l) = absurd (short (length o) a l (trail_walk a o a r))
          go (no h) = omega arith

      first_le : (a : ℕ) (o : List ℕ) → Trail R a o a → length o ≡ length m → s ≤ a
      first_le a o t q = go (dec_lt a s)
        where
          go : Dec (a < s) → s ≤ a
          go (yes l) = absurd (low a l (rw q at (trail_walk a o a t)))
          go (no h) = omega arith

      member : (x : ℕ) → Memᴰ x m → s ≤ x
      member x h = let r = turned (s ∷ m) x cycle (Memᴰ.tail h) in first_le x r.0 r.1 (omega arith)

      lex : (o : List ℕ) → Cycle R o → length o ≡ suc (length m) → Lex (s ∷ m) o
      lex [] r q = absurd r
      lex (a ∷ o) r q = go (dec_lt s a)
        where
          n : length o ≡ length m
          n = omega arith

          go : Dec (s < a) → (s < a) ⊎ ((s ≡ a) × Lex m o)
          go (yes l) = inl l
          go (no h) = let b = first_le a o r n in let e : a ≡ s = omega arith in inr (sym e, greedy_lex s s m g o (rw e at r) n)

  -- a cycle that meets x twice is a shorter one with a cycle at x put in
  cut_out : (p : List ℕ) (x : ℕ) (q r : List ℕ) → Cycle R (p ++ (x ∷ (q ++ x ∷ r))) → Cycle R (p ++ x ∷ r)
  cut_out [] x q r c = (trail_split x q x r x c).1
  cut_out (a ∷ p) x q r c =
      let t = trail_split a p x (q ++ x ∷ r) a c in trail_join a p x r a t.0 (trail_split x q x r a t.1).1

  once : (p m : List ℕ) → Cycle R (p ++ m) → ((o : List ℕ) → Cycle R o → length (p ++ m) ≤ length o) → Once m
  once p [] c f = tt
  once p (x ∷ m) c f =
      let e : (p ++ (x ∷ [])) ++ m ≡ p ++ x ∷ m = append_assoc p (x ∷ []) m in
      (absent x m twice, once (p ++ (x ∷ [])) m (rw e c) (rw e f))
    where
      twice : Memᴰ x m → ⊥
      twice h =
          let (q, r, e) = mem_split m x h in
          let l = f (p ++ x ∷ r) (cut_out p x q r (rw e at c)) in
          omega (arith, ap length e, length-append p (x ∷ m), length-append p (x ∷ r), length-append q (x ∷ r))

  -- the cycle that is shown meets no event twice
  pub shown_once : (l : List ℕ) → Shown R l → Once l
  shown_once l s = once [] l s.cycle s.shortest

  -- two cycles that are shown are one
  pub shown_unique : (l m : List ℕ) → Shown R l → Shown R m → l ≡ m
  shown_unique l m p q =
      let n : length l ≡ length m = omega (arith, p.shortest m q.cycle, q.shortest l p.cycle) in
      lex_both l m (p.least m q.cycle (sym n) q.begun) (q.least l p.cycle n p.begun)
