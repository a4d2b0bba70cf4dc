-- A search below n, number by number, and how such searches nest.
use Prim.Native.Nat.{ℕ, zero, suc, ◌+◌, ◌<◌, ◌≤◌}
use mathlib.Core.Path.{◌≡◌, refl}
use mathlib.Core.Logic.{inl, ⊎_elim}
use mathlib.Core.List.{List, [], ◌∷◌, ◌++◌}
use lib.ListN.{length, set, drop}
use native.Mathlib.Decide.{dec_lt}
use native.Mathlib.Omega.{arith}
use Rattle.std.specs.Prelude.{Option, Some, IsSome}
use Rattle.std.specs.declared.option.Option.TheVariants.{None as Nothing}
use Rattle.order.specs.Least.{None, Least, Found, Hit}
use Rattle.order.specs.Dictionary.{Firstly}
use Rattle.order.specs.Rule.{Rule, Judged, About, Of, Any, rule, entry_rule}
use Rattle.order.specs.Evidence.{Given}
use Rattle.order.proofs.Numbers.{last_or}
use Rattle.order.proofs.Dictionaries.{firstly_nil, firstly_cons}

pub of_any : (n : ℕ) (P : About n) (w : List ℕ) → Of n P w → Any n P
of_any zero P [] h = h
of_any zero P (x ∷ w) h = absurd h
of_any (suc n) P [] h = absurd h
of_any (suc n) P (x ∷ w) h = (x, of_any n (P x) w h)

-- a found number goes before what is found after it
pub then_found : (n j : ℕ) (P : About (suc j)) (r : ℕ) (w : List ℕ) → Hit n (λ k. Any j (P k)) r
    → Firstly (Of j (P r)) w → Firstly (Of (suc j) P) (r ∷ w)
then_found n j P r w h f =
    firstly_cons (Of (suc j) P) r w (λ z. z) (λ k l m q. h.none k l (of_any j (P k) m q)) f

-- the last number
pub last_found : (n : ℕ) (P : About 1) (r : ℕ) → Hit n P r → r < n → Firstly (Of 1 P) (r ∷ [])
last_found n P r h l = then_found n 0 P r [] h (firstly_nil (Of 0 (P r)) (h.hit l))

-- nothing is found where there is nothing past n
pub not_found : (n j : ℕ) (P : About (suc j)) (r : ℕ) → ((k : ℕ) → Any j (P k) → k < n) → Hit n (λ k. Any j (P k)) r → n ≤ r
    → (w : List ℕ) → Of (suc j) P w → ⊥
not_found n j P r b h l w q =
    let a = of_any (suc j) P w q in let lt = b a.0 a.1 in h.none a.0 (omega arith) a.1

-- a search's loop: none so far, one more, found, and the end
module _ (P : ℕ → Type 0) where
  pub none_yet : None 0 P
  none_yet k h p = absurd (omega arith)

  pub none_next : (i : ℕ) → None i P → (P i → ⊥) → None (i + 1) P
  none_next i f q k h p = ⊎_elim (λ (e : k ≡ i). q (rw e at p)) (λ l. f k l p) (last_or i k (omega arith))

  pub hit_at : (n i : ℕ) → None i P → i < n → P i → Hit n P i
  hit_at n i f l p = record { most = omega arith; none = f; hit = λ h. p }

  pub hit_not : (n i : ℕ) → None i P → n ≤ i → Hit n P n
  hit_not n i f l = record { most = omega arith; none = λ k h p. f k (omega arith) p; hit = λ h. absurd (omega arith) }

  -- a hit under another name for its property
  pub hit_as : (Q : ℕ → Type 0) (n r : ℕ) → ((k : ℕ) → P k → Q k) → ((k : ℕ) → Q k → P k) → Hit n P r → Hit n Q r
  hit_as Q n r f g h = record { most = h.most; none = λ k l q. h.none k l (g k q); hit = λ l. f r (h.hit l) }

-- what a search finds, as a number: it, or n
module _ (n : ℕ) (P : ℕ → Type 0) where
  pub found_hit : (r : ℕ) → (r < n) × Least P r → Hit n P r
  found_hit r f = record { most = omega (arith, f.0); none = f.1.1; hit = λ h. f.1.0 }

  pub none_hit : None n P → Hit n P n
  none_hit f = record { most = omega arith; none = f; hit = λ h. absurd (omega arith) }

  pub hit_found : (r : ℕ) → Hit n P r → r < n → (r < n) × Least P r
  hit_found r h l = (l, (h.hit l, h.none))

  pub hit_none : (r : ℕ) → Hit n P r → n ≤ r → None n P
  hit_none r h l k m p = h.none k (omega arith) p

-- what is found under another name for its property
module _ (n : ℕ) (P Q : ℕ → Type 0) (f : (k : ℕ) → P k → Q k) (g : (k : ℕ) → Q k → P k) where
  pub found_as : (r : ℕ) → (r < n) × Least P r → (r < n) × Least Q r
  found_as r h = (h.0, (f r h.1.0, (λ k l q. h.1.1 k l (g k q))))

  pub none_as : None n P → None n Q
  none_as h k l q = h k l (g k q)

-- a search that must find does, and what it gives then
module _ (n : ℕ) (P : ℕ → Type 0) where
  pub found_some : (r : Option ℕ) → Found n P r → (None n P → ⊥) → IsSome r
  found_some (Some k) f g = refl
  found_some Nothing f g = absurd (g f)

  pub found_at : (r : Option ℕ) (k : ℕ) → Found n P r → r ≡ Some k → (k < n) × Least P k
  found_at r k f e = rw e at f

-- the same of a number
pub found_less : (n r k : ℕ) (P : ℕ → Type 0) → Hit n P r → P k → k < n → r < n
found_less n r k P h p l = go (dec_lt r n)
  where
    go : Dec (r < n) → r < n
    go (yes g) = g
    go (no g) = absurd (h.none k (omega arith) p)

-- P holds of any n numbers of which Q holds
abbrev pub From : (n : ℕ) → About n → About n → Type 0
From zero P Q = Q → P
From (suc n) P Q = (k : ℕ) → From n (P k) (Q k)

pub of_from : (n : ℕ) (P Q : About n) → From n P Q → (w : List ℕ) → Of n Q w → Of n P w
of_from zero P Q f [] q = f q
of_from zero P Q f (a ∷ w) q = q
of_from (suc n) P Q f [] q = q
of_from (suc n) P Q f (a ∷ w) q = of_from n (P a) (Q a) (f a) w q

-- so where P breaks no rule, Q breaks none
pub kept_from : (n : ℕ) (P Q : About n) → From n P Q → ((w : List ℕ) → Of n P w → ⊥) → (w : List ℕ) → Of n Q w → ⊥
kept_from n P Q f k w q = k w (of_from n P Q f w q)

-- entries written at the front of a buffer
pub put_one : (x : ℕ) (l : List ℕ) → 1 ≤ length l → set l 0 x ≡ (x ∷ []) ++ drop 1 l
put_one x [] h = absurd (omega arith)
put_one x (a ∷ l) h = refl

pub put_two : (x y : ℕ) (l : List ℕ) → 2 ≤ length l → set (set l 0 x) 1 y ≡ (x ∷ y ∷ []) ++ drop 2 l
put_two x y [] h = absurd (omega arith)
put_two x y (a ∷ []) h = absurd (omega arith)
put_two x y (a ∷ b ∷ l) h = refl

pub put_three : (x y z : ℕ) (l : List ℕ) → 3 ≤ length l → set (set (set l 0 x) 1 y) 2 z ≡ (x ∷ y ∷ z ∷ []) ++ drop 3 l
put_three x y z [] h = absurd (omega arith)
put_three x y z (a ∷ []) h = absurd (omega arith)
put_three x y z (a ∷ b ∷ []) h = absurd (omega arith)
put_three x y z (a ∷ b ∷ c ∷ l) h = refl

pub put_four : (x y z w : ℕ) (l : List ℕ) → 4 ≤ length l → set (set (set (set l 0 x) 1 y) 2 z) 3 w ≡ (x ∷ y ∷ z ∷ w ∷ []) ++ drop 4 l
put_four x y z w [] h = absurd (omega arith)
put_four x y z w (a ∷ []) h = absurd (omega arith)
put_four x y z w (a ∷ b ∷ []) h = absurd (omega arith)
put_four x y z w (a ∷ b ∷ c ∷ []) h = absurd (omega arith)
put_four x y z w (a ∷ b ∷ c ∷ d ∷ l) h = refl

-- ---- a search that is a rule's

module _ (a n : ℕ) (P : ℕ → Type 0) (r : ℕ) (h : Hit n P r) where
  -- found: the rule is broken, and r is its evidence
  pub one_shown : r < n → (qs : List Rule) (b : List ℕ) → 1 ≤ length b → Given (Judged (rule a 1 P ∷ qs)) b (set b 0 r) a 1
  unfolding Judged
  one_shown l qs b k = (r ∷ [], inl ((r ∷ [], last_found n P r h l, refl), refl), (refl, put_one r b k))

  -- the same of an entry, of which two numbers are shown
  pub entry_shown : r < n → (show : ℕ → List ℕ) (x y : ℕ) → x ∷ y ∷ [] ≡ show r → (qs : List Rule) (b : List ℕ) → 2 ≤ length b
      → Given (Judged (entry_rule a P show ∷ qs)) b (set (set b 0 x) 1 y) a 2
  unfolding Judged
  entry_shown l show x y e qs b k = (x ∷ y ∷ [], inl ((r ∷ [], last_found n P r h l, e), refl), (refl, put_two x y b k))

  -- not found: nothing breaks the rule
  pub one_kept : n ≤ r → ((k : ℕ) → P k → k < n) → (w : List ℕ) → Of 1 P w → ⊥
  one_kept l f = not_found n 0 P r f h l

-- two searches, the second at what the first found
module _ (a n : ℕ) (P : About 2) (x : ℕ) (h : Hit n (λ k. Any 1 (P k)) x) where
  pub two_shown : (y : ℕ) → Hit n (P x) y → x < n → ((k : ℕ) → P x k → k < n) → (qs : List Rule) (b : List ℕ) → 2 ≤ length b
      → Given (Judged (rule a 2 P ∷ qs)) b (set (set b 0 x) 1 y) a 2
  unfolding Judged
  two_shown y g l f qs b k =
      let s = h.hit l in
      let m : y < n = found_less n y s.0 (P x) g s.1 (f s.0 s.1) in
      (x ∷ y ∷ [], inl ((x ∷ y ∷ [], then_found n 1 P x (y ∷ []) h (last_found n (P x) y g m), refl), refl), (refl, put_two x y b k))

  pub two_kept : n ≤ x → ((j k : ℕ) → P j k → j < n) → (w : List ℕ) → Of 2 P w → ⊥
  two_kept l f = not_found n 1 P x (λ j q. f j q.0 q.1) h l
