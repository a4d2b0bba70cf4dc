-- The first list that has a property, searched for number by number.
use Prim.Native.Nat.{ℕ, zero, suc, ◌+◌, ◌<◌}
use mathlib.Core.Path.{◌≡◌, refl}
use mathlib.Core.Logic.{⊎_elim}
use mathlib.Core.Bool.{Bool, true, false}
use mathlib.Core.List.{List, [], ◌∷◌}
use native.Mathlib.Omega.{arith}
use Rattle.order.specs.Decides.{Decides}
use Rattle.order.specs.Dictionary.{Firstly}
use Rattle.order.specs.Least.{Some}
use Rattle.order.specs.Rule.{About, Of}
use Rattle.order.proofs.Dictionaries.{firstly_nil, firstly_cons}
use Rattle.order.proofs.Numbers.{last_or}
use Rattle.order.proofs.Tests.{by_as, by_no}
use Rattle.slots.proofs.Tested.{Tested}

-- a search: the list ends here, and the test says whether it counts; or a number below n comes next
pub data Search : Type 0 where
  stop : Bool → Search
  more : ℕ → (ℕ → Search) → Search

-- what a search finds
pub data Found : Type 0 where
  missing : Found
  hit : List ℕ → Found

abbrev pub or_else : ℕ → Found → Found → Found
or_else i missing r = r
or_else i (hit w) r = hit (i ∷ w)

-- the first of m numbers from i on that has a list behind it
unfoldable pub scan : ℕ → ℕ → (ℕ → Found) → Found
scan zero i f = missing
scan (suc m) i f = let r = scan m (suc i) f in or_else i (f i) r

unfoldable pub search_for : Search → Found
unfolding scan
search_for (stop true) = hit []
search_for (stop false) = missing
search_for (more n f) = scan n 0 (λ k. search_for (f k))

-- ---- what is found is right

abbrev pub Sought : (List ℕ → Type 0) → Found → Type 0
Sought P missing = (w : List ℕ) → P w → ⊥
Sought P (hit w) = Firstly P w

-- s is a search for P: where P holds of a list at all, it holds of one whose next number is below the bound
abbrev pub Fits : Search → (List ℕ → Type 0) → Type 0
Fits (stop b) P = Decides b (P []) × ((k : ℕ) (w : List ℕ) → P (k ∷ w) → ⊥)
Fits (more n f) P =
    (P [] → ⊥)
    × ((k : ℕ) (w : List ℕ) → P (k ∷ w) → Some n (λ i. (v : List ℕ) × P (i ∷ v)))
    × ((k : ℕ) → k < n → Fits (f k) (λ w. P (k ∷ w)))

module _ (P : List ℕ → Type 0) where
  -- no list with P begins below n
  abbrev NoneUnder : ℕ → Type 0
  NoneUnder n = (k : ℕ) → k < n → (w : List ℕ) → P (k ∷ w) → ⊥

  abbrev Under : ℕ → Found → Type 0
  Under n missing = NoneUnder n
  Under n (hit w) = Firstly P w

  module _ (empty : P [] → ⊥) where
    next : (i n : ℕ) (x r : Found) → Sought (λ w. P (i ∷ w)) x → NoneUnder i → (NoneUnder (suc i) → Under n r) → Under n (or_else i x r)
    next i n missing r h b go = go (λ k l w q. ⊎_elim (λ (e : k ≡ i). h w (rw e at q)) (λ g. b k g w q) (last_or i k l))
    next i n (hit w) r h b go = firstly_cons P i w empty b h

    scanned : (m i n : ℕ) (f : ℕ → Found) → i + m ≡ n → ((k : ℕ) → k < n → Sought (λ w. P (k ∷ w)) (f k)) → NoneUnder i → Under n (scan m i f)
    unfolding scan
    scanned zero i n f e h b = λ k l w q. b k (omega arith) w q
    scanned (suc m) i n f e h b =
        next i n (f i) (scan m (suc i) f) (h i (omega arith)) b (λ c. scanned m (suc i) n f (omega arith) h c)

    done : (n : ℕ) (x : Found) → ((k : ℕ) (w : List ℕ) → P (k ∷ w) → Some n (λ i. (v : List ℕ) × P (i ∷ v))) → Under n x → Sought P x
    done n (hit w) low h = h
    done n missing low h = go
      where
        go : (w : List ℕ) → P w → ⊥
        go [] q = empty q
        go (k ∷ w) q = let (i, l, (v, p)) = low k w q in h i l v p

pub search_right : (s : Search) (P : List ℕ → Type 0) → Fits s P → Sought P (search_for s)
unfolding search_for
search_right (stop true) P f = firstly_nil P (f.0.holds refl)
search_right (stop false) P f = only
  where
    only : (w : List ℕ) → P w → ⊥
    only [] q = f.0.fails refl q
    only (k ∷ w) q = f.1 k w q
search_right (more n g) P f =
    done P f.0 n (scan n 0 (λ k. search_for (g k))) f.1
    (scanned P f.0 n 0 n (λ k. search_for (g k)) (omega arith) (λ k l. search_right (g k) (λ w. P (k ∷ w)) (f.2 k l)) (λ k l. absurd (omega arith)))

-- ---- searches put together

-- a search for P is one for whatever has the same lists
pub fits_as : (s : Search) (P Q : List ℕ → Type 0) → ((w : List ℕ) → P w → Q w) → ((w : List ℕ) → Q w → P w) → Fits s P → Fits s Q
fits_as (stop b) P Q f g h = (by_as b (f []) (g []) h.0, λ k w q. h.1 k w (g (k ∷ w) q))
fits_as (more n r) P Q f g h = (
  λ q. h.0 (g [] q),
  λ k w q. let (i, l, (v, p)) = h.1 k w (g (k ∷ w) q) in (i, l, (v, f (i ∷ v) p)),
  λ k l. fits_as (r k) (λ w. P (k ∷ w)) (λ w. Q (k ∷ w)) (λ w. f (k ∷ w)) (λ w. g (k ∷ w)) (h.2 k l),
)

-- a search that is made only where the test passes
abbrev pub guard : Bool → Search → Search
guard true s = s
guard false s = stop false

pub guard_fits : (b : Bool) (A : Type 0) (s : Search) (P Q : List ℕ → Type 0) → Decides b A → ((w : List ℕ) → Q w → A × P w)
    → (A → (w : List ℕ) → P w → Q w) → Fits s P → Fits (guard b s) Q
guard_fits true A s P Q d f g h = fits_as s P Q (g (d.holds refl)) (λ w q. (f w q).1) h
guard_fits false A s P Q d f g h = (by_no (λ q. d.fails refl (f [] q).0), λ k w q. d.fails refl (f (k ∷ w) q).0)

-- a test of so many numbers
abbrev pub Testing : (j : ℕ) → About j → Type 0
Testing zero P = Tested P
Testing (suc j) P = (k : ℕ) → Testing j (P k)

-- the numbers of the list are below the bounds, one by one
abbrev pub Bounded : List ℕ → List ℕ → Type 0
Bounded bs [] = Unit {0}
Bounded [] (k ∷ w) = ⊥
Bounded (n ∷ bs) (k ∷ w) = (k < n) × Bounded bs w

-- numbers with P have G as a list
abbrev pub Gives : (j : ℕ) → About j → (List ℕ → Type 0) → Type 0
Gives zero P G = P → G []
Gives (suc j) P G = (k : ℕ) → Gives j (P k) (λ w. G (k ∷ w))

gives_all : (j : ℕ) (P : About j) (G : List ℕ → Type 0) → Gives j P G → (w : List ℕ) → Of j P w → G w
gives_all zero P G f [] q = f q
gives_all zero P G f (k ∷ w) q = absurd q
gives_all (suc j) P G f [] q = absurd q
gives_all (suc j) P G f (k ∷ w) q = gives_all j (P k) (λ v. G (k ∷ v)) (f k) w q

-- numbers with P are below the bounds
abbrev pub Low : (j : ℕ) → About j → List ℕ → Type 0
Low j P bs = Gives j P (Bounded bs)

-- the search for numbers below bounds
unfoldable pub tuple : (j : ℕ) (P : About j) → Testing j P → List ℕ → Search
tuple zero P t bs = stop t.test
tuple (suc j) P t [] = stop false
tuple (suc j) P t (n ∷ bs) = more n (λ k. tuple j (P k) (t k) bs)

fits_tuple : (j : ℕ) (P : About j) (t : Testing j P) (bs : List ℕ) → ((w : List ℕ) → Of j P w → Bounded bs w) → Fits (tuple j P t bs) (Of j P)
unfolding tuple
fits_tuple zero P t bs low = (t.right, λ k w q. q)
fits_tuple (suc j) P t [] low = (by_no (λ q. q), λ k w q. low (k ∷ w) q)
fits_tuple (suc j) P t (n ∷ bs) low = (
  λ q. q,
  λ k w q. (k, (low (k ∷ w) q).0, (w, q)),
  λ k l. fits_tuple j (P k) (t k) bs (λ w q. (low (k ∷ w) q).1),
)

pub tuple_fits : (j : ℕ) (P : About j) (t : Testing j P) (bs : List ℕ) → Low j P bs → Fits (tuple j P t bs) (Of j P)
tuple_fits j P t bs low = fits_tuple j P t bs (gives_all j P (Bounded bs) low)
