-- The search for the shortest cycle and the least event on one as short.
use Prim.Native.Nat.{ℕ, zero, suc, ◌+◌, ◌<◌, ◌≤◌}
use mathlib.Core.Path.{◌≡◌, refl}
use mathlib.Core.List.{List}
use native.Mathlib.Omega.{arith}
use native.Mathlib.Decide.{dec_lt}
use Rattle.order.specs.Least.{Least}
use Rattle.order.specs.Relation.{Rel, Below, Cyclic}
use Rattle.order.specs.Walk.{Walk}
use Rattle.order.proofs.Walks.{short, join, snoc}
use Rattle.order.proofs.Cycles.{cyclic_walk}
use Rattle.rows.specs.Members.{In, Is, Member}
use Rattle.rows.specs.Table.{on}
use Rattle.rows.proofs.Members.{value, subset_less}
use Rattle.rows.specs.declared.Set.{Set}
use Rattle.cycles.specs.Search.{among, Left, Reached, Distance, Shortest}
use Rattle.cycles.proofs.Digs.{walk_as}

pub walk_low : (R : Rel) (n : ℕ) → Below n R → (k a b : ℕ) → 0 < k → Walk R k a b → a < n
walk_low R n low zero a b h w = absurd (omega arith)
walk_low R n low (suc k) a b h w = (low a w.0 w.1).0

-- a relation on n events with a cycle has a closed walk of at most n steps
pub too_long : (R : Rel) (n : ℕ) → Below n R → Cyclic R → (len : ℕ) → ((b : ℕ) → Reached R b len b → ⊥) → n < len → ⊥
too_long R n below c len none l =
    let (k, b, w) = cyclic_walk R c in
    let (d, x, u, h) = short R n below k b w in
    none x (suc d, omega arith, omega arith, u)

pub shortest_within : (R : Rel) (n : ℕ) → Below n R → Cyclic R → (len s : ℕ) → Shortest R len s → len ≤ n
shortest_within R n below c len s p = go (dec_lt n len)
  where
    go : Dec (n < len) → len ≤ n
    go (yes l) = absurd (too_long R n below c len p.none l)
    go (no l) = omega arith

-- what is known when the starts in live are left to try: the least length so far, the least event with a cycle as short, and that
-- every shorter cycle is in live
pub record Searching (R : Rel) (n : ℕ) (live : Set) (len s : ℕ) : Type 0 where
  pub positive : 0 < len
  pub most : len ≤ suc n
  pub low : (b : ℕ) → In live b → b < n
  pub covers : (j x : ℕ) → 0 < j → j < len → Walk R j x x → In live x
  pub closed : len ≤ n → Walk R len s s
  pub least : len ≤ n → (b : ℕ) → b < s → Walk R len b b → ⊥

pub search_begin : (R : Rel) (n : ℕ) → Below n R → (live all from : Set) → Left R live → Is all (λ k. k < n)
    → Is from (λ k. In live k × In all k) → Searching R n from (n + 1) 0
search_begin R n below live all from l i j = record {
  positive = omega arith;
  most = omega arith;
  low = λ b m. i.says b (j.says b m).1;
  covers = λ k x h y w. j.has x (inside k x h w, i.has x (walk_low R n below k x x h w));
  closed = λ h. absurd (omega arith);
  least = λ h. absurd (omega arith);
}
  where
    inside : (k b : ℕ) → 0 < k → Walk R k b b → In live b
    inside zero b h w = absurd (omega arith)
    inside (suc k) b h w = l.covers k b w

-- the closed walks below a length, in a set that has every event of theirs
module _ (t : List ℕ) (n : ℕ) (live : Set) (len : ℕ) (f : (j x : ℕ) → 0 < j → j < len → Walk (on n t) j x x → In live x) where
  part : (k m a b : ℕ) → m + k < len → Walk (on n t) m a b → Walk (on n t) k b a → Walk (among t live) k b a
  part zero m a b h v w = w
  part (suc k) m a b h v (c, r, w) = (
    c,
    (
      f (suc k + m) b (omega arith) (omega arith) (join (on n t) (suc k) m b a b (c, r, w) v),
      f (k + suc m) c (omega arith) (omega arith) (join (on n t) k (suc m) c a c w (snoc (on n t) m a b c v r)),
      r.2,
    ),
    part k (suc m) a c (omega arith) (snoc (on n t) m a b c v r) w,
  )

  pub walk_among : (k a : ℕ) → k < len → Walk (on n t) k a a → Walk (among t live) k a a
  walk_among k a h w = part k 0 a a (omega arith) refl w

module _ (t : List ℕ) (n : ℕ) (live : Set) (len s : ℕ) (p : Searching (on n t) n live len s) (x : ℕ) (f : Least (In live) x)
    (rest : Set) (i : Is rest (λ j. In live j × (j ≡ x → ⊥))) (r : Set) (l : Left (among t rest) r × ((a : ℕ) → In r a → In rest a)) where
  pub search_less : value r < value live
  search_less = subset_less live r (λ y q. (i.says y (l.1 y q)).0) x f.0 (λ q. (i.says x (l.1 x q)).1 refl)

  low : (b : ℕ) → In r b → b < n
  low b q = p.low b (i.says b (l.1 b q)).0

  -- below the new length no closed walk is at x: all are in the rest, and in what is left of it
  module _ (d : ℕ) (h : d ≤ len) (g : Reached (among t live) x d x → ⊥) where
    others : (j y : ℕ) → 0 < j → j < d → Walk (on n t) j y y → In rest y
    others j y a b w = i.has y (
      p.covers j y a (omega arith) w,
      λ (e : y ≡ x).
          let u : Walk (on n t) j x x = rw e at w in
          g (j, a, b, walk_among t n live len p.covers j x (omega arith) u),
    )

    covers : (j y : ℕ) → 0 < j → j < d → Walk (on n t) j y y → In r y
    covers zero y a b w = absurd (omega arith)
    covers (suc j) y a b w = l.0.covers j y (walk_among t n rest d others (suc j) y b w)

  pub search_better : (k : ℕ) → (0 < k) × (k < len) × Distance (among t live) k x x → Searching (on n t) n r k x
  search_better k (y, h, c) = record {
    positive = y;
    most = let q = p.most in omega arith;
    low = low;
    covers = covers k (omega arith) c.1;
    closed = λ q. walk_as (among t live) (on n t) (λ a b u. (p.low a u.0, p.low b u.1, u.2)) k x x c.0;
    least = λ q b l w. f.1 b l (p.covers k b y h w);
  }

  pub search_same : (Reached (among t live) x len x → ⊥) → Searching (on n t) n r len s
  search_same g = record {
    positive = p.positive;
    most = p.most;
    low = low;
    covers = covers len (omega arith) g;
    closed = p.closed;
    least = p.least;
  }

pub search_done : (R : Rel) (n : ℕ) → Below n R → Cyclic R → (live : Set) (len s : ℕ) → Searching R n live len s → (Member live → ⊥) → Shortest R len s
search_done R n below cyclic live len s p g = go (dec_lt n len)
  where
    none : (b : ℕ) → Reached R b len b → ⊥
    none b (j, y, z, w) = g (b, p.covers j b y z w)

    go : Dec (n < len) → Shortest R len s
    go (yes l) = absurd (too_long R n below cyclic len none l)
    go (no l) = record { positive = p.positive; closed = p.closed (omega arith); none = none; least = p.least (omega arith) }

pub left_none : (R : Rel) (live : Set) → Left R live → (Member live → ⊥) → Cyclic R → ⊥
left_none R live l g c = let (k, a, w) = cyclic_walk R c in g (a, l.covers k a w)
