-- Rule 12: the events that a register event is unordered with.
use Prim.Native.Nat.{ℕ, ◌+◌, ◌<◌, ◌≤◌}
use mathlib.Core.Path.{◌≡◌, refl}
use mathlib.Core.Logic.{◌⊎◌, inl, inr}
use mathlib.Core.List.{List}
use native.Mathlib.Omega.{arith}
use native.Mathlib.Decide.{dec_lt}
use Rattle.order.specs.Decides.{Decides}
use Rattle.std.specs.Prelude.{Option, Some, None, is_some, IsSome}
use Rattle.order.specs.Least.{Found}
use Rattle.order.specs.Rule.{Any}
use Rattle.rows.specs.Members.{In, Is}
use Rattle.rows.specs.Table.{rel}
use Rattle.rows.specs.declared.Set.{Set}
use Rattle.record.specs.Execution.{Execution}
use Rattle.structure.specs.Held.{Held}
use Rattle.record.specs.Words.{Register, SameRegister, SamePlace, Causes}
use Rattle.facts.specs.Facts.{Placed}
use Rattle.structure.specs.Structure.{Unordered}
use Rattle.record.specs.declared.Event.{Event}

-- who is in `near` may be a partner of a, and every partner is there
pub record Partners (z : Execution) (a : ℕ) (near : Set) : Type 0 where
  pub above : (b : ℕ) → In near b → a < b
  pub low : (b : ℕ) → In near b → b < z.events.size
  pub at : (b : ℕ) → In near b → SameRegister (z.events.item a) (z.events.item b)
  pub free : (b : ℕ) → In near b → Causes z a b → ⊥
  pub all : (b : ℕ) → Unordered z a b → In near b

module _ (z : Execution) (a : ℕ) where
  module _ (t q : List ℕ) (held : Held z t) (placed : Placed z q) (ra : Register (z.events.item a))
      (at low above row near : Set) (iq : Is at (rel q a)) (il : Is low (λ k. k < a + 1)) (n : Is above (λ k. In at k × (In low k → ⊥)))
      (ir : Is row (rel t a)) (f : Is near (λ k. In above k × (In row k → ⊥))) where
    pub partners_begin : Partners z a near
    unfolding Unordered
    partners_begin = record {
      above = λ b m. higher b (n.says b (f.says b m).0).1 (dec_lt a b);
      low = λ b m. (there b m).1;
      at = λ b m. register (there b m).2;
      free = λ b m q. (f.says b m).1 (ir.has b ((held.pairs a b).1 q));
      all = λ b (l, h, u, v, w, x, y). f.has b (
        n.has b (iq.has b ((placed.pairs a b).1 (omega arith, h, inr v)), λ k. let g = il.says b k in omega arith),
        λ k. x ((held.pairs a b).0 (ir.says b k)),
      );
    }
      where
        there : (b : ℕ) → In near b → (a < z.events.size) × (b < z.events.size) × SamePlace (z.events.item a) (z.events.item b)
        there b m = (placed.pairs a b).0 (iq.says b (n.says b (f.says b m).0).0)

        register : {b : ℕ} → SamePlace (z.events.item a) (z.events.item b) → SameRegister (z.events.item a) (z.events.item b)
        register (inl s) = let g = s.0 in absurd (omega arith)
        register (inr s) = s

        higher : (b : ℕ) → (In low b → ⊥) → Dec (a < b) → a < b
        higher b g (yes l) = l
        higher b g (no l) = absurd (g (il.has b (omega arith)))

-- whether b is a partner of a, whose events were read as y and x
module _ (z : Execution) (t : List ℕ) (held : Held z t) (a b : ℕ) (x y : Event) (ex : x ≡ z.events.item a) (ey : y ≡ z.events.item b) where
  pub partner_is : (near : Set) → Partners z a near → In near b → x.index ≡ y.index → (x.kind ≡ 3) ⊎ (y.kind ≡ 3) → (rel t b a → ⊥) → Unordered z a b
  unfolding Unordered
  partner_is near p m e w g =
      (p.above b m, p.low b m, ((p.at b m).1.1.0, rw (ex, ey) at e), p.at b m, rw (ex, ey) at w, p.free b m, λ q. g ((held.pairs b a).1 q))

  pub partner_told : Unordered z a b → (x.index ≡ y.index) × ((x.kind ≡ 3) ⊎ (y.kind ≡ 3)) × (rel t b a → ⊥)
  unfolding Unordered
  partner_told (l, h, u, v, w, f, g) = rw (ex, ey) (u.1, w, (λ q. g ((held.pairs b a).0 q)))

-- ---- the first of the two

module _ (z : Execution) where
  -- who has a partner is a register event
  pub first_register : (registers : Set) → Is registers (λ e. (e < z.events.size) × Register (z.events.item e))
      → (a : ℕ) → Any 1 (Unordered z a) → In registers a
  unfolding Unordered
  first_register registers i a (b, (l, h, u, v, w, x, y)) = i.has a (omega arith, v.0)

  -- b is below 64
  pub partner_low : z.events.size ≤ 64 → (a b : ℕ) → Unordered z a b → b < 64
  unfolding Unordered
  partner_low n a b q = let h = q.1 in omega arith

  -- whether a has a partner
  module _ (n : z.events.size ≤ 64) (a : ℕ) where
    pub partner_decided : (r : Option ℕ) → Found 64 (Unordered z a) r → Decides (is_some r) (Any 1 (Unordered z a))
    partner_decided (Some b) f = record { holds = λ e. (b, f.1.0); fails = λ e q. cc }
    partner_decided None f = record { holds = λ e. cc; fails = λ e (b, q). f b (partner_low n a b q) q }

    pub partner_found : (r : Option ℕ) → Found 64 (Unordered z a) r → Any 1 (Unordered z a) → IsSome r
    partner_found (Some b) f q = refl
    partner_found None f (b, q) = absurd (f b (partner_low n a b q) q)
