-- The contract of `next` decides its result and every number of the list.
use Prim.Native.Nat.{ℕ}
use mathlib.Core.Path.{◌≡◌, sym, ◌∙◌}
use mathlib.Core.Bool.{Bool}
use mathlib.Core.Logic.{inl, inr}
use mathlib.Core.List.{List}
use Rattle.order.proofs.Dictionaries.{firstly_unique}
use Rattle.arrangements.specs.Arrangement.{Arranged, Behind, Next}

-- two results that it allows are one
pub next_unique : (l m m' : List ℕ) (r r' : Bool) → Next l m r → Next l m' r' → (m ≡ m') × (r ≡ r')
next_unique l m m' r r' (inl p) (inl q) = (firstly_unique (Behind l) m m' p.1 q.1, p.0 ∙ sym q.0)
next_unique l m m' r r' (inl p) (inr q) = absurd (q.1 m p.1.has)
next_unique l m m' r r' (inr p) (inl q) = absurd (p.1 m' q.1.has)
next_unique l m m' r r' (inr p) (inr q) = (firstly_unique (Arranged l) m m' p.2 q.2, p.0 ∙ sym q.0)
