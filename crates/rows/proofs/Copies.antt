-- The front of a list, replaced entry by entry.
use Prim.Native.Nat.{ℕ, zero, suc, ◌+◌, ◌<◌}
use mathlib.Core.Path.{◌≡◌, refl, ap}
use mathlib.Core.List.{List, [], ◌∷◌, ◌++◌}
use native.Mathlib.Omega.{arith}
use native.Mathlib.Numerals.{add-one}
use lib.ListN.{length, take, drop, set, get_or}

next : (s t : List ℕ) (a : ℕ) → a < length s → a < length t → set (take a s ++ drop a t) a (get_or s a 0) ≡ take (suc a) s ++ drop (suc a) t
next [] t a h g = absurd (omega arith)
next (x ∷ s) [] a h g = absurd (omega arith)
next (x ∷ s) (y ∷ t) zero h g = refl
next (x ∷ s) (y ∷ t) (suc a) h g = ap (λ (l : List ℕ). x ∷ l) (next s t a (omega arith) (omega arith))

pub copy_next : (s t u : List ℕ) (a : ℕ) → a < length s → a < length t → u ≡ take a s ++ drop a t → set u a (get_or s a 0) ≡ take (a + 1) s ++ drop (a + 1) t
copy_next s t u a h g e = rw (e, add-one a) (next s t a h g)
