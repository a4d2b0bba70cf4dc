-- Bytes that are written behind one another, or one part ahead of the other, are written together.
use Prim.Native.Nat.{ℕ, suc, ◌+◌, ◌<◌, ◌≤◌}
use mathlib.Core.Path.{◌≡◌, refl, sym, ap, ◌∙◌}
use mathlib.Core.List.{List, [], ◌∷◌, ◌++◌, append_assoc}
use native.Mathlib.Omega.{arith}
use native.Mathlib.Nat.{add-zero, zero-add}
use lib.ListN.{length, take, drop, set, get_or, length-append, length-drop, take-append-drop}
use lib.Seq.{length-take-le, drop-cons, set_at, take_at, drop_at, take-append-le, take-take, drop-drop}
use Rattle.order.specs.Evidence.{Written}
use Rattle.lent.specs.Put.{Put, PutTo}

pub put_nothing : (b : List ℕ) (at : ℕ) → at ≤ length b → Put b at [] b
put_nothing b at h = record { fits = omega arith; is = rw add-zero (sym (take-append-drop at b)) }

-- what stands before the end of the bytes, and what from there on
module _ (b m w : List ℕ) (at : ℕ) (p : Put b at w m) where
  front_length : length (take at b) ≡ at
  front_length = let h = p.fits in length-take-le at b (omega arith)

  upto_length : length (take at b ++ w) ≡ at + length w
  upto_length = length-append (take at b) w ∙ ap (λ (n : ℕ). n + length w) front_length

  split : m ≡ (take at b ++ w) ++ drop (at + length w) b
  split = p.is ∙ sym (append_assoc (take at b) w (drop (at + length w) b))

  pub put_length : length m ≡ length b
  put_length =
      let h = p.fits in
      let e = upto_length in
      let l = length-append (take at b ++ w) (drop (at + length w) b) in
      let d = length-drop (at + length w) b in
      let n = ap length split in
      omega arith

pub put_next : (b m w : List ℕ) (at to x : ℕ) → Put b at w m → to ≡ at + length w → to < length b → Put b at (w ++ x ∷ []) (set m to x)
put_next b m w at to x p e h =
    let n : at + length (w ++ x ∷ []) ≡ suc to = omega (arith, length-append w (x ∷ [])) in
    let r : drop (at + length w) b ≡ get_or b to 0 ∷ drop (suc to) b = rw (sym e) (drop-cons b to 0 h) in
    record {
      fits = omega arith;
      is =
          rw (n, split b m w at p, r, set_at (take at b ++ w) (get_or b to 0) (drop (suc to) b) x to (upto_length b m w at p ∙ sym e))
          (simp append_assoc);
    }

pub put_then : (b m c x y : List ℕ) (at z : ℕ) → Put b at x m → Put m z y c → z ≡ at + length x → Put b at (x ++ y) c
put_then b m c x y at z p q e =
    let n : at + length (x ++ y) ≡ z + length y = omega (arith, length-append x y) in
    let s = put_length b m x at p in
    let h = q.fits in
    let l = upto_length b m x at p ∙ sym e in
    let front : take z m ≡ take at b ++ x = rw (split b m x at p) (take_at (take at b ++ x) (drop (at + length x) b) z l) in
    let back : drop z m ≡ drop z b = rw (split b m x at p, sym e) (drop_at (take at b ++ x) (drop z b) z l) in
    let rest : drop (z + length y) m ≡ drop (z + length y) b = sym (drop-drop (length y) z m) ∙ ap (drop (length y)) back ∙ drop-drop (length y) z b in
    record { fits = omega arith; is = rw (n, q.is, front, rest) (simp append_assoc) }

-- the count is written last
pub put_ahead : (b m c x y : List ℕ) (at z : ℕ) → Put b z x m → Put m at y c → z ≡ at + length y → Put b at (y ++ x) c
put_ahead b m c x y at z p q e =
    let n : at + length (y ++ x) ≡ z + length x = omega (arith, length-append y x) in
    let h = p.fits in
    let l = front_length b m x z p in
    let a : at ≤ z = omega arith in
    let front : take at m ≡ take at b =
    rw p.is (take-append-le at (take z b) (x ++ drop (z + length x) b) (omega arith) ∙ take-take at z b a) in
    let rest : drop (at + length y) m ≡ x ++ drop (z + length x) b = rw (sym e, p.is) (drop_at (take z b) (x ++ drop (z + length x) b) z l) in
    record { fits = omega arith; is = rw (n, q.is, front, rest) (simp append_assoc) }

pub put_written : (b m w : List ℕ) → Put b 0 w m → Written w b m (length w)
put_written b m w p = (refl, rw zero-add at p.is)

pub to_written : (b m w : List ℕ) (z : ℕ) → PutTo b 0 w m z → Written w b m z
to_written b m w z (p, e) = let i : z ≡ length w = omega arith in rw i (put_written b m w p)
