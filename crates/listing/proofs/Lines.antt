-- The lines of a listing: the text in the order in which it is written, how long it is at most, and one line more.
use Prim.Native.Nat.{ℕ, suc, ◌+◌, ◌*◌, ◌<◌, ◌≤◌}
use mathlib.Core.Path.{◌≡◌, refl, ap, ◌∙◌}
use mathlib.Core.Logic.{⊎_elim}
use mathlib.Core.List.{List, [], ◌∷◌, ◌++◌, append_assoc, append-nil}
use native.Mathlib.Omega.{arith}
use lib.ListN.{length, get_or, length-append, get_or-append}
use lib.Seq.{ext_get_or, get_or_at}
use Rattle.order.specs.Least.{Counted}
use Rattle.order.proofs.Numbers.{last_or, counted_unique}
use Rattle.rows.specs.Table.{rel}
use Rattle.lent.specs.Put.{PutTo}
use Rattle.lent.proofs.Puts.{put_nothing, put_length}
use Rattle.listing.specs.Text.{answer, evidence, event, decimal, spaced, line}
use Rattle.listing.specs.Listing.{verdict, event_lines}
use Rattle.listing.proofs.Texts.{decimal_length, spaced_length, Room, to_then}

pub verdict_parts : (a : ℕ) (e : List ℕ) → verdict a e ≡ answer ++ ((32 ∷ decimal a) ++ ((10 ∷ evidence) ++ (spaced e ++ (10 ∷ []))))
unfolding verdict line spaced
verdict_parts a e = simp append_assoc

pub verdict_length : (a : ℕ) (e : List ℕ) → length (verdict a e) ≤ 22 + 6 * length e
verdict_length a e =
    let n = ap length (verdict_parts a e) in
    omega (
      arith,
      length-append (32 ∷ decimal a) ((10 ∷ evidence) ++ (spaced e ++ (10 ∷ []))),
      length-append (spaced e) (10 ∷ []),
      decimal_length a,
      spaced_length e,
    )

event_parts : (e c : ℕ) → line event (e ∷ c ∷ []) ≡ event ++ ((32 ∷ decimal e) ++ ((32 ∷ decimal c) ++ (10 ∷ [])))
unfolding line spaced
event_parts e c = simp append_assoc

event_length : (e c : ℕ) → length (line event (e ∷ c ∷ [])) ≤ 18
event_length e c =
    let n = ap length (event_parts e c) in
    omega (
      arith,
      length-append (32 ∷ decimal e) ((32 ∷ decimal c) ++ (10 ∷ [])),
      length-append (32 ∷ decimal c) (10 ∷ []),
      decimal_length e,
      decimal_length c,
    )

lines_length : (e : ℕ) (cs : List ℕ) → length (event_lines e cs) ≤ 18 * length cs
unfolding event_lines
lines_length e [] = omega arith
lines_length e (c ∷ cs) = omega (arith, length-append (line event (e ∷ c ∷ [])) (event_lines (suc e) cs), event_length e c, lines_length (suc e) cs)

lines_more : (e k c : ℕ) (cs : List ℕ) → e + length cs ≡ k → event_lines e (cs ++ c ∷ []) ≡ event_lines e cs ++ line event (k ∷ c ∷ [])
unfolding event_lines
lines_more e k c [] h = let i : e ≡ k = omega arith in rw i (append-nil (line event (k ∷ c ∷ [])))
lines_more e k c (d ∷ cs) h = rw (lines_more (suc e) k c cs (omega arith)) (simp append_assoc)

-- the lines of the events below e of the table t are written
pub record Eventing (t b : List ℕ) (at : ℕ) (m : List ℕ) (z e : ℕ) : Type 0 where
  pub counts : List ℕ
  pub many : length counts ≡ e
  pub each : (j : ℕ) → j < e → Counted 64 (rel t j) (get_or counts j 0)
  pub put : PutTo b at (event_lines 0 counts) m z

pub eventing_none : (t b : List ℕ) (at : ℕ) → at ≤ length b → Eventing t b at b at 0
unfolding event_lines
eventing_none t b at h = record { counts = []; many = refl; each = λ j l. absurd (omega arith); put = (put_nothing b at h, omega arith) }

module _ (t b m : List ℕ) (at z e : ℕ) (v : Eventing t b at m z e) where
  pub eventing_room : Room b at (18 * e) m z
  eventing_room =
      let (p, i) = v.put in
      let n = v.many in
      record { upto = omega (arith, lines_length 0 v.counts); same = put_length b m (event_lines 0 v.counts) at p }

  each_more : (c : ℕ) → Counted 64 (rel t e) c → (j : ℕ) → j < e + 1 → Counted 64 (rel t j) (get_or (v.counts ++ c ∷ []) j 0)
  each_more c k j h =
      ⊎_elim
      (λ (i : j ≡ e). rw (i, get_or_at v.counts c [] 0 e v.many) k)
      (λ (l : j < e). let n = v.many in rw (get_or-append v.counts (c ∷ []) 0 j (omega arith)) (v.each j l))
      (last_or e j (omega arith))

  pub eventing_more : (c : ℕ) → Counted 64 (rel t e) c → (w x y o : List ℕ) (f g h i : ℕ)
      → PutTo m z event w f → PutTo w f (32 ∷ decimal e) x g → PutTo x g (32 ∷ decimal c) y h → PutTo y h (10 ∷ []) o i → Eventing t b at o i (e + 1)
  eventing_more c k w x y o f g h i p q r s =
      let n = v.many in
      record {
        counts = v.counts ++ c ∷ [];
        many = omega (arith, length-append v.counts (c ∷ []));
        each = each_more c k;
        put =
            rw (lines_more 0 e c v.counts (omega arith), event_parts e c)
            (to_then b m o _ _ at z i v.put (to_then m w o _ _ z f i p (to_then w x o _ _ f g i q (to_then x y o _ _ g h i r s))));
      }

  pub eventing_done : (cs : List ℕ) → e ≡ length cs → ((j : ℕ) → j < e → Counted 64 (rel t j) (get_or cs j 0)) → PutTo b at (event_lines 0 cs) m z
  eventing_done cs n f =
      let k = v.many in
      let i : v.counts ≡ cs =
      ext_get_or 0 v.counts cs (k ∙ n) (λ j l. counted_unique 64 (rel t j) _ _ (v.each j (omega arith)) (f j (omega arith))) in
      rw i at v.put
