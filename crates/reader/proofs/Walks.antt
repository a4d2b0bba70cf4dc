-- Going on from each entry to its end, a reader gives every entry, each once and in order, and then none: whatever the bytes.
-- Assumes nothing.
use Prim.Native.Nat.{ℕ, zero, suc, ◌+◌, ◌≤◌, ◌<◌}
use mathlib.Core.Path.{◌≡◌, refl, sym, ap, ap₂, ◌∙◌}
use mathlib.Core.List.{List, [], ◌∷◌, ◌++◌}
use mathlib.Core.Logic.{◌↔◌}
use native.Mathlib.Nat.{add-zero, zero-add, add_assoc, suc-mul, le_refl}
use native.Mathlib.Numerals.{add-one}
use native.Mathlib.Omega.{arith}
use lib.ListN.{length}
use Rattle.std.specs.Prelude.{Some, None, Ok, Err}
use Rattle.form.specs.Bytes.{num}
use Rattle.form.specs.Form.{width}
use Rattle.form.specs.Place.{start, count, entry_at, view_start}
use Rattle.form.specs.Whole.{whole}
use Rattle.form.specs.declared.Fault.{Fault}
use Rattle.form.proofs.Rights.{whole_well}
use Rattle.form.proofs.Starts.{start_more, view_start_next}
use Rattle.reader.specs.Entries.{Item, or_else, first_of, after, entry_of, view_of, entry_from, view_from, item_at, open_part}
use Rattle.reader.specs.Walk.{list_of, entries_of, sections_of, views_of, all_entries, Walks, Apart}
use Rattle.reader.proofs.Firsts.{passed, stays, open_right}
use Rattle.reader.proofs.Given.{refused_none}
use Rattle.reader.proofs.Spaced.{width_pos}

-- ---- what is given is the first of all entries at or after the place
unfoldable first_in : ℕ → List Item → Item
first_in at [] = None
first_in at (x ∷ l) = or_else (after at x) (first_in at l)

else_assoc : (x y z : Item) → or_else (or_else x y) z ≡ or_else x (or_else y z)
else_assoc (Some e) y z = refl
else_assoc None y z = refl

module _ (at : ℕ) where
  first_append : (l m : List Item) → first_in at (l ++ m) ≡ or_else (first_in at l) (first_in at m)
  unfolding first_in
  first_append [] m = refl
  first_append (x ∷ l) m = rw (first_append l m) (sym (else_assoc (after at x) (first_in at l) (first_in at m)))

  first_list : (f : ℕ → Item) (i m : ℕ) → first_in at (list_of f i m) ≡ first_of (λ j. after at (f j)) i m
  unfolding first_in list_of first_of
  first_list f i zero = refl
  first_list f i (suc m) = ap (or_else (after at (f i))) (first_list f (i + 1) m)

  module _ (s : List ℕ) where
    first_entries : (k : ℕ) → first_in at (entries_of s k) ≡ entry_from s at k
    unfolding entries_of entry_from
    first_entries k = first_list (entry_of s k) 0 (count s k)

    first_sections : (k m : ℕ) → first_in at (sections_of s k m) ≡ first_of (entry_from s at) k m
    unfolding first_in sections_of first_of
    first_sections k zero = refl
    first_sections k (suc m) = first_append (entries_of s k) (sections_of s (k + 1) m) ∙ ap₂ or_else (first_entries k) (first_sections (k + 1) m)

    first_views : first_in at (views_of s) ≡ view_from s at
    unfolding views_of view_from
    first_views = first_list (view_of s) 0 (num 1 s 1)

    first_all : first_in at (all_entries s) ≡ item_at s at
    unfolding all_entries item_at
    first_all = first_append (sections_of s 2 7) (views_of s) ∙ ap₂ or_else (first_sections 2 7) first_views

-- ---- the entries stand apart
apart_from : (a b : ℕ) (l : List Item) (c : ℕ) → a ≤ b → Apart b l c → Apart a l c
unfolding Apart
apart_from a b [] c h t = omega arith
apart_from a b (Some e ∷ l) c h t = let q = t.0 in (omega arith, t.1, t.2)
apart_from a b (None ∷ l) c h t = absurd t

apart_append : (a : ℕ) (l : List Item) (b : ℕ) (m : List Item) (c : ℕ) → Apart a l b → Apart b m c → Apart a (l ++ m) c
unfolding Apart
apart_append a [] b m c t u = apart_from a b m c t u
apart_append a (Some e ∷ l) b m c t u = (t.0, t.1, apart_append (e.at + e.len) l b m c t.2 u)
apart_append a (None ∷ l) b m c t u = absurd t

module _ (s : List ℕ) where
  views_first : start s 9 ≤ view_start s 0
  unfolding view_start
  views_first = omega arith

  entry_end : (k i : ℕ) → entry_at s k i + width k ≡ entry_at s k (i + 1)
  unfolding entry_at
  entry_end k i = simp (add-one, suc-mul, add_assoc)

  entries_from : (k i m : ℕ) → 0 < width k → Apart (entry_at s k i) (list_of (entry_of s k) i m) (entry_at s k (i + m))
  unfolding Apart list_of entry_of
  entries_from k i zero w = rw add-zero (le_refl _)
  entries_from k i (suc m) w =
      let e : i + suc m ≡ i + 1 + m = omega arith in
      rw (e, entry_end k i) (le_refl _, w, entries_from k (i + 1) m w)

  views_from : (p m : ℕ) → Apart (view_start s p) (list_of (view_of s) p m) (view_start s (p + m))
  unfolding Apart list_of view_of
  views_from p zero = rw add-zero (le_refl _)
  views_from p (suc m) =
      let e : p + suc m ≡ p + 1 + m = omega arith in
      let v : view_start s p + (2 + num 2 s (view_start s p)) ≡ view_start s (p + 1) = let n = view_start_next s p in omega arith in
      rw (e, v) (le_refl _, (omega arith), views_from (p + 1) m)

  section_first : (k : ℕ) → start s k ≤ entry_at s k 0
  unfolding entry_at
  section_first k = omega arith

  section_last : (k : ℕ) → 2 ≤ k → entry_at s k (0 + count s k) ≡ start s (k + 1)
  unfolding entry_at count
  section_last k h = rw zero-add (sym (start_more s k h))

  entries_apart : (k : ℕ) → 2 ≤ k → k < 9 → Apart (start s k) (entries_of s k) (start s (k + 1))
  unfolding entries_of
  entries_apart k h g = apart_from _ _ _ _ (section_first k) (rw (section_last k h) at (entries_from k 0 (count s k) (width_pos k h g)))

  sections_apart : (k m : ℕ) → 2 ≤ k → k + m ≤ 9 → Apart (start s k) (sections_of s k m) (start s (k + m))
  unfolding sections_of Apart
  sections_apart k zero h g = rw add-zero (le_refl _)
  sections_apart k (suc m) h g =
      let e : k + suc m ≡ k + 1 + m = omega arith in
      rw e (apart_append _ (entries_of s k) _ _ _ (entries_apart k h (omega arith)) (sections_apart (k + 1) m (omega arith) (omega arith)))

  views_apart : Apart (start s 9) (views_of s) (view_start s (num 1 s 1))
  unfolding views_of
  views_apart = apart_from _ _ _ _ views_first (rw (zero-add (num 1 s 1)) at (views_from 0 (num 1 s 1)))

  -- whatever the bytes
  pub all_apart : Apart 0 (all_entries s) (view_start s (num 1 s 1))
  unfolding all_entries
  all_apart = apart_from 0 (start s 2) _ _ (omega arith) (apart_append _ _ _ _ _ (sections_apart 2 7 (omega arith) (omega arith)) views_apart)

  -- ---- the walk
  -- from the end of the entries before it on, what is given is the first of the list: then the list is walked
  walk : (at : ℕ) (l : List Item) (end : ℕ) → Apart at l end → ((x : ℕ) → at ≤ x → first_in x l ≡ item_at s x) → Walks s at l
  unfolding Apart Walks first_in
  walk at [] end t g = sym (g at (le_refl _))
  walk at (Some e ∷ l) end t g =
      let (a, b, c) = t in
      let q : Some e ≡ item_at s at = rw (stays at e a) at (g at (le_refl _)) in
      (sym q, walk (e.at + e.len) l end c (λ x h. rw (passed x e (omega arith)) at (g x (omega arith))))
  walk at (None ∷ l) end t g = absurd t

  -- a reader gives every entry, each once and in order, and then none
  pub walk_all : Walks s 0 (all_entries s)
  walk_all = walk 0 (all_entries s) _ all_apart (λ x h. first_all x s)

  -- two walks from one place are one
  walk_one : (at : ℕ) (l m : List Item) → Walks s at l → Walks s at m → l ≡ m
  unfolding Walks
  walk_one at [] [] t u = refl
  walk_one at [] (Some e ∷ m) t u = let (a, b) = u in cc
  walk_one at (Some e ∷ l) [] t u = let (a, b) = t in cc
  walk_one at (Some e ∷ l) (Some f ∷ m) t u =
      let z : Some e ≡ Some f = sym t.0 ∙ u.0 in
      let q : e ≡ f = cc in
      ap₂ ◌∷◌ z (walk_one (f.at + f.len) l m (rw q at t.1) u.1)
  walk_one at (None ∷ l) m t u = absurd t
  walk_one at [] (None ∷ m) t u = absurd u
  walk_one at (Some e ∷ l) (None ∷ m) t u = absurd u

  -- and nothing else
  pub walk_only : (l : List Item) → Walks s 0 l → l ≡ all_entries s
  walk_only l t = walk_one 0 l (all_entries s) t walk_all

-- ---- as opening hands the bytes on
module _ (s : List ℕ) where
  -- of a record that has the form: every entry, and nothing else
  pub walk_right : (z : ℕ) → whole s ≡ Ok z → (l : List Item) → Walks (open_part s) 0 l ↔ (l ≡ all_entries s)
  walk_right z e l = rw (← (open_right s z e).1) (walk_only s l, λ q. rw q (walk_all s))

  -- of a refused one: none
  pub walk_refused : (f : Fault) → whole s ≡ Err f → (l : List Item) → Walks (open_part s) 0 l ↔ (l ≡ [])
  unfolding Walks
  walk_refused f e l = let n = refused_none s f e 0 in (λ t. walk_one (open_part s) 0 l [] t n, λ q. rw q n)

  -- the entries of a record that has the form stand in it, none over another
  pub right_apart : (z : ℕ) → whole s ≡ Ok z → Apart 0 (all_entries s) (length s)
  right_apart z e = rw (whole_well s z e).ends at (all_apart s)
