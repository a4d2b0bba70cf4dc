-- Where sections 6 to 9 of the record that is read off stand, and that they say what was written.
use Prim.Native.Nat.{ℕ, zero, suc, ◌+◌, ◌*◌, ◌<◌, ◌≤◌}
use mathlib.Core.Path.{◌≡◌, refl, sym, ap, ◌∙◌, subst}
use mathlib.Core.Logic.{◌⊎◌, inl, inr}
use mathlib.Core.List.{List, [], ◌++◌, append_assoc, append-nil}
use native.Mathlib.Omega.{arith}
use native.Mathlib.Decide.{dec_lt}
use native.Mathlib.Nat.{mul-one}
use lib.ListN.{length, get_or, length-append}
use Rattle.form.specs.Bytes.{num, two_bytes, counted}
use Rattle.form.specs.Form.{width}
use Rattle.form.specs.Place.{start, count, entry_at, view_start, counts}
use Rattle.form.specs.Right.{Block}
use Rattle.form.proofs.Starts.{start_more, view_start_next}
use Rattle.record.specs.Execution.{Items, Pair, Execution}
use Rattle.record.specs.Formed.{Each, Formed}
use Rattle.record.specs.Says.{pair_at, entries_of, execution_of}
use Rattle.model.specs.Agree.{Alike}
use Rattle.sequences.specs.Sequence.{steps, items_of}
use Rattle.sequences.specs.ReadOff.{stores_of, locks_from, sources_from, view_of, read_off}
use Rattle.readoff.specs.Bytes.{pairs, views, witness}
use Rattle.readoff.proofs.Blocks.{count_back, counted_item, counted_block, locks_block, none, pairs_length, pairs_block, pairs_item}

-- b is what r has from `at` on
abbrev Rest : List ℕ → ℕ → List ℕ → Type 0
Rest r at b = (a : List ℕ) × (r ≡ a ++ b) × (at ≡ length a)

module _ (r : List ℕ) (at : ℕ) where
  rest_next : (b w : List ℕ) (to : ℕ) → to ≡ at + length b → Rest r at (b ++ w) → Rest r to w
  rest_next b w to g (a, e, f) = (a ++ b, e ∙ sym (append_assoc a b w), omega (arith, length-append a b))

  rest_end : (b : List ℕ) → Rest r at b → at + length b ≡ length r
  rest_end b (a, e, f) = ap (λ (x : ℕ). x + length b) f ∙ sym (length-append a b) ∙ ap length (sym e)

  -- what holds wherever b stands
  here : (P : List ℕ → ℕ → Type 0) (b : List ℕ) → Rest r at b → ((a : List ℕ) → P (a ++ b) (length a)) → P r at
  here P b (a, e, f) g = subst (λ (s : List ℕ). P s at) (sym e) (subst (λ (x : ℕ). P (a ++ b) x) (sym f) (g a))

  count_here : (n : ℕ) (w : List ℕ) → n ≤ 64 → Rest r at (two_bytes n ++ w) → num 2 r at ≡ n
  count_here n w g h = here (λ s x. num 2 s x ≡ n) (two_bytes n ++ w) h (λ a. count_back a w n (omega arith))

  -- a count with its entries, where an entry is read back
  written_alike : {A : Type 0} (d : A) (l : List A) (b w : List ℕ) (read : List ℕ → ℕ → ℕ → A) → length l ≤ 64
      → Rest r at ((two_bytes (length l) ++ b) ++ w)
      → ((a : List ℕ) (i : ℕ) → i < length l → read (a ++ ((two_bytes (length l) ++ b) ++ w)) (length a) i ≡ get_or l i d)
      → Alike (record { size = num 2 r at; item = read r at }) (items_of d l)
  written_alike {A} d l b w read g h f = record { size = e; item = λ i q. item i (subst (λ (n : ℕ). i < n) e q) }
    where
      e : num 2 r at ≡ length l
      e = count_here (length l) (b ++ w) g h

      item : (i : ℕ) → i < length l → read r at i ≡ get_or l i d
      item i q = here (λ s x. read s x i ≡ get_or l i d) ((two_bytes (length l) ++ b) ++ w) h (λ a. f a i q)

  numbers_alike : (l w : List ℕ) → length l ≤ 64 → Rest r at (counted l ++ w)
      → Alike (record { size = num 2 r at; item = λ i. num 1 r (at + 2 + i) }) (steps l)
  numbers_alike l w g h = written_alike 0 l l w (λ s x i. num 1 s (x + 2 + i)) g h (λ a i q. counted_item a l w i q)

-- where the next section starts
start_next : (r : List ℕ) (k n : ℕ) (w : List ℕ) → 2 ≤ k → n ≤ 64 → Rest r (start r k) (two_bytes n ++ w) → start r (k + 1) ≡ start r k + 2 + n * width k
start_next r k n w h g q = rw (count_here r (start r k) n w g q) at (start_more r k h)

-- one-byte entries, by their place
ones_alike : (r : List ℕ) (k : ℕ) (m : Items ℕ) → width k ≡ 1
    → Alike (record { size = num 2 r (start r k); item = λ i. num 1 r (start r k + 2 + i) }) m → Alike (entries_of r k (num 1 r)) m
unfolding count entry_at
ones_alike r k m e h = record { size = h.size; item = λ i d. rw (e, mul-one) (h.item i d) }

-- the views of the first m processors come first, then that of processor m
views_first : (z : Execution) (l : List ℕ) (m p : ℕ) → m ≤ p → (w : List ℕ) × (views z l p ≡ views z l m ++ w)
unfolding views
views_first z l m zero h = let e : m ≡ 0 = omega arith in ([], rw e)
views_first z l m (suc p) h = go (dec_lt m (suc p)) (λ g. views_first z l m p g)
  where
    go : Dec (m < suc p) → (m ≤ p → (w : List ℕ) × (views z l p ≡ views z l m ++ w)) → (w : List ℕ) × (views z l (suc p) ≡ views z l m ++ w)
    go (yes d) ih = let (w, e) = ih (omega arith) in (w ++ counted (view_of z p l), rw e (append_assoc (views z l m) w _))
    go (no d) ih = let e : m ≡ suc p = omega arith in ([], rw e (sym (append-nil _)))

views_next : (z : Execution) (l : List ℕ) (m p : ℕ) → m < p → (w : List ℕ) × (views z l p ≡ views z l m ++ (counted (view_of z m l) ++ w))
unfolding views
views_next z l m p h = let (w, e) = views_first z l (suc m) p h in (w, e ∙ append_assoc (views z l m) (counted (view_of z m l)) w)

-- what stands from each section on
module _ (z : Execution) (l : List ℕ) where
  abbrev from_views : List ℕ
  from_views = two_bytes z.processors ++ views z l z.processors

  abbrev from_sources : List ℕ
  from_sources = (two_bytes (length (sources_from z [] l)) ++ pairs (sources_from z [] l)) ++ from_views

  abbrev from_locks : List ℕ
  from_locks = counted (locks_from z [] l) ++ from_sources

module _ (z : Execution) (l : List ℕ) (f : Formed (read_off z l)) (a r : List ℕ) (is : r ≡ a ++ witness z l) (six : start r 6 ≡ length a) where
  abbrev stores : List ℕ
  stores = stores_of z l

  abbrev locks : List ℕ
  locks = locks_from z [] l

  abbrev sources : List Pair
  sources = sources_from z [] l

  few_locks : length locks ≤ 64
  few_locks = let h = f.lock_order.within in omega arith

  -- ---- where they stand
  rest_6 : Rest r (start r 6) (counted (stores_of z l) ++ from_locks z l)
  rest_6 = (a, is, six)

  start_7 : start r 7 ≡ start r 6 + 2 + length (stores_of z l)
  unfolding width
  start_7 = let e = start_next r 6 (length stores) _ (omega arith) f.stores.within rest_6 in omega arith

  rest_7 : Rest r (start r 7) (counted (locks_from z [] l) ++ from_sources z l)
  rest_7 = rest_next r (start r 6) (counted stores) (from_locks z l) (start r 7) (omega (arith, start_7)) rest_6

  start_8 : start r 8 ≡ start r 7 + 2 + length (locks_from z [] l)
  unfolding width
  start_8 = let e = start_next r 7 (length locks) _ (omega arith) few_locks rest_7 in omega arith

  rest_8 : Rest r (start r 8) ((two_bytes (length (sources_from z [] l)) ++ pairs (sources_from z [] l)) ++ from_views z l)
  rest_8 = rest_next r (start r 7) (counted locks) (from_sources z l) (start r 8) (omega (arith, start_8)) rest_7

  start_9 : start r 9 ≡ start r 8 + 2 + 2 * length (sources_from z [] l)
  unfolding width
  start_9 = let e = start_next r 8 (length sources) _ (omega arith) f.sources.within rest_8 in omega arith

  rest_9 : Rest r (start r 9) (two_bytes z.processors ++ views z l z.processors)
  rest_9 =
      rest_next r (start r 8) (two_bytes (length sources) ++ pairs sources) (from_views z l) (start r 9) (omega (arith, start_9, pairs_length sources))
      rest_8

  pub views_count : num 2 r (start r 9) ≡ z.processors
  views_count = count_here r (start r 9) z.processors _ (let h = f.processors in omega arith) rest_9

  rest_views : Rest r (start r 9 + 2) (views z l z.processors)
  rest_views = rest_next r (start r 9) (two_bytes z.processors) (views z l z.processors) (start r 9 + 2) refl rest_9

  view_from : (m : ℕ) → m < z.processors → view_start r m ≡ start r 9 + 2 + length (views z l m)
      → (w : List ℕ) × Rest r (view_start r m) (counted (view_of z m l) ++ w)
  view_from m h e =
      let (w, q) = views_next z l m z.processors h in
      (w, rest_next r (start r 9 + 2) (views z l m) (counted (view_of z m l) ++ w) (view_start r m) e (rw q at rest_views))

  view_place : (m : ℕ) → m ≤ z.processors → view_start r m ≡ start r 9 + 2 + length (views z l m)
  unfolding view_start views width
  view_place zero h = omega arith
  view_place (suc m) h =
      let e = view_place m (omega arith) in
      let (w, q) = view_from m h e in
      let n = count_here r (view_start r m) (length (view_of z m l)) (view_of z m l ++ w) (f.view m h).within q in
      let g = length-append (views z l m) (counted (view_of z m l)) in
      omega arith

  view_rest : (m : ℕ) → m < z.processors → (w : List ℕ) × Rest r (view_start r m) (counted (view_of z m l) ++ w)
  view_rest m h = view_from m h (view_place m (omega arith))

  pub views_end : view_start r z.processors ≡ length r
  views_end = view_place z.processors (omega arith) ∙ rest_end r (start r 9 + 2) (views z l z.processors) rest_views

  -- ---- they say what was written
  pub stores_alike : Alike (execution_of r).stores (read_off z l).stores
  unfolding width
  stores_alike = ones_alike r 6 _ refl (numbers_alike r (start r 6) stores _ f.stores.within rest_6)

  pub locks_alike : Alike (execution_of r).lock_order (read_off z l).lock_order
  unfolding width
  locks_alike = ones_alike r 7 _ refl (numbers_alike r (start r 7) locks _ few_locks rest_7)

  pub sources_alike : Alike (execution_of r).sources (read_off z l).sources
  unfolding count entry_at width
  sources_alike =
      written_alike r (start r 8) none sources (pairs sources) (from_views z l) (λ s x i. pair_at s (x + 2 + i * 2)) f.sources.within rest_8
      (λ b i h. pairs_item b (from_views z l) sources i h)

  pub view_alike : (m : ℕ) → m < z.processors → Alike ((execution_of r).view m) ((read_off z l).view m)
  view_alike m h = let (w, q) = view_rest m h in numbers_alike r (view_start r m) (view_of z m l) w (f.view m h).within q

  -- ---- and have the form
  module _ (same_events : (counts r).events ≡ z.events.size) (same_locks : (counts r).locks ≡ z.locks.size) where
    -- events, in section 6 and in a view
    events_right : (k : ℕ) → (k ≡ 6) ⊎ (k ≡ 9) → (at to : ℕ) (b w : List ℕ) → to ≡ at + 2 + length b → Rest r at (counted b ++ w)
        → Each 64 (λ e. e < z.events.size) (steps b) → Block (counts r) r k at to
    events_right k d at to b w e q g =
        rw e (here r at (λ s x. Block (counts r) s k x (x + 2 + length b)) (counted b ++ w) q
        (λ c. counted_block (counts r) k d c b w g.within (λ i h. rw same_events (g.each i h))))

    pub stores_right : Block (counts r) r 6 (start r 6) (start r 7)
    stores_right = events_right 6 (inl refl) (start r 6) (start r 7) stores (from_locks z l) start_7 rest_6 f.stores

    pub locks_right : Block (counts r) r 7 (start r 7) (start r 8)
    locks_right =
        rw start_8 (here r (start r 7) (λ s x. Block (counts r) s 7 x (x + 2 + length locks)) (from_locks z l) rest_7
        (λ b. locks_block (counts r) b locks (from_sources z l) f.lock_order.within (λ i h. rw same_locks (f.lock_order.each i h))))

    pub sources_right : Block (counts r) r 8 (start r 8) (start r 9)
    sources_right =
        rw start_9 (here r (start r 8) (λ s x. Block (counts r) s 8 x (x + 2 + 2 * length sources)) (from_sources z l) rest_8
        (λ b. pairs_block (counts r) b (from_views z l) sources f.sources.within (λ i h. rw same_events (f.sources.each i h))))

    pub view_right : (m : ℕ) → m < z.processors → Block (counts r) r 9 (view_start r m) (view_start r (m + 1))
    view_right m h =
        let (w, q) = view_rest m h in
        events_right 9 (inr refl) (view_start r m) (view_start r (m + 1)) (view_of z m l) w
        (view_start_next r m ∙ ap (λ (n : ℕ). view_start r m + 2 + n) (view_alike m h).size) q (f.view m h)
