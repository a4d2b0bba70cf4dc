-- Sections 0 to 5 of a record read the same, whatever stands behind them.
use Prim.Native.Nat.{ℕ, zero, suc, ◌+◌, ◌-◌, ◌*◌, ◌<◌, ◌≤◌}
use mathlib.Core.Path.{◌≡◌, refl, ap, ap₂, ◌∙◌}
use mathlib.Core.List.{List, ◌++◌}
use native.Mathlib.Omega.{arith}
use native.Mathlib.Nat.{add-zero, mul-le-mul, le_refl, suc-mul}
use lib.ListN.{length, take, length-append, get_or-append}
use lib.Seq.{length-take-le, get_or-take}
use borrow.Author.Tests.{le-leb}
use Rattle.form.specs.Bytes.{num}
use Rattle.form.specs.Form.{width, due, event_fields, pair_fields, lock_fields, initial_fields, fields, entry}
use Rattle.form.specs.Place.{start, count, entry_at, counts}
use Rattle.form.specs.Right.{Block, Right}
use Rattle.form.specs.declared.Counts.{Counts}
use Rattle.form.proofs.Starts.{start_more}
use Rattle.record.specs.Says.{event_at, pair_at, instruction_at, initial_at, entries_of, execution_of}
use Rattle.model.specs.Agree.{Alike}

-- a section starts no earlier than those before it
rises : (s : List ℕ) (d k : ℕ) → 2 ≤ k → start s k ≤ start s (k + d)
rises s zero k a = rw add-zero (le_refl _)
rises s (suc d) k a =
    let i = rises s d k a in
    let e = start_more s (k + d) (omega arith) in
    let n : k + d + 1 ≡ k + suc d = omega arith in
    let l : start s k ≤ start s (k + d + 1) = omega arith in
    rw n at l

module _ (s w : List ℕ) (h : Right s) where
  abbrev pub kept : List ℕ
  kept = take (start s 6) s ++ w

  pub prefix_length : length (take (start s 6) s) ≡ start s 6
  prefix_length = length-take-le (start s 6) s (h.section 5 (omega arith) (omega arith)).fits

  kept_long : start s 6 ≤ length kept
  kept_long = let e = prefix_length in omega (arith, length-append (take (start s 6) s) w)

  num_kept : (n at : ℕ) → at + n ≤ start s 6 → num n kept at ≡ num n s at
  unfolding num
  num_kept zero at l = refl
  num_kept (suc n) at l =
      let e = prefix_length in
      ap₂ (λ (x y : ℕ). x + 256 * y)
      (get_or-append (take (start s 6) s) w 0 at (omega arith) ∙ get_or-take (start s 6) s at 0 (omega arith))
      (num_kept n (at + 1) (omega arith))

  -- section k ends where section 6 starts, or before
  section_within : (k : ℕ) → 2 ≤ k → k < 6 → start s k + 2 + count s k * width k ≤ start s 6
  unfolding count
  section_within k a b =
      let e = start_more s k a in
      let n : k + 1 + (5 - k) ≡ 6 = omega arith in
      let l : start s (k + 1) ≤ start s 6 = rw n at (rises s (5 - k) (k + 1) (omega arith)) in
      omega arith

  entry_within : (k i : ℕ) → 2 ≤ k → k < 6 → i < count s k → entry_at s k i + width k ≤ start s 6
  unfolding entry_at
  entry_within k i a b l =
      let e = section_within k a b in
      let m : suc i * width k ≤ count s k * width k = mul-le-mul l (le_refl (width k)) in
      omega (arith, suc-mul i (width k))

  pub prefix_form : num 1 kept 0 ≡ 1
  unfolding start
  prefix_form = let l = section_within 2 (omega arith) (omega arith) in num_kept 1 0 (omega arith) ∙ h.form

  pub prefix_processors : num 1 kept 1 ≡ num 1 s 1
  unfolding start
  prefix_processors = let l = section_within 2 (omega arith) (omega arith) in num_kept 1 1 (omega arith)

  count_kept : (k : ℕ) → 2 ≤ k → k < 6 → num 2 kept (start s k) ≡ count s k
  unfolding count
  count_kept k a b = let l = section_within k a b in num_kept 2 (start s k) (omega arith)

  pub prefix_start : (k : ℕ) → k ≤ 6 → start kept k ≡ start s k
  unfolding start count
  prefix_start zero l = refl
  prefix_start (suc zero) l = refl
  prefix_start (suc (suc zero)) l = refl
  prefix_start (suc (suc (suc j))) l =
      ap (λ (x : ℕ). x + 2 + num 2 kept x * width (suc (suc j))) (prefix_start (suc (suc j)) (omega arith))
      ∙ ap (λ (n : ℕ). start s (suc (suc j)) + 2 + n * width (suc (suc j))) (count_kept (suc (suc j)) (omega arith) (omega arith))

  pub prefix_count : (k : ℕ) → 2 ≤ k → k < 6 → count kept k ≡ count s k
  unfolding count
  prefix_count k a b = ap (num 2 kept) (prefix_start k (omega arith)) ∙ count_kept k a b

  prefix_counts : counts kept ≡ counts s
  unfolding counts
  prefix_counts =
      let p = prefix_processors in
      let e = prefix_count 2 (omega arith) (omega arith) in
      let l = prefix_count 4 (omega arith) (omega arith) in
      cc

  -- the numbers of an entry of two bytes, of four, of twelve
  pair_kept : (at : ℕ) → at + 2 ≤ start s 6 → (num 1 kept at ≡ num 1 s at) × (num 1 kept (at + 1) ≡ num 1 s (at + 1))
  pair_kept at l = (num_kept 1 at (omega arith), num_kept 1 (at + 1) (omega arith))

  short_kept : (at : ℕ) → at + 4 ≤ start s 6
      → (num 1 kept at ≡ num 1 s at) × (num 1 kept (at + 1) ≡ num 1 s (at + 1)) × (num 2 kept (at + 2) ≡ num 2 s (at + 2))
  short_kept at l = let (x, y) = pair_kept at (omega arith) in (x, y, num_kept 2 (at + 2) (omega arith))

  long_kept : (at : ℕ) → at + 12 ≤ start s 6
      → (num 1 kept at ≡ num 1 s at) × (num 1 kept (at + 1) ≡ num 1 s (at + 1)) × (num 2 kept (at + 2) ≡ num 2 s (at + 2))
      × (num 4 kept (at + 4) ≡ num 4 s (at + 4)) × (num 4 kept (at + 8) ≡ num 4 s (at + 8))
  long_kept at l = let (x, y, z) = short_kept at (omega arith) in (x, y, z, num_kept 4 (at + 4) (omega arith), num_kept 4 (at + 8) (omega arith))

  fields_kept : (c : Counts) (k at : ℕ) → 2 ≤ k → k < 6 → at + width k ≤ start s 6 → fields c kept k at ≡ fields c s k at
  unfolding width fields event_fields pair_fields lock_fields initial_fields
  fields_kept c zero at a b l = absurd (omega arith)
  fields_kept c (suc zero) at a b l = absurd (omega arith)
  fields_kept c (suc (suc zero)) at a b l = let (x, y, z, u, v) = long_kept at l in cc
  fields_kept c (suc (suc (suc zero))) at a b l = let (x, y) = pair_kept at l in cc
  fields_kept c (suc (suc (suc (suc zero)))) at a b l = let (x, y, z) = short_kept at l in cc
  fields_kept c (suc (suc (suc (suc (suc zero))))) at a b l = let (x, y, z, u, v) = long_kept at l in cc
  fields_kept c (suc (suc (suc (suc (suc (suc j)))))) at a b l = absurd (omega arith)

  entry_kept : (c : Counts) (k at : ℕ) → 2 ≤ k → k < 6 → at + width k ≤ start s 6 → entry c kept k at ≡ entry c s k at
  unfolding entry due
  entry_kept c k at a b l =
      let m = kept_long in
      let n = (h.section 5 (omega arith) (omega arith)).fits in
      simp (le-leb (at + width k) (length kept) (omega arith), le-leb (at + width k) (length s) (omega arith), fields_kept c k at a b l)

  pub prefix_block : (k : ℕ) → 2 ≤ k → k < 6 → Block (counts kept) kept k (start kept k) (start kept (k + 1))
  unfolding count entry_at
  prefix_block k a b =
      let r = h.section k a (omega arith) in
      let e = count_kept k a b in
      let m = section_within k a b in
      let n = kept_long in
      let f = r.ends in
      let g = r.within in
      rw (prefix_counts, prefix_start k (omega arith), prefix_start (k + 1) (omega arith))
      (record {
        within = omega arith;
        ends = rw e f;
        fits = omega arith;
        each = λ i l.
            let x : i < count s k = omega arith in entry_kept (counts s) k (entry_at s k i) a b (entry_within k i a b x) ∙ r.each i x;
      })

  -- a section whose entries read the same
  alike : {A : Type 0} (k : ℕ) (read : List ℕ → ℕ → A) → 2 ≤ k → k < 6 → ((at : ℕ) → at + width k ≤ start s 6 → read kept at ≡ read s at)
      → Alike (entries_of kept k (read kept)) (entries_of s k (read s))
  unfolding entry_at
  alike k read a b same = record {
    size = prefix_count k a b;
    item = λ i l.
        ap (λ (x : ℕ). read kept (x + 2 + i * width k)) (prefix_start k (omega arith))
        ∙ same (entry_at s k i) (entry_within k i a b (rw (prefix_count k a b) at l));
  }

  pub prefix_events : Alike (execution_of kept).events (execution_of s).events
  unfolding width
  prefix_events = alike 2 event_at (omega arith) (omega arith) (λ at l. let (x, y, z, u, v) = long_kept at l in cc)

  pub prefix_causes : Alike (execution_of kept).causes (execution_of s).causes
  unfolding width
  prefix_causes = alike 3 pair_at (omega arith) (omega arith) (λ at l. let (x, y) = pair_kept at l in cc)

  pub prefix_locks : Alike (execution_of kept).locks (execution_of s).locks
  unfolding width
  prefix_locks = alike 4 instruction_at (omega arith) (omega arith) (λ at l. let (x, y, z) = short_kept at l in cc)

  pub prefix_initials : Alike (execution_of kept).initials (execution_of s).initials
  unfolding width
  prefix_initials = alike 5 initial_at (omega arith) (omega arith) (λ at l. let (x, y, z, u, v) = long_kept at l in cc)
