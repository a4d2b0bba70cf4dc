-- A record that has the form is read without a fault.
use Prim.Native.Nat.{ℕ, zero, suc, ◌+◌, ◌*◌, ◌-◌, ◌≤◌, ◌<◌}
use mathlib.Core.Path.{◌≡◌, sym, ap, ◌∙◌}
use mathlib.Core.List.{List}
use native.Mathlib.Nat.{add-zero, zero-mul, le_refl}
use native.Mathlib.Numerals.{add-one}
use native.Mathlib.Omega.{arith}
use lib.ListN.{length}
use borrow.Author.Tests.{le-leb}
use Rattle.std.specs.Prelude.{Ok}
use Rattle.form.specs.Bytes.{num}
use Rattle.form.specs.Steps.{Step, run, upto}
use Rattle.form.specs.Form.{width, due, entry, entries, block, sections, views}
use Rattle.form.specs.Place.{start, view_start, counts}
use Rattle.form.specs.Right.{Block, Right}
use Rattle.form.specs.Whole.{head, tail, whole}
use Rattle.form.specs.declared.Counts.{Counts}
use Rattle.form.proofs.Branches.{block_next}
use Rattle.form.proofs.Starts.{view_start_next}
use Rattle.form.proofs.WholeBranches.{head_right, tail_right, body_tail, whole_body}

-- checks of which number j begins at P j and ends where the next begins
module _ (f : ℕ → ℕ → Step) (P : ℕ → ℕ) where
  run_right : (i m : ℕ) → ((j : ℕ) → i ≤ j → j < i + m → f j (P j) ≡ Ok (P (j + 1))) → run f i m (P i) ≡ Ok (P (i + m))
  unfolding run
  run_right i zero h = rw add-zero
  run_right i (suc m) h =
      let n : i + 1 + m ≡ i + suc m = omega arith in
      rw (h i (le_refl i) (omega arith)) (run_right (i + 1) m (λ j a b. h j (omega arith) (omega arith)) ∙ ap (λ (x : ℕ). Ok (P x)) n)

  upto_right : (i e : ℕ) → i ≤ e → ((j : ℕ) → i ≤ j → j < e → f j (P j) ≡ Ok (P (j + 1))) → upto f i e (P i) ≡ Ok (P e)
  unfolding upto
  upto_right i e b h =
      let n : i + (e - i) ≡ e = omega arith in
      run_right i (e - i) (λ j a c. h j a (omega arith)) ∙ ap (λ (x : ℕ). Ok (P x)) n

due_right : (s : List ℕ) (k w at : ℕ) → at + w ≤ length s → due s k w at ≡ Ok (at + w)
unfolding due
due_right s k w at h = simp (le-leb _ _ h)

entries_right : (c : Counts) (s : List ℕ) (k m at : ℕ)
    → ((i : ℕ) → i < m → entry c s k (at + i * width k) ≡ Ok (at + (i + 1) * width k)) → entries c s k m at ≡ Ok (at + m * width k)
unfolding entries
entries_right c s k m at h =
    let z : at + 0 * width k ≡ at = ap (λ (x : ℕ). at + x) (zero-mul _) ∙ add-zero at in
    rw z at (upto_right (λ i a. entry c s k a) (λ i. at + i * width k) 0 m (omega arith) (λ i a b. h i b))

block_right : (c : Counts) (s : List ℕ) (k at z : ℕ) → Block c s k at z → block c s k at ≡ Ok z
block_right c s k at z b =
    let e = b.ends in
    let f = b.fits in
    let g = entries_right c s k (num 2 s at) (at + 2) b.each in
    sym (block_next c s k at (at + 2) (due_right s k 2 at (omega arith)) b.within _ (ap Ok e ∙ sym g))

views_after : (s : List ℕ) (m : ℕ) → view_start s 0 ≤ view_start s m
views_after s zero = le_refl _
views_after s (suc m) =
    let h = views_after s m in
    let e : view_start s (suc m) ≡ view_start s m + 2 + num 2 s (view_start s m) = rw (sym (add-one m)) (view_start_next s m) in
    omega arith

module _ (s : List ℕ) (r : Right s) where
  sections_right : sections (counts s) s 2 ≡ Ok (start s 9)
  unfolding sections start
  sections_right = upto_right (block (counts s) s) (start s) 2 9 (omega arith) (λ k a b. block_right (counts s) s k _ _ (r.section k a b))

  views_right : views (counts s) s (num 1 s 1) (view_start s 0) ≡ Ok (length s)
  unfolding views
  views_right =
      upto_right (λ i a. block (counts s) s 9 a) (view_start s) 0 (num 1 s 1) (omega arith) (λ p a b. block_right (counts s) s 9 _ _ (r.view p b))
      ∙ ap Ok r.ends

  views_start : start s 9 + 2 ≤ length s
  unfolding view_start
  views_start = let h = views_after s (num 1 s 1) in let e = r.ends in omega arith

  body_start : 2 ≤ length s
  unfolding start
  body_start = let b = r.section 2 (omega arith) (omega arith) in let e = b.ends in let f = b.fits in omega arith

  tail_reads : Ok (length s) ≡ tail (counts s) s (start s 9)
  unfolding counts view_start
  tail_reads = tail_right (counts s) s (start s 9) _ (due_right s 9 2 (start s 9) views_start) r.views _ views_right (le_refl _)

  head_reads : head s ≡ Ok 2
  head_reads =
      let h = body_start in
      sym (head_right s _ (due_right s 0 1 0 (omega arith)) r.form _ (due_right s 1 1 1 (omega arith)) r.processors)

  pub right_whole : whole s ≡ Ok (length s)
  right_whole = sym (whole_body s 2 _ head_reads (body_tail (counts s) s 2 (start s 9) _ sections_right tail_reads))
