-- Bytes that are written one by one behind the place of their count, and the count last.
use Prim.Native.Nat.{ℕ, ◌+◌, ◌<◌, ◌≤◌}
use mathlib.Core.Path.{◌≡◌, refl, sym, ap, ◌∙◌}
use mathlib.Core.List.{List, [], ◌∷◌, ◌++◌, append_assoc, append-nil}
use native.Mathlib.Omega.{arith}
use lib.ListN.{length, set, length-append}
use Rattle.form.specs.Bytes.{two_bytes}
use Rattle.lent.specs.Put.{Put, PutTo}
use Rattle.lent.proofs.Puts.{put_nothing, put_next, put_ahead}

-- the bytes before `to` are written, the rest of all is to come
pub record Part (before : List ℕ) (at : ℕ) (after : List ℕ) (to : ℕ) (rest all : List ℕ) : Type 0 where
  pub bytes : List ℕ
  pub put : Put before (at + 2) bytes after
  pub ends : to ≡ at + 2 + length bytes
  pub whole : bytes ++ rest ≡ all

pub part_none : (before all : List ℕ) (at : ℕ) → at + 2 ≤ length before → Part before at before (at + 2) all all
part_none before all at h = record { bytes = []; put = put_nothing before (at + 2) h; ends = omega arith; whole = refl }

module _ (before after rest all : List ℕ) (at to : ℕ) where
  pub part_more : (x : ℕ) → Part before at after to (x ∷ rest) all → to < length before → Part before at (set after to x) (to + 1) rest all
  part_more x p h =
      let e = p.ends in
      record {
        bytes = p.bytes ++ x ∷ [];
        put = put_next before after p.bytes (at + 2) to x p.put e h;
        ends = omega (arith, length-append p.bytes (x ∷ []));
        whole = append_assoc p.bytes (x ∷ []) rest ∙ p.whole;
      }

module _ (before after all : List ℕ) (at to : ℕ) (p : Part before at after to [] all) where
  is_all : p.bytes ≡ all
  is_all = sym (append-nil p.bytes) ∙ p.whole

  pub part_ends : to ≡ at + 2 + length all
  part_ends = p.ends ∙ ap (λ (l : List ℕ). at + 2 + length l) is_all

  pub part_done : (c : List ℕ) (k : ℕ) → Put after at (two_bytes k) c → PutTo before at (two_bytes k ++ all) c to
  part_done c k q =
      let e = part_ends in
      (put_ahead before after c all (two_bytes k) at (at + 2) (rw is_all at p.put) q refl, omega arith)
