-- A part of a lent slice: the lent bytes themselves, and not a copy.
use Rattle.std.specs.Prelude.{ℕ, ◌+◌, ◌≡◌, List}
use Rattle.std.specs.Borrow.{Bor}

-- r points into the bytes that s points to, `at` bytes behind the first
abbrev pub PartAt : Bor (List ℕ) → ℕ → Bor (List ℕ) → Type 0
PartAt s at r = (r.ref_ptr.0 ≡ s.ref_ptr.0) × (r.ref_ptr.1 ≡ s.ref_ptr.1 + at)
