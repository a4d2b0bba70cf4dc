use Rattle.std.proofs.Common.{rules, arith, ◌≤◌, ◌≡◌, ◌+◌, ◌∙◌, ℕ, List, ◌++◌, length, take, refl, sym, ap, subst, le_refl, length-take-le}
use Rattle.std.specs.Io.KnownBytes.{Consumes}
use Rattle.std.proofs.KnownBytes.{Consumes-nil, Consumes-trans, Consumes-kept}
use Rattle.std.proofs.Math.Seq.{take-append-add}
use Rattle.std.proofs.lemmas.List.{take-append-le}
use Rattle.std.proofs.lemmas.Slice.{take-put_mid_below}
use borrow.Rule.Slice.PartMut.{put_mid}
use Rattle.printing.proofs.read_full.Goals as goal

-- the first m bytes of the buffer, which are the a that stood there and n more
longer : (a n m r : ℕ) (xs ys : List ℕ) → m ≡ a + n → a ≤ length xs → n ≤ length ys → take m (put_mid a r xs ys) ≡ take a xs ++ take n ys
longer a n m r xs ys e h g =
    rw e (subst (λ (k : ℕ). take (k + n) (put_mid a r xs ys) ≡ take a xs ++ take n ys) (length-take-le a xs h)
    (take-append-add (take a xs) _ n ∙ ap (λ (l : List ℕ). take a xs ++ l) (take-append-le n ys _ g)))

pub loop-k-init : goal.loop-k-init
loop-k-init g c = (omega arith, Consumes-nil _)

pub loop-k-preserved : goal.loop-k-preserved
loop-k-preserved g c =
    (search rules, subst (Consumes _ _) (sym (longer _ _ _ _ _ _ refl c.loop-k.invariant.0 c.in-Ok.ensures.bound.0)) (Consumes-trans _ _ _ _ _ c.loop-k.invariant.1 c.in-Ok.ensures.bytes.0))

pub returns-after-loop-k : goal.returns-after-loop-k
returns-after-loop-k g c = record { within = c.loop-k.invariant.0; bytes = c.loop-k.invariant.1 }

pub returns-in_default-clause-bytes : goal.returns-in_default-clause-bytes
returns-in_default-clause-bytes g c =
    subst (Consumes _ _) (sym (longer _ c.in-Ok.n _ _ _ _ (omega arith) c.loop-k.invariant.0 c.in-Ok.ensures.bound.0)) (Consumes-trans _ _ _ _ _ c.loop-k.invariant.1 c.in-Ok.ensures.bytes.0)

pub returns-in_default-2-clause-bytes : goal.returns-in_default-2-clause-bytes
returns-in_default-2-clause-bytes g c =
    subst (Consumes _ _) (sym (take-put_mid_below _ _ _ _ _ (le_refl _) c.loop-k.invariant.0)) (Consumes-kept _ _ _ _ c.loop-k.invariant.1 c.in_default.ensures.bytes)
