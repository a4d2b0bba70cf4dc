-- A whole record of form 1, as reading meets it.
use Rattle.std.specs.Prelude.{ℕ, List, length, leb, ltb, eqb, Ok}
use Rattle.form.specs.Bytes.{num}
use Rattle.form.specs.Steps.{Step, pick, stop, and_then}
use Rattle.form.specs.Form.{due, sections, views}
use Rattle.form.specs.Place.{counts}
use Rattle.form.specs.declared.Counts.{Counts}

-- the form byte is 1, and there are at most four processors
unfoldable pub head : List ℕ → Step
head s =
    and_then (due s 0 1 0)
    (λ a. pick (eqb (num 1 s 0) 1)
    (and_then (due s 1 1 1) (λ b. pick (leb (num 1 s 1) 4) (Ok b) (stop 3 1 1)))
    (stop 4 0 0))

-- as many views as processors, and nothing after them
unfoldable pub tail : Counts → List ℕ → ℕ → Step
tail c s at =
    and_then (due s 9 2 at)
    (λ a. pick (eqb (num 2 s at) c.processors)
    (and_then (views c s c.processors a) (λ e. pick (ltb e (length s)) (stop 5 10 e) (Ok e)))
    (stop 4 9 at))

unfoldable pub body : Counts → List ℕ → ℕ → Step
body c s at = and_then (sections c s at) (λ a. tail c s a)

unfoldable pub whole : List ℕ → Step
whole s = and_then (head s) (λ a. body (counts s) s a)
