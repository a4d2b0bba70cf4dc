use mathlib.Core.Path.{ap, ◌∙◌}
use Prim.Native.Nat.{ℕ, ◌+◌}
use native.Mathlib.Omega.{arith}
use Rattle.form.specs.Bytes.{num}
use Rattle.record.proofs.Reading.{view_count_fits, view_count_small}
use Rattle.record.proofs.lists.view_of.Goals as goal

pub overflow_add-result : goal.overflow_add-result
overflow_add-result c = let p = c.requires in
    let h = view_count_small _ p.0 _ p.1 in
    let e = p.2 in
    omega arith

pub num2-requires : goal.num2-requires
num2-requires c = let p = c.requires in
    let h = view_count_fits _ p.0 _ p.1 in
    let e = p.2 in
    omega arith

pub returns : goal.returns
returns c = record { place = ap (λ (x : ℕ). x + 2) c.requires.2; number = c.num2.ensures.0 ∙ ap (num 2 c.args.s.now) c.requires.2 }
