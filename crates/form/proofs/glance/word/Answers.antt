use Prim.Native.Nat.{◌+◌}
use native.Mathlib.Omega.{arith}
use Rattle.form.proofs.Numbers.{num_parts}
use Rattle.form.proofs.glance.word.Goals as goal

pub overflow_cast-a : goal.overflow_cast-a
overflow_cast-a c = omega (arith, c.type_inv.s c.args.at)

pub overflow_cast-b : goal.overflow_cast-b
overflow_cast-b c = omega (arith, c.type_inv.s (c.args.at + 1))

pub overflow_cast-c : goal.overflow_cast-c
overflow_cast-c c = omega (arith, c.type_inv.s (c.args.at + 2))

pub overflow_cast-d : goal.overflow_cast-d
overflow_cast-d c = omega (arith, c.type_inv.s (c.args.at + 3))

pub overflow_mul-result : goal.overflow_mul-result
overflow_mul-result c = let a = c.args in
    omega (arith, c.type_inv.s (a.at + 1))

pub overflow_add-result : goal.overflow_add-result
overflow_add-result c = let a = c.args in
    omega (arith, c.type_inv.s a.at, c.type_inv.s (a.at + 1))

pub overflow_mul-result-2 : goal.overflow_mul-result-2
overflow_mul-result-2 c = let a = c.args in
    omega (arith, c.type_inv.s (a.at + 2))

pub overflow_add-result-2 : goal.overflow_add-result-2
overflow_add-result-2 c = let a = c.args in
    let g = c.type_inv.s in
    omega (arith, g a.at, g (a.at + 1), g (a.at + 2))

pub overflow_mul-result-3 : goal.overflow_mul-result-3
overflow_mul-result-3 c = let a = c.args in
    omega (arith, c.type_inv.s (a.at + 3))

pub overflow_add-result-3 : goal.overflow_add-result-3
overflow_add-result-3 c = let a = c.args in
    let g = c.type_inv.s in
    omega (arith, g a.at, g (a.at + 1), g (a.at + 2), g (a.at + 3))

pub returns : goal.returns
returns c = let w = num_parts _ _ (λ i. omega (arith, c.type_inv.s i)) in
    record { value = w.0; first = w.1.0; second = w.1.1.0; upper = w.1.1.1 }
