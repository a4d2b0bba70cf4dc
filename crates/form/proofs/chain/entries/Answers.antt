use mathlib.Core.Path.{sym, ap, ◌∙◌}
use native.Mathlib.Omega.{arith}
use Rattle.std.specs.Prelude.{Err}
use Rattle.std.proofs.lemmas.Result.{err_from_is_err_and}
use Rattle.form.proofs.Runs.{upto_none, upto_stop, upto_next}
use Rattle.form.proofs.Seeing.{seen_fits, seen_on}
use Rattle.form.proofs.chain.entries.Goals as goal

pub overflow_mul-a : goal.overflow_mul-a
overflow_mul-a c = let p = c.requires in
    let h = seen_fits _ _ _ _ _ p.0 p.2 _ c.glance-seen.ensures in
    rw c.width.ensures (omega arith)

pub overflow_add-a : goal.overflow_add-a
overflow_add-a c = let p = c.requires in
    let h = seen_fits _ _ _ _ _ p.0 p.2 _ c.glance-seen.ensures in
    rw c.width.ensures (omega arith)

pub loop-i-init : goal.loop-i-init
loop-i-init c = rw c.width.ensures (seen_on _ _ _ _ _ _ c.glance-seen.ensures)

pub returns-in_err-a : goal.returns-in_err-a
returns-in_err-a c =
    let p = err_from_is_err_and c.from_residual.result c.from_residual.ensures.1 in
    p.1 ∙ ap Err p.2 ∙ upto_stop _ _ _ _ _ c.loop-i.invariant _ (omega arith) (sym c.entry.ensures ∙ c.in_err-a.was)

pub loop-i-preserved : goal.loop-i-preserved
loop-i-preserved c = upto_next _ _ _ _ _ c.loop-i.invariant _ (omega arith) (sym c.entry.ensures ∙ c.in_ok-a.was)

pub returns : goal.returns
returns c = upto_none _ _ _ _ _ c.loop-i.invariant (omega arith)
