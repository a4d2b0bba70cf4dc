use mathlib.Core.Path.{refl, ◌∙◌}
use native.Mathlib.Omega.{arith}
use Rattle.form.specs.Form.{width}
use Rattle.record.proofs.Lengths.{small}
use Rattle.record.proofs.Reading.{entry_fit, entry_small, index_small, first_of}
use Rattle.record.proofs.lists.source_of.Goals as goal

pub overflow_mul-i : goal.overflow_mul-i
unfolding width
overflow_mul-i c = small _ (index_small _ c.requires.0 8 (omega arith) (omega arith) _ c.requires.1 2 refl _ c.requires.2)

pub overflow_add-from : goal.overflow_add-from
unfolding width
overflow_add-from c = small _ (entry_small _ c.requires.0 8 (omega arith) (omega arith) _ c.requires.1 2 refl _ c.requires.2)

pub num1-requires : goal.num1-requires
unfolding width
num1-requires c = entry_fit _ c.requires.0 8 (omega arith) (omega arith) _ c.requires.1 2 refl _ c.requires.2 1 (omega arith)

pub returns : goal.returns
unfolding width
returns c = c.num1.ensures.0 ∙ first_of _ c.requires.0 8 (omega arith) (omega arith) _ c.requires.1 2 refl _ c.requires.2 1
