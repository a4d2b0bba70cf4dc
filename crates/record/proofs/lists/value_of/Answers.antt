use mathlib.Core.Path.{refl, ◌∙◌}
use native.Mathlib.Omega.{arith}
use Rattle.form.specs.Form.{width}
use Rattle.record.proofs.Lengths.{small}
use Rattle.record.proofs.Reading.{field_fits, field_small, entry_small, index_small, field_of}
use Rattle.record.proofs.lists.value_of.Goals as goal

pub overflow_mul-i : goal.overflow_mul-i
unfolding width
overflow_mul-i c = small _ (index_small _ c.requires.0 5 (omega arith) (omega arith) _ c.requires.1 12 refl _ c.requires.2)

pub overflow_add-from : goal.overflow_add-from
unfolding width
overflow_add-from c = small _ (entry_small _ c.requires.0 5 (omega arith) (omega arith) _ c.requires.1 12 refl _ c.requires.2)

pub overflow_add-from-2 : goal.overflow_add-from-2
unfolding width
overflow_add-from-2 c = small _ (field_small _ c.requires.0 5 (omega arith) (omega arith) _ c.requires.1 12 refl _ c.requires.2 8 (omega arith))

pub num4-requires : goal.num4-requires
unfolding width
num4-requires c = field_fits _ c.requires.0 5 (omega arith) (omega arith) _ c.requires.1 12 refl _ c.requires.2 8 4 (omega arith)

pub returns : goal.returns
unfolding width
returns c = c.num4.ensures.0 ∙ field_of _ c.requires.0 5 (omega arith) (omega arith) _ c.requires.1 12 refl _ c.requires.2 4 8
