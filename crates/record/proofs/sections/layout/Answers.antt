use Rattle.record.proofs.Lengths.{small, last_part, last_sum, last_low}
use mathlib.Core.Path.{refl}
use native.Mathlib.Omega.{arith}
use Rattle.form.specs.Place.{count, start}
use Rattle.record.proofs.Lays.{count_fits, events_stand, views_place}
use Rattle.record.proofs.sections.layout.Goals as goal

pub num2-requires : goal.num2-requires
unfolding start
num2-requires c = count_fits _ c.requires 2 (omega arith) (omega arith)

pub after-causes-requires : goal.after-causes-requires
after-causes-requires c = let p = c.requires in
    (p, omega arith, omega arith, events_stand _ p _ refl c.num2.ensures.0)

pub num1-requires : goal.num1-requires
num1-requires c = let h = count_fits _ c.requires 2 (omega arith) (omega arith) in omega arith

pub overflow_mul-result : goal.overflow_mul-result
overflow_mul-result c = small _ (last_part _ c.requires _ c.after-sources.ensures)

pub overflow_add-result : goal.overflow_add-result
overflow_add-result c = small _ (last_sum _ c.requires _ c.after-sources.ensures)

pub overflow_add-result-2 : goal.overflow_add-result-2
overflow_add-result-2 c = small _ (last_low _ c.requires _ c.after-sources.ensures)

pub returns : goal.returns
unfolding count start
returns c = let p = c.requires in
    record {
      processors = c.num1.ensures.0;
      events = c.num2.ensures.0;
      causes = c.after-causes.ensures;
      locks = c.after-locks.ensures;
      initials = c.after-initials.ensures;
      stores = c.after-stores.ensures;
      lockorder = c.after-lockorder.ensures;
      sources = c.after-sources.ensures;
      views = views_place _ p _ c.after-sources.ensures;
    }
