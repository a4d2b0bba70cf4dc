use Rattle.form.specs.Place.{view_start}
use Rattle.reader.specs.Entries.{view_of, view_from}
use Rattle.reader.proofs.Firsts.{Looking}
use Rattle.reader.proofs.view_from.Given as goal

abbrev pub invariant-loop : goal.invariant-loop
invariant-loop l = Looking (view_of l.s) (view_start l.s) 65537 l.at l.end l.counter l.view (view_from l.s l.at)
