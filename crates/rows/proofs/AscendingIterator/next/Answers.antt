use Rattle.std.proofs.Common.{rules}
use Rattle.rows.proofs.Members.{in_low, rest_less}
use Rattle.rows.proofs.AscendingIterator.next.Goals as goal

pub returns-in_err-k-clause-steps : goal.returns-in_err-k-clause-steps
returns-in_err-k-clause-steps c = rw c.from_residual.ensures (λ m. c.in_err-k.ensures m.0 (in_low _ _ m.1) m.1)

pub returns-clause-goes : goal.returns-clause-goes
returns-clause-goes c = record {
  on = λ f. let i = c.in_ok-k.ensures.1 in let w = c.without_first-self.ensures _ i in (search rules, search rules, rest_less _ _ _ i.0 w);
  keeps = search rules;
  rests = search rules;
}
