use Rattle.std.proofs.Common.{rules, ◌≡◌}
use Rattle.record.specs.Says.{execution_of}
use Rattle.record.proofs.Lockings.{event_index, index_fits, index_low}
use Rattle.facts.proofs.Keeping.{kept_is}
use Rattle.facts.proofs.locks.indexed.Goals as goal

pub keep-requires : goal.keep-requires
keep-requires c = let p = c.requires in λ e m. let h = index_low _ p.0 _ (p.1 e m) in let f = index_fits _ p.0 _ (p.1 e m) in search rules

pub returns : goal.returns
returns c =
    kept_is _ _ _ (λ e. ((execution_of c.args.s.now).events.item e).index ≡ c.args.index) c.keep.ensures
    (λ e m s. let q = event_index c.args.s.now e in search rules)
    (λ e m s p. let q = event_index c.args.s.now e in search rules)
