use Rattle.rows.proofs.Members.{in_low, is_without}
use Rattle.rows.proofs.Bits.{shl_one}
use Rattle.rows.proofs.Set.without.Goals as goal

pub overflow_shl-result : goal.overflow_shl-result
overflow_shl-result c = in_low c.args.self _ c.requires

pub returns : goal.returns
returns c =
    let s = c.args.self in
    let k = c.args.k in
    let i = c.requires in
    rw (shl_one k (in_low s k i)) (is_without s.word k i)
