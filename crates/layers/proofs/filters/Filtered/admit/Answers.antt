use Rattle.std.proofs.Common.{arith, rules}
use Rattle.layers.specs.ShownBidders.{one_passing}
use Rattle.layers.proofs.filters.Filtered.admit.Goals as goal

pub returns-clause-word : goal.returns-clause-word
returns-clause-word g c = one_passing _ _ c.args.admitted.word (omega arith) _ (search rules)
