use Rattle.std.proofs.Common.{length}
use Rattle.rules.proofs.Serving.{Serving}
use Rattle.rules.proofs.by_ranking.GreedyAllocationRule.choose.Given as goal

abbrev pub invariant-loop-place : goal.invariant-loop-place
invariant-loop-place g l =
    Serving (g.R.Ranking.before l.self.ranking) l.book l.fn.admitted.word l.waiting.items l.allotment

abbrev pub decreases-loop-place : goal.decreases-loop-place
decreases-loop-place g l = length l.waiting.items
