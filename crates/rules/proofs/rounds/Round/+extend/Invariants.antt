use Rattle.std.proofs.Common.{◌≤◌, ◌+◌, length}
use Rattle.rules.proofs.Extending.{Gathered}
use Rattle.rules.proofs.rounds.Round.+extend.Given as goal

abbrev pub decreases-extend : goal.decreases-extend
decreases-extend l = l.more

abbrev pub invariant-loop-bidder : goal.invariant-loop-bidder
invariant-loop-bidder l =
    Gathered l.self.book.now l.self.admitted.word l.from l.more l.choice l.choices.items (l.from + length l.yielded)
    × (length l.choices.items ≤ length l.yielded + 1)
