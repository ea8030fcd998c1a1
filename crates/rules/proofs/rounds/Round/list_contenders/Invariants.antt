use Rattle.std.proofs.Common.{◌≤◌, length}
use Rattle.rules.specs.WaitingLists.{Waiting}
use Rattle.rules.proofs.rounds.Round.list_contenders.Given as goal

abbrev pub invariant-loop-bidder : goal.invariant-loop-bidder
invariant-loop-bidder l =
    Waiting l.self.book.now l.self.admitted.word l.bidder l.waiting.items × (length l.waiting.items ≤ l.bidder)
