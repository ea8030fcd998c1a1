use Rattle.std.proofs.Common.{◌≡◌, ◌*◌, ◌≤◌}
use Rattle.sets.specs.Members.{sum_over}
use Rattle.book.specs.Model.{row}
use Rattle.book.proofs.closed.ClosedBook.welfare.Given as goal

abbrev pub invariant-loop-bidder : goal.invariant-loop-bidder
invariant-loop-bidder l =
    (l.total ≡ sum_over l.set.word (λ j. (row l.self j).value) l.bidder) × (l.total ≤ 100000000 * l.bidder)
