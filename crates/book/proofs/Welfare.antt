-- The welfare of sets of bidders.
use Rattle.std.proofs.Common.{ℕ, ◌*◌, ◌≤◌, length}
use Rattle.sets.proofs.Sums.{sum_at_most}
use Rattle.book.specs.Limits.{WithinLimits}
use Rattle.book.specs.Model.{Book, row, welfare, greatest}

pub welfare_bounded : (b : Book) → WithinLimits b → (w : ℕ) → welfare b w ≤ length b.rows * greatest
welfare_bounded b limits w = sum_at_most w (λ j. (row b j).value) greatest (length b.rows) (λ j l. (limits.each_row j l).priced)
