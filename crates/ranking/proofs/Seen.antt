-- What a ranking sees of the bidders of a book that can exist is possible.
use Rattle.std.proofs.Common.{ℕ, ◌<◌, length, arith, pow_mono}
use Rattle.sets.proofs.Sums.{size_few, size_some}
use Rattle.sets.proofs.Words.{within_below}
use Rattle.book.specs.Limits.{WithinLimits}
use Rattle.book.specs.Model.{Book, row}
use Rattle.ranking.specs.Rankings.{Possible}
use Rattle.ranking.specs.Views.{seen}

pub seen_possible : (b : Book) → WithinLimits b → (j : ℕ) → j < length b.rows → Possible (seen b j)
seen_possible b limits j inside =
    let x = limits.each_row j inside in
    let w = (row b j).bundle.word in
    record {
      priced = x.priced;
      some_item = size_some w (omega (arith, within_below b.items w x.known_items, pow_mono limits.few_items)) x.some_item;
      few_items = size_few w;
    }
