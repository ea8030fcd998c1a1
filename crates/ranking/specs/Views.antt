-- What a ranking sees of the rows of a book.
use Rattle.std.specs.Prelude.{ℕ}
use Rattle.sets.specs.Members.{size}
use Rattle.book.specs.Model.{Book, row}
use Rattle.ranking.specs.declared.contenders.Contender.{Contender}
use Rattle.ranking.specs.Rankings.{Entry, entry}

-- what a contender stands for
abbrev pub entry_of : Contender → Entry
entry_of c = entry c.value c.size c.number

-- the row of bidder j
abbrev pub seen : Book → ℕ → Entry
seen b j = entry (row b j).value (size (row b j).bundle.word) j
