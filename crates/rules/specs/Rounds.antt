-- A book's bidders, as the programs go through them.
use Rattle.std.specs.Prelude.{◌≡◌, ℕ, ◌<◌, length}
use Rattle.book.specs.declared.row.Row.{Row}
use Rattle.book.specs.Model.{Book, row}

-- x is the row of bidder j
abbrev pub IsRowOf : Book → ℕ → Row → Type 0
IsRowOf b j x = (j < length b.rows) × (row b j ≡ x)
