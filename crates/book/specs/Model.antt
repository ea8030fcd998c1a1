-- A book as every contract sees it: how many items there are, and the rows in order of entry. Bidder j has row j.
use Rattle.std.specs.Prelude.{ℕ, List, [], length, slice_index_or, slice_set}
use Rattle.sets.specs.Members.{sum_over}
use Rattle.book.specs.declared.row.Row.{Row}
use Rattle.book.specs.declared.row.Mark.TheVariants.{Standing, Withdrawn}

pub record Book : Type 0 where
  pub items : ℕ
  pub rows : List Row

abbrev pub book : ℕ → List Row → Book
book m rs = record { items = m; rows = rs }

-- an open book begins with 64 items and no rows
abbrev pub fresh : Book
fresh = book 64 []

-- the greatest value, in cents
abbrev pub greatest : ℕ
greatest = 100000000

-- ---- rows

-- what a list of rows reads past its end; no book holds it, since it asks for no item
abbrev pub blank : Row
blank = record { bundle = record { word = 0 }; value = 0; mark = Standing }

abbrev pub row : Book → ℕ → Row
row b j = slice_index_or b.rows j blank

abbrev pub priced : ℕ → Row → Row
priced v x = record { bundle = x.bundle; value = v; mark = x.mark }

abbrev pub withdrawn : Row → Row
withdrawn x = record { bundle = x.bundle; value = x.value; mark = Withdrawn }

-- the same book with x as the row of j
abbrev pub with_row : ℕ → Row → Book → Book
with_row j x b = book b.items (slice_set b.rows j x)

-- the same book, in which bidder j declares v
abbrev pub with_value : ℕ → ℕ → Book → Book
with_value j v b = with_row j (priced v (row b j)) b

-- ---- welfare

-- the sum of the values that the members of the bidder word w declare
abbrev pub welfare : Book → ℕ → ℕ
welfare b w = sum_over w (λ j. (row b j).value) (length b.rows)
