-- An order, a ranking, a bundle test and an allocation rule of a user's own.
use Rattle.std.specs.Prelude.{ℕ, ◌%◌, ◌<◌, not, ◌&&◌, ◌||◌, ◌↔◌, List, length, ◌==◌, nat_lt, Option, MatchOption}
use Rattle.sets.specs.Members.{Has, those, every, size}
use Rattle.book.specs.declared.row.Row.{Row}
use Rattle.book.specs.Model.{Book, book}
use Rattle.ranking.specs.Rankings.{RowOrder}
use Rattle.rules.specs.Feasible.{takes_part}
use Rattle.rules.specs.Laws.{Rule, TakesPart}
use Rattle.layers.specs.Filters.{Test}

-- the greater number first
abbrev pub Greater : ℕ → ℕ → Type 0
Greater a b = b < a

-- the greater value first, then the smaller bundle, then the lower row number
abbrev pub smaller_first : RowOrder
smaller_first a b =
    nat_lt b.value a.value
    || (a.value == b.value && (nat_lt a.size b.size || (a.size == b.size && nat_lt a.number b.number)))

-- an even number of items
abbrev pub even_size : Test
even_size bundle = size bundle % 2 == 0

-- ---- first come

-- j takes part, and nobody below j does: exactly such a j wins
abbrev pub FirstComes : Book → ℕ → ℕ → Type 0
FirstComes b admitted r = (j : ℕ) → Has r j ↔ (TakesPart b admitted j × ((k : ℕ) → k < j → TakesPart b admitted k → ⊥))

-- what is found is the first of the rows whose bidder takes part; how many items their book has does not matter
abbrev pub FirstTakingPart : List Row → ℕ → Option ℕ → Type 0
FirstTakingPart rows admitted found =
    let part = TakesPart (book 0 rows) admitted in
    MatchOption found ((k : ℕ) → part k → ⊥) (λ j. part j × ((k : ℕ) → k < j → part k → ⊥))

-- the rule
unfoldable pub first_come : Rule
first_come b admitted = those (λ j. takes_part b admitted j && every (λ k. not (takes_part b admitted k)) j) (length b.rows)
