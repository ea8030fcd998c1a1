-- Which bidders can be served together. A set of bidders is given here by its test: a word w by `has w`.
use Rattle.std.specs.Prelude.{◌≡◌, ℕ, Bool, true, not, ◌&&◌, length, ◌==◌, ◌≢◌, bit_and}
use Rattle.sets.specs.Members.{has, every, Meet}
use Rattle.book.specs.Model.{Book, row}
use Rattle.book.specs.Runs.{stands}

-- some item is in the bundles of both
abbrev pub Share : Book → ℕ → ℕ → Type 0
Share b j k = Meet (row b j).bundle.word (row b k).bundle.word

-- the set can be served: no two of its members share an item
unfoldable pub Fits : Book → (ℕ → Bool) → Type 0
Fits b set = (j k : ℕ) → set j ≡ true → set k ≡ true → (j ≢ k) → Share b j k → ⊥

-- j can be served beside the set: no other of its members shares an item with j
unfoldable pub FitsBeside : Book → (ℕ → Bool) → ℕ → Type 0
FitsBeside b set j = (k : ℕ) → set k ≡ true → (k ≢ j) → Share b k j → ⊥

-- whether k is another member of the set than j and shares an item with it
abbrev pub clashes : Book → (ℕ → Bool) → ℕ → ℕ → Bool
clashes b set j k = set k && (not (k == j) && not (bit_and (row b k).bundle.word (row b j).bundle.word == 0))

-- `FitsBeside` as a test, for a set of bidders who have rows
unfoldable pub fits_beside : Book → (ℕ → Bool) → ℕ → Bool
fits_beside b set j = every (λ k. not (clashes b set j k)) (length b.rows)

-- whether j has a row that stands, and is admitted
abbrev pub takes_part : Book → ℕ → ℕ → Bool
takes_part b admitted j = stands b j && has admitted j

-- and can be served beside the set
abbrev pub can_join : Book → ℕ → (ℕ → Bool) → ℕ → Bool
can_join b admitted set j = takes_part b admitted j && fits_beside b set j
