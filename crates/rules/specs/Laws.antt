-- What every allocation rule keeps to: for every book that can exist, every admitted word, and every bidder, admitted or not.
use Rattle.std.specs.Prelude.{◌≡◌, ℕ, ◌^◌, ◌<◌, ◌≤◌, length}
use Rattle.sets.specs.Members.{Has, has}
use Rattle.book.specs.declared.row.Mark.TheVariants.{Standing}
use Rattle.book.specs.Limits.{WithinLimits}
use Rattle.book.specs.Model.{Book, row, with_value, welfare, greatest}
use Rattle.rules.specs.Feasible.{Fits}

-- from a book and the word of the admitted bidders to the word of the winners
abbrev pub Rule : Type 0
Rule = Book → ℕ → ℕ

-- bidder j takes part: its row exists and stands, and it is admitted
pub record TakesPart (b : Book) (admitted j : ℕ) : Type 0 where
  pub exists : j < length b.rows
  pub stands : (row b j).mark ≡ Standing
  pub admits : Has admitted j

-- the members of x take part and can be served together
pub record Feasible (b : Book) (admitted x : ℕ) : Type 0 where
  pub part : (j : ℕ) → Has x j → TakesPart b admitted j
  pub fit : Fits b (has x)

-- the book can exist, and the word is one
pub record Asked (b : Book) (admitted : ℕ) : Type 0 where
  pub limits : WithinLimits b
  pub word : admitted < 2 ^ 64

-- v is a greater value for j, or the same
pub record Raises (b : Book) (j v : ℕ) : Type 0 where
  pub more : (row b j).value ≤ v
  pub priced : v ≤ greatest

pub record Monotone (f : Rule) : Type 0 where
  -- every winner takes part
  pub part : (b : Book) (w : ℕ) → Asked b w → (j : ℕ) → Has (f b w) j → TakesPart b w j
  -- the winners can be served together
  pub fit : (b : Book) (w : ℕ) → Asked b w → Fits b (has (f b w))
  -- who wins still wins with a greater value
  pub still_wins : (b : Book) (w j v : ℕ) → Asked b w → Raises b j v → Has (f b w) j → Has (f (with_value j v b) w) j

pub record Bitonic (f : Rule) : Type 0 where
  -- if j loses, and with a greater value still loses, welfare has not risen
  pub no_more : (b : Book) (w j v : ℕ) → Asked b w → Raises b j v → (Has (f b w) j → ⊥) → (Has (f (with_value j v b) w) j → ⊥)
      → welfare (with_value j v b) (f (with_value j v b) w) ≤ welfare b (f b w)
  -- if j wins, and with a greater value still wins, welfare has not fallen
  pub no_less : (b : Book) (w j v : ℕ) → Asked b w → Raises b j v → Has (f b w) j → Has (f (with_value j v b) w) j
      → welfare b (f b w) ≤ welfare (with_value j v b) (f (with_value j v b) w)

pub record Lawful (f : Rule) : Type 0 where
  pub monotone : Monotone f
  pub bitonic : Bitonic f
