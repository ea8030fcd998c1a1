-- The limits that every book keeps to.
use Rattle.std.specs.Prelude.{ℕ, ◌^◌, ◌<◌, ◌≤◌, List, length, slice_index_or}
use Rattle.sets.specs.Members.{NoMember, Within}
use Rattle.book.specs.declared.row.Row.{Row}
use Rattle.book.specs.Model.{Book, row, blank, greatest}

-- a row asks for at least one item, for none past the last, and declares at most the greatest value
pub record RowWithinLimits (items : ℕ) (x : Row) : Type 0 where
  pub some_item : NoMember x.bundle.word → ⊥
  pub known_items : Within items x.bundle.word
  pub priced : x.value ≤ greatest

-- a book that can exist
pub record WithinLimits (b : Book) : Type 0 where
  pub some_items : 1 ≤ b.items
  pub few_items : b.items ≤ 64
  pub few_rows : length b.rows ≤ 64
  pub each_row : (j : ℕ) → j < length b.rows → RowWithinLimits b.items (row b j)

-- ---- the same of a row in numbers, as the books' types carry it

abbrev pub Kept : ℕ → Row → Type 0
Kept items x = (0 < x.bundle.word) × (x.bundle.word < 2 ^ items) × (x.value ≤ greatest)

abbrev pub EachKept : ℕ → List Row → Type 0
EachKept items rows = (k : ℕ) → k < length rows → Kept items (slice_index_or rows k blank)
