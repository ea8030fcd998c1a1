-- Rankings: which of two rows comes first, as a test on what a ranking sees of them.
use Rattle.std.specs.Prelude.{◌≡◌, ℕ, ◌*◌, ◌≤◌, Bool, true, ◌&&◌, ◌||◌, ◌⊎◌, ◌==◌, ◌≢◌, nat_lt}
use Rattle.book.specs.Model.{greatest}

-- the declared value, the number of items in the bundle, and the row's number
pub record Entry : Type 0 where
  pub value : ℕ
  pub size : ℕ
  pub number : ℕ

abbrev pub entry : ℕ → ℕ → ℕ → Entry
entry v s j = record { value = v; size = s; number = j }

-- a row that can exist
pub record Possible (a : Entry) : Type 0 where
  pub priced : a.value ≤ greatest
  pub some_item : 1 ≤ a.size
  pub few_items : a.size ≤ 64

-- the same row with v as its value
abbrev pub valued : ℕ → Entry → Entry
valued v a = entry v a.size a.number

-- whether the first of two rows comes before the second
abbrev pub RowOrder : Type 0
RowOrder = Entry → Entry → Bool

-- ---- the laws, for all rows that can exist

pub record Ranks (before : RowOrder) : Type 0 where
  pub irreflexive : (a : Entry) → Possible a → before a a ≢ true
  pub transitive : (a b c : Entry) → Possible a → Possible b → Possible c
      → before a b ≡ true → before b c ≡ true → before a c ≡ true
  -- of two rows with different numbers one comes before the other; by the laws above, only one
  pub total : (a b : Entry) → Possible a → Possible b → (a.number ≢ b.number) → (before a b ≡ true) ⊎ (before b a ≡ true)
  -- who comes before another still does with a greater value
  pub raised : (a b : Entry) (v : ℕ) → Possible a → Possible b → a.value ≤ v → v ≤ greatest
      → before a b ≡ true → before (valued v a) b ≡ true

-- ---- the rankings supplied; equals go by lower row number

-- x is greater than y, or they are equal and i is the lower number
abbrev pub leads : ℕ → ℕ → ℕ → ℕ → Bool
leads x y i j = nat_lt y x || (x == y && nat_lt i j)

abbrev pub by_value : RowOrder
by_value a b = leads a.value b.value a.number b.number

-- value over the square root of the size, compared by squares and without division
abbrev pub by_root : RowOrder
by_root a b = leads (a.value * a.value * b.size) (b.value * b.value * a.size) a.number b.number

-- value per item, compared without division
abbrev pub by_item : RowOrder
by_item a b = leads (a.value * b.size) (b.value * a.size) a.number b.number
