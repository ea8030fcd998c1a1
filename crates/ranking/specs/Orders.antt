-- Strict orders, and what it is to be first of a list.
use Rattle.std.specs.Prelude.{◌≡◌, ℕ, ◌<◌, ◌⊎◌, List, length, ◌≢◌, slice_index_or}

pub record StrictOrder {T : Type 0} (identity : T → ℕ) (before : T → T → Type 0) : Type 0 where
  pub irreflexive : (a : T) → before a a → ⊥
  pub transitive : (a b c : T) → before a b → before b c → before a c
  -- of two different elements, one comes before the other
  pub total : (a b : T) → (identity a ≢ identity b) → before a b ⊎ before b a

-- p is one of the first n places, and at none of them stands an element that comes before the one at p
pub record FirstAmong {T : Type 0} (before : T → T → Type 0) (xs : List T) (n p : ℕ) : Type 0 where
  pub inside : p < n
  pub least : (k : ℕ) (d : T) → k < n → before (slice_index_or xs k d) (slice_index_or xs p d) → ⊥

-- the same of all places
abbrev pub FirstOf : {T : Type 0} → (T → T → Type 0) → List T → ℕ → Type 0
FirstOf before xs p = FirstAmong before xs (length xs) p

-- r is b if the element there comes before the one at a, otherwise a
abbrev pub Earlier : {T : Type 0} → (T → T → Type 0) → List T → ℕ → ℕ → ℕ → Type 0
Earlier {T} before xs a b r =
    ((r ≡ b) × ((d : T) → before (slice_index_or xs b d) (slice_index_or xs a d))) ⊎ ((r ≡ a) × ((d : T) → before (slice_index_or xs b d) (slice_index_or xs a d) → ⊥))
