-- Contenders that wait for their turn.
use Rattle.std.specs.Prelude.{◌≡◌, ℕ, ◌<◌, ◌≤◌, List, count_by, Contains, ◌==◌}
use Rattle.book.specs.Model.{Book}
use Rattle.ranking.specs.declared.contenders.Contender.{Contender}
use Rattle.ranking.specs.Views.{entry_of, seen}
use Rattle.rules.specs.Laws.{TakesPart}

-- no two have one number
abbrev pub Distinct : List Contender → Type 0
Distinct xs = (j : ℕ) → count_by (λ x. x.number == j) xs ≤ 1

-- j waits
abbrev pub Waits : List Contender → ℕ → Type 0
Waits xs j = (x : Contender) × Contains xs x × (x.number ≡ j)

-- xs has each of the first n bidders who take part, once, as a ranking sees it, and nobody else
pub record Waiting (b : Book) (admitted n : ℕ) (xs : List Contender) : Type 0 where
  pub sees : (x : Contender) → Contains xs x → entry_of x ≡ seen b x.number
  pub part : (j : ℕ) → Waits xs j → (j < n) × TakesPart b admitted j
  pub all : (j : ℕ) → j < n → TakesPart b admitted j → Waits xs j
  pub distinct : Distinct xs
