-- Greedy over a ranking: in ranking order, each wins who can be served beside the winners before it.
use Rattle.std.specs.Prelude.{◌≡◌, ℕ, zero, suc, Bool, ◌&&◌, ◌↔◌, length}
use Rattle.sets.specs.Members.{Has, has, those}
use Rattle.book.specs.Model.{Book}
use Rattle.book.specs.Runs.{stands}
use Rattle.ranking.specs.Rankings.{RowOrder}
use Rattle.ranking.specs.Views.{seen}
use Rattle.rules.specs.Feasible.{FitsBeside, fits_beside}
use Rattle.rules.specs.Laws.{Asked, Lawful, Rule, TakesPart}

-- the members of the word who come before j
abbrev pub ahead : RowOrder → Book → ℕ → ℕ → ℕ → Bool
ahead before b w j k = has w k && before (seen b k) (seen b j)

-- j wins exactly if it takes part and fits beside the winners that come before it
abbrev pub IsGreedy : RowOrder → Book → ℕ → ℕ → Type 0
IsGreedy before b admitted winners = (j : ℕ) → Has winners j ↔ (TakesPart b admitted j × FitsBeside b (ahead before b winners j) j)

-- ---- the rule

-- those who take part and fit beside the members of w that come before them
abbrev pub turn : RowOrder → Book → ℕ → ℕ → ℕ
turn before b admitted w = those (λ j. stands b j && (has admitted j && fits_beside b (ahead before b w j) j)) (length b.rows)

abbrev pub repeat : ℕ → (ℕ → ℕ) → ℕ
repeat zero f = 0
repeat (suc n) f = f (repeat n f)

-- the winners are whom one more turn would not change; after r turns that holds of all who have fewer than r bidders before them
unfoldable pub greedy : RowOrder → Rule
greedy before b admitted = repeat (length b.rows) (turn before b admitted)

-- ---- what holds of it, whatever the ranking

pub record GreedyTheorems (before : RowOrder) : Type 0 where
  -- in every book that can exist its winners are greedy
  pub found : (b : Book) (w : ℕ) → Asked b w → IsGreedy before b w (greedy before b w)
  -- and no other set is
  pub one : (b : Book) (w x y : ℕ) → Asked b w → IsGreedy before b w x → IsGreedy before b w y → x ≡ y
  pub lawful : Lawful (greedy before)
