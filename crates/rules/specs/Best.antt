-- The best of few: of all sets of at most k bidders who take part and can be served together, the empty set too, the one of greatest
-- welfare, and among equals the lowest word.
use Rattle.std.specs.Prelude.{◌≡◌, ℕ, zero, suc, ◌^◌, ◌≤◌, Bool, true, cond, not, ◌&&◌, ◌||◌, length, ◌≢◌, nat_le}
use Rattle.sets.specs.Members.{has, size, every}
use Rattle.book.specs.Model.{Book, welfare}
use Rattle.ranking.specs.Rankings.{leads}
use Rattle.rules.specs.Feasible.{can_join}
use Rattle.rules.specs.Laws.{Asked, Feasible, Lawful, Rule}

-- a feasible set of at most k bidders
pub record Candidate (k : ℕ) (b : Book) (admitted x : ℕ) : Type 0 where
  pub feasible : Feasible b admitted x
  pub few : size x ≤ k

-- the welfare of x is the greater, or that of both is equal and x is the lower word
abbrev pub beats : Book → ℕ → ℕ → Bool
beats b x y = leads (welfare b x) (welfare b y) x y

pub record IsBest (k : ℕ) (b : Book) (admitted winners : ℕ) : Type 0 where
  pub candidate : Candidate k b admitted winners
  pub unbeaten : (x : ℕ) → Candidate k b admitted x → beats b x winners ≢ true

-- ---- the rule

-- whether x, a word of bidders who have rows, is a candidate
unfoldable pub is_candidate : ℕ → Book → ℕ → ℕ → Bool
is_candidate k b admitted x = nat_le (size x) k && every (λ j. not (has x j) || can_join b admitted (has x) j) (length b.rows)

-- x if it is a candidate that beats y, otherwise y
abbrev pub improved : ℕ → Book → ℕ → ℕ → ℕ → ℕ
improved k b admitted x y = cond (is_candidate k b admitted x && beats b x y) x y

-- of the empty set and the candidates below m, the one that no other of them beats
unfoldable pub foremost : ℕ → Book → ℕ → ℕ → ℕ
foremost k b admitted zero = 0
foremost k b admitted (suc x) = improved k b admitted x (foremost k b admitted x)

-- every set of bidders of the book is a word below 2 ^ n, where n is the number of rows
abbrev pub best : ℕ → Rule
best k b admitted = foremost k b admitted (2 ^ length b.rows)

-- ---- what holds of it, whatever k

pub record BestTheorems (k : ℕ) : Type 0 where
  -- in every book that can exist its winners are the best
  pub found : (b : Book) (w : ℕ) → Asked b w → IsBest k b w (best k b w)
  -- and no other set is
  pub one : (b : Book) (w x y : ℕ) → IsBest k b w x → IsBest k b w y → x ≡ y
  pub lawful : Lawful (best k)
