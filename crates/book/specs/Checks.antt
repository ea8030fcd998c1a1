-- What each call on an open book checks, answers and does.
use Rattle.std.specs.Prelude.{◌≡◌, ℕ, ◌<◌, ◌≤◌, ◌⊎◌, List, [], ◌∷◌, ◌++◌, length, IsOkAnd, Ok, Err, Result}
use Rattle.sets.specs.Members.{NoMember, Within}
use Rattle.book.specs.declared.call.Answer.{Answer}
use Rattle.book.specs.declared.call.Answer.TheVariants.{Done, Entered, Shown}
use Rattle.book.specs.declared.call.Call.{Call}
use Rattle.book.specs.declared.call.Call.TheVariants.{Size, Enter, Revise, Withdraw, Show}
use Rattle.book.specs.declared.refusal.Refusal.{Refusal}
use Rattle.book.specs.declared.refusal.Refusal.TheVariants.{ItemCountOutOfRange, SizeAfterEntry, BookFull, EmptyBundle, ItemOutOfRange, ValueAboveLimit, NoSuchBidder, BidWithdrawn, ArgumentOutOfRange}
use Rattle.book.specs.declared.row.Mark.TheVariants.{Standing, Withdrawn}
use Rattle.book.specs.Model.{Book, book, row, withdrawn, with_row, with_value, greatest}

-- ---- checks

-- a refusal, and when it is due
pub record Check : Type 1 where
  pub refusal : Refusal
  pub fails : Type 0

infix 70 ◌if◌
abbrev pub ◌if◌ : Refusal → Type 0 → Check
e if P = record { refusal = e; fails = P }

-- The first check that fails decides; if none does, the call is accepted.
abbrev pub Judged : List Check → (Refusal → Type 0) → Type 0 → Type 0
Judged [] refused accepted = accepted
Judged (c ∷ cs) refused accepted = (c.fails × refused c.refusal) ⊎ ((c.fails → ⊥) × Judged cs refused accepted)

-- no check fails
abbrev pub Passes : List Check → Type 0
Passes [] = Unit {0}
Passes (c ∷ cs) = (c.fails → ⊥) × Passes cs

abbrev pub bidder_exists : Book → ℕ → Check
bidder_exists b j = NoSuchBidder if (length b.rows ≤ j)

abbrev pub bid_stands : Book → ℕ → Check
bid_stands b j = BidWithdrawn if ((row b j).mark ≡ Withdrawn)

abbrev pub value_allowed : ℕ → Check
value_allowed v = ValueAboveLimit if (greatest < v)

-- the argument of a rule or of a test lies between two bounds
abbrev pub argument_between : ℕ → ℕ → ℕ → Check
argument_between low high n = ArgumentOutOfRange if ((n < low) ⊎ (high < n))

-- the checks of each call, in their order
abbrev pub checks : Call → Book → List Check
checks (Size m) b = ItemCountOutOfRange if ((m < 1) ⊎ (64 < m)) ∷ SizeAfterEntry if (0 < length b.rows) ∷ []
checks (Enter s v) b =
    BookFull if (64 ≤ length b.rows)
    ∷ EmptyBundle if NoMember s.word
    ∷ ItemOutOfRange if (Within b.items s.word → ⊥)
    ∷ value_allowed v
    ∷ []
checks (Revise j v) b = bidder_exists b j ∷ bid_stands b j ∷ value_allowed v ∷ []
checks (Withdraw j) b = bidder_exists b j ∷ bid_stands b j ∷ []
checks (Show j) b = bidder_exists b j ∷ []

-- ---- accepted calls

-- the book after an accepted call
abbrev pub next : Call → Book → Book
next (Size m) b = book m b.rows
next (Enter s v) b = book b.items (b.rows ++ record { bundle = s; value = v; mark = Standing } ∷ [])
next (Revise j v) b = with_value j v b
next (Withdraw j) b = with_row j (withdrawn (row b j)) b
next (Show j) b = b

-- what an accepted call answers
abbrev pub answer : Call → Book → Answer
answer (Size m) b = Done
answer (Enter s v) b = Entered (length b.rows)
answer (Revise j v) b = Done
answer (Withdraw j) b = Done
answer (Show j) b = Shown (row b j)

-- ---- what a contract says

-- r is `good`, or else the refusal of the first check that fails
abbrev pub Answers : {A : Type 0} → List Check → A → Result A Refusal → Type 0
Answers cs good r = Judged cs (λ e. r ≡ Err e) (r ≡ Ok good)

-- r is some `good` value, or else the refusal of the first check that fails
abbrev pub Makes : {A : Type 0} → List Check → (A → Type 0) → Result A Refusal → Type 0
Makes cs good r = Judged cs (λ e. r ≡ Err e) (IsOkAnd r good)

-- The call c on `before` gave r and left `after`: accepted, it answers `good` and does what it says; refused, it changes nothing.
abbrev pub Serves : {A : Type 0} → Call → A → Book → Result A Refusal → Book → Type 0
Serves c good before r after =
    Judged (checks c before) (λ e. (r ≡ Err e) × (after ≡ before)) ((r ≡ Ok good) × (after ≡ next c before))
