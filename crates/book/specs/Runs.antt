-- Runs of calls on an open book, and the bids in them.
use Rattle.std.specs.Prelude.{◌≡◌, ℕ, ◌^◌, ◌<◌, ◌≤◌, Bool, true, false, cond, ◌&&◌, List, [], ◌∷◌, ◌++◌, length, Decides, ◌==◌, nat_le, nat_lt}
use Rattle.book.specs.declared.call.Call.{Call}
use Rattle.book.specs.declared.call.Call.TheVariants.{Size, Enter, Revise, Withdraw, Show}
use Rattle.book.specs.declared.row.Mark.{Mark}
use Rattle.book.specs.declared.row.Mark.TheVariants.{Standing, Withdrawn}
use Rattle.book.specs.Checks.{Passes, checks, next}
use Rattle.book.specs.Model.{Book, fresh, row, with_value, greatest}

-- ---- the book that a list of calls makes

abbrev pub is_standing : Mark → Bool
is_standing Standing = true
is_standing Withdrawn = false

-- bidder j has a row, and it stands
abbrev pub stands : Book → ℕ → Bool
stands b j = nat_lt j (length b.rows) && is_standing (row b j).mark

-- no check of the call fails
abbrev pub accepts : Call → Book → Bool
accepts (Size m) b = nat_le 1 m && (nat_le m 64 && length b.rows == 0)
accepts (Enter s v) b = nat_le v greatest && (nat_lt (length b.rows) 64 && (nat_lt 0 s.word && nat_lt s.word (2 ^ b.items)))
accepts (Revise j v) b = nat_le v greatest && stands b j
accepts (Withdraw j) b = stands b j
accepts (Show j) b = nat_lt j (length b.rows)

-- a refused call does nothing
abbrev pub step : Call → Book → Book
step c b = cond (accepts c b) (next c b) b

abbrev pub run : List Call → Book → Book
run [] b = b
run (c ∷ cs) b = run cs (step c b)

-- ---- bids

-- the call is for the value of bidder j: it enters row j, or revises it
abbrev pub IsFor : ℕ → Call → Book → Type 0
IsFor j (Size m) b = ⊥
IsFor j (Enter s v) b = length b.rows ≡ j
IsFor j (Revise i v) b = i ≡ j
IsFor j (Withdraw i) b = ⊥
IsFor j (Show i) b = ⊥

-- the call, made on b, is an accepted bid of j
abbrev pub Bids : ℕ → Call → Book → Type 0
Bids j c b = (accepts c b ≡ true) × IsFor j c b

-- none of the calls, made from b on, is an accepted bid of j
abbrev pub NoBid : ℕ → List Call → Book → Type 0
NoBid j [] b = Unit {0}
NoBid j (c ∷ cs) b = (Bids j c b → ⊥) × NoBid j cs (step c b)

-- where the last accepted bid of j stands in a list of calls made from b on
pub record LastBid (b : Book) (calls : List Call) (j : ℕ) : Type 0 where
  pub earlier : List Call
  pub bid : Call
  pub later : List Call
  pub whole : calls ≡ earlier ++ bid ∷ later
  pub accepted : Bids j bid (run earlier b)
  pub last : NoBid j later (step bid (run earlier b))

-- the call with v as its value
abbrev pub revalued : ℕ → Call → Call
revalued v (Size m) = Size m
revalued v (Enter s w) = Enter s v
revalued v (Revise j w) = Revise j v
revalued v (Withdraw j) = Withdraw j
revalued v (Show j) = Show j

-- the same calls with v in that bid
abbrev pub bidding : {b : Book} {calls : List Call} {j : ℕ} → LastBid b calls j → ℕ → List Call
bidding l v = l.earlier ++ revalued v l.bid ∷ l.later

-- ---- laws over runs

-- a call is accepted exactly if no check of it fails
abbrev pub AcceptsByChecks : Type 0
AcceptsByChecks = (c : Call) (b : Book) → Decides (accepts c b) (Passes (checks c b))

-- with another value in the last bid of j, the calls make the same book but for the value of j
abbrev pub OnlyValueMoves : List Call → Type 0
OnlyValueMoves calls =
    (j v : ℕ) (l : LastBid fresh calls j) → v ≤ greatest → run (bidding l v) fresh ≡ with_value j v (run calls fresh)

-- every bidder of the book has made such a bid
abbrev pub EachHasBid : List Call → Type 0
EachHasBid calls = (j : ℕ) → j < length (run calls fresh).rows → LastBid fresh calls j
