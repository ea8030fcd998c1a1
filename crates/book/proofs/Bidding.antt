-- Another value in the last bid of a bidder moves only that bidder's value.
use Rattle.std.proofs.Common.{◌≡◌, ℕ, ◌<◌, ◌≤◌, ◌⊎◌, List, [], ◌∷◌, ◌++◌, length, refl, ap, ◌∙◌, inr, arith}
use Rattle.std.proofs.lemmas.List.{length-set, length_push, set_at, set-append_left, get_or_at, get_or_append_left}
use Rattle.std.proofs.lemmas.Bool.{cases_Bool, cases_eq}
use Rattle.std.proofs.lemmas.Bool.Decides.{nat_tests}
use Rattle.book.specs.declared.call.Call.{Call}
use Rattle.book.specs.declared.call.Call.TheVariants.{Size, Enter, Revise, Withdraw, Show}
use Rattle.book.specs.declared.row.Row.{Row}
use Rattle.book.specs.Checks.{next}
use Rattle.book.specs.Model.{Book, fresh, with_value, greatest}
use Rattle.book.specs.Runs.{accepts, step, run, IsFor, Bids, NoBid, LastBid, revalued, OnlyValueMoves, EachHasBid}
use Rattle.book.proofs.Revalued.{one_set, revalued_mark}
use Rattle.book.proofs.Stepping.{accepts_by_checks}

-- ---- a call on a book with another value for j

-- whether a call is accepted does not depend on the values in the book
accepts_valued : (c : Call) (j v : ℕ) (b : Book) → accepts c (with_value j v b) ≡ accepts c b
accepts_valued (Size m) j v b = simp length-set
accepts_valued (Enter s w) j v b = simp length-set
accepts_valued (Revise i w) j v b = simp (length-set, revalued_mark j v b i)
accepts_valued (Withdraw i) j v b = simp (length-set, revalued_mark j v b i)
accepts_valued (Show i) j v b = simp length-set

-- what it does leaves the value of j alone, unless it is a bid of j
next_valued : (c : Call) (j v : ℕ) (b : Book)
    → j < length b.rows → (IsFor j c b → ⊥) → next c (with_value j v b) ≡ with_value j v (next c b)
next_valued (Size m) j v b here other = refl
next_valued (Enter s w) j v b here other = simp (set-append_left, get_or_append_left)
next_valued (Revise i w) j v b here other = grind (arith, one_set)
next_valued (Withdraw i) j v b here other = grind (arith, one_set)
next_valued (Show i) j v b here other = refl

-- ---- steps

step_valued : (c : Call) (j v : ℕ) (b : Book) → j < length b.rows → (Bids j c b → ⊥) → step c (with_value j v b) ≡ with_value j v (step c b)
step_valued c j v b here quiet =
    let same = accepts_valued c j v b in
    let moved = next_valued c j v b here in
    grind (arith, nat_tests)

-- no call takes a row away, and only a bid of j adds the row of j
next_rows : (c : Call) (j : ℕ) (b : Book)
    → (length b.rows ≤ length (next c b).rows) × ((IsFor j c b → ⊥) → length b.rows ≤ j → length (next c b).rows ≤ j)
next_rows (Size m) j b = grind arith
next_rows (Enter s w) j b = simp length_push (grind arith)
next_rows (Revise i w) j b = simp length-set (grind arith)
next_rows (Withdraw i) j b = simp length-set (grind arith)
next_rows (Show i) j b = grind arith

step_rows : (c : Call) (j : ℕ) (b : Book)
    → (length b.rows ≤ length (step c b).rows) × ((Bids j c b → ⊥) → length b.rows ≤ j → length (step c b).rows ≤ j)
step_rows c j b = let rows = next_rows c j b in grind (arith, nat_tests)

-- the bid itself, with another value
step_revalued : (c : Call) (j v : ℕ) (b : Book)
    → Bids j c b → v ≤ greatest → (j < length (step c b).rows) × (step (revalued v c) b ≡ with_value j v (step c b))
step_revalued (Size m) j v b bid le = absurd bid.1
step_revalued (Enter s w) j v b bid le = grind (arith, nat_tests, length_push {X = Row}, set_at {A = Row}, get_or_at {A = Row})
step_revalued (Revise i w) j v b bid le = grind (arith, nat_tests, one_set)
step_revalued (Withdraw i) j v b bid le = absurd bid.1
step_revalued (Show i) j v b bid le = absurd bid.1

-- ---- runs

run_append : (xs ys : List Call) (b : Book) → run (xs ++ ys) b ≡ run ys (run xs b)
run_append [] ys b = refl
run_append (x ∷ xs) ys b = run_append xs ys (step x b)

run_valued : (cs : List Call) (j v : ℕ) (b : Book)
    → j < length b.rows → NoBid j cs b → run cs (with_value j v b) ≡ with_value j v (run cs b)
run_valued [] j v b here quiet = refl
run_valued (c ∷ cs) j v b here quiet =
    ap (run cs) (step_valued c j v b here quiet.0) ∙ run_valued cs j v (step c b) (omega (arith, step_rows c j b)) quiet.1

pub only_value_moves : (calls : List Call) → OnlyValueMoves calls
only_value_moves calls j v l le =
    let b = run l.earlier fresh in
    let bid = step_revalued l.bid j v b l.accepted le in
    let rest = run_valued l.later j v (step l.bid b) bid.0 l.last in
    let old = run_append l.earlier (l.bid ∷ l.later) fresh in
    let new = run_append l.earlier (revalued v l.bid ∷ l.later) fresh in
    cc

-- ---- a row comes by an accepted bid alone

is_for : (j : ℕ) (c : Call) (b : Book) → IsFor j c b ⊎ (IsFor j c b → ⊥)
is_for j (Size m) b = inr (λ h. h)
is_for j (Enter s v) b = cases_eq (length b.rows) j
is_for j (Revise i v) b = cases_eq i j
is_for j (Withdraw i) b = inr (λ h. h)
is_for j (Show i) b = inr (λ h. h)

this_bid : (j : ℕ) (c : Call) (cs : List Call) (b : Book) → Bids j c b → NoBid j cs (step c b) → LastBid b (c ∷ cs) j
this_bid j c cs b bid none = record { earlier = []; bid = c; later = cs; whole = refl; accepted = bid; last = none }

later_bid : (j : ℕ) (c : Call) (cs : List Call) (b : Book) → LastBid (step c b) cs j → LastBid b (c ∷ cs) j
later_bid j c cs b l = record {
  earlier = c ∷ l.earlier;
  bid = l.bid;
  later = l.later;
  whole = ap (λ x. c ∷ x) l.whole;
  accepted = l.accepted;
  last = l.last;
}

find_bid : (j : ℕ) (cs : List Call) (b : Book) → LastBid b cs j ⊎ NoBid j cs b
find_bid j [] b = inr tt
find_bid j (c ∷ cs) b =
    let taken = cases_Bool (accepts c b) in
    let for = is_for j c b in
    let rest = find_bid j cs (step c b) in
    grind (arith, this_bid j c cs b, later_bid j c cs b)

run_short : (cs : List Call) (b : Book) (j : ℕ) → length b.rows ≤ j → NoBid j cs b → length (run cs b).rows ≤ j
run_short [] b j le quiet = le
run_short (c ∷ cs) b j le quiet = run_short cs (step c b) j ((step_rows c j b).1 quiet.0 le) quiet.1

pub each_has_bid : (calls : List Call) → EachHasBid calls
each_has_bid calls j h = grind (arith, find_bid j calls fresh, run_short calls fresh j)

-- what holds of every list of calls
pub ruleset call_lists = (accepts_by_checks, only_value_moves, each_has_bid)
