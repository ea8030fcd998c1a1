-- The checks of a call decide whether it is accepted.
use Rattle.std.proofs.Common.{◌≡◌, ℕ, ◌^◌, ◌≤◌, ltb, length, Decides, arith, rules}
use Rattle.std.proofs.lemmas.Bool.Decides.{nat_tests, Decides-like, Decides-and, Decides-ltb}
use Rattle.sets.specs.Members.{NoMember, Within}
use Rattle.sets.proofs.Words.{none_zero, some_pos, below_within, within_below}
use Rattle.book.specs.declared.call.Call.TheVariants.{Size, Enter, Revise, Withdraw, Show}
use Rattle.book.specs.declared.row.Mark.{Mark}
use Rattle.book.specs.declared.row.Mark.TheVariants.{Standing, Withdrawn}
use Rattle.book.specs.Model.{Book, row}
use Rattle.book.specs.Runs.{is_standing, stands, AcceptsByChecks}

pub not_withdrawn : (m : Mark) → Decides (is_standing m) (m ≡ Withdrawn → ⊥)
not_withdrawn Standing = search rules
not_withdrawn Withdrawn = search rules

pub stands_passes : (b : Book) (j : ℕ) → Decides (stands b j) ((length b.rows ≤ j → ⊥) × ((row b j).mark ≡ Withdrawn → ⊥))
stands_passes b j = grind (arith, nat_tests, not_withdrawn (row b j).mark)

-- a word that does not have all its members below n fails the number test, and only such a word does
pub within_test : (n w : ℕ) → Decides (ltb w (2 ^ n)) ((Within n w → ⊥) → ⊥)
within_test n w = grind (arith, nat_tests, below_within n w, within_below n w)

pub some_test : (w : ℕ) → Decides (ltb 0 w) (NoMember w → ⊥)
some_test w = grind (arith, nat_tests, none_zero w, some_pos w)

-- what the tests that decide a call tell, for `grind`
pub ruleset call_tests = (nat_tests, some_test, within_test, not_withdrawn)

pub accepts_by_checks : AcceptsByChecks
accepts_by_checks (Size m) b = grind (arith, call_tests)
accepts_by_checks (Enter s v) b = grind (arith, call_tests)
accepts_by_checks (Revise j v) b = grind (arith, call_tests)
accepts_by_checks (Withdraw j) b = grind (arith, call_tests)
accepts_by_checks (Show j) b = grind (arith, call_tests)
