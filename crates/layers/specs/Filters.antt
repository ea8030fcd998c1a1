-- Tests of bundles, and a rule that is shown only the bidders whose bundle passes one.
use Rattle.std.specs.Prelude.{◌≡◌, ℕ, ◌<◌, Bool, true, not, ◌&&◌, ◌||◌, ◌↔◌, length, nat_le}
use Rattle.sets.specs.Members.{Has, has, those, size}
use Rattle.book.specs.Model.{Book, row}
use Rattle.rules.specs.Laws.{Rule}

-- a yes or no on the word of a bundle
abbrev pub Test : Type 0
Test = ℕ → Bool

-- r has the members of w but for those whose bundle does not pass; a member without a row stays
abbrev pub Passing : Test → Book → ℕ → ℕ → Type 0
Passing test b w r = (j : ℕ) → Has r j ↔ (Has w j × (j < length b.rows → test (row b j).bundle.word ≡ true))

-- r is what the rule f answers when it is shown the members of w whose bundle passes
abbrev pub Shown : Test → Rule → Book → ℕ → ℕ → Type 0
Shown test f b w r = (input : ℕ) × Passing test b w input × (r ≡ f b input)

-- ---- the tests supplied

-- at most s items
abbrev pub fits_in : ℕ → Test
fits_in s bundle = nat_le (size bundle) s

-- without item i
abbrev pub leaves_out : ℕ → Test
leaves_out i bundle = not (has bundle i)

-- ---- the rule

unfoldable pub passing : Test → Book → ℕ → ℕ
passing test b w = those (λ j. has w j && (nat_le (length b.rows) j || test (row b j).bundle.word)) 64

-- the input is filtered, and no winner is struck
abbrev pub filtered : Test → Rule → Rule
filtered test f b w = f b (passing test b w)
