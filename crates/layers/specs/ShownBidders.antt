-- A rule that is shown only the bidders whose bundle passes a test keeps the laws, since who passes does not depend on values.
use Rattle.std.specs.Prelude.{◌≡◌, ℕ, ◌^◌, ◌<◌, ◌&&◌, ◌||◌, length, nat_le}
use Rattle.std.proofs.Common.{arith, rules}
use Rattle.std.proofs.lemmas.Bool.Decides.{nat_tests}
use Rattle.sets.specs.Members.{has}
use Rattle.sets.proofs.Selected.{those_selects}
use Rattle.sets.proofs.Words.{same_words, below_within, within_below}
use Rattle.book.specs.Model.{Book, row, with_value}
use Rattle.book.proofs.Revalued.{revalued_length, revalued_bundle}
use Rattle.rules.specs.Laws.{Rule, Asked, Monotone, Bitonic, Lawful}
use Rattle.layers.specs.Filters.{Test, Passing, passing, filtered}

-- ---- who passes

module _ (test : Test) (b : Book) (w : ℕ) where
  pub passing_members : w < 2 ^ 64 → Passing test b w (passing test b w)
  unfolding passing
  passing_members small j =
      let selected = those_selects (λ k. has w k && (nat_le (length b.rows) k || test (row b k).bundle.word)) 64 j in
      grind (arith, nat_tests, below_within 64 w small j)

  passing_below : w < 2 ^ 64 → (r : ℕ) → Passing test b w r → r < 2 ^ 64
  passing_below small r members = within_below 64 r (λ j h. below_within 64 w small j ((members j).0 h).0)

  -- no other word has exactly those who pass
  pub one_passing : w < 2 ^ 64 → (r : ℕ) → Passing test b w r → r ≡ passing test b w
  one_passing small r members =
      let all = passing_members small in
      let low = passing_below small in
      same_words 64 r _ (low r members) (low _ all) (λ j h. (all j).1 ((members j).0 h)) (λ j h. (members j).1 ((all j).0 h))

  asked_passing : Asked b w → Asked b (passing test b w)
  asked_passing asked = record { limits = asked.limits; word = passing_below asked.word _ (passing_members asked.word) }

  passing_revalued : (j v : ℕ) → passing test (with_value j v b) w ≡ passing test b w
  unfolding passing
  passing_revalued j v = simp (revalued_length, revalued_bundle)

-- ---- the laws

pub filtered_monotone : (test : Test) (f : Rule) → Monotone f → Monotone (filtered test f)
filtered_monotone test f law = record {
  part = λ b w asked j h.
      let part = law.part b (passing test b w) (asked_passing test b w asked) j h in
      let members = passing_members test b w asked.word j in
      search rules;
  fit = λ b w asked. law.fit b (passing test b w) (asked_passing test b w asked);
  still_wins = λ b w j v asked raises.
      rw (passing_revalued test b w j v) (law.still_wins b (passing test b w) j v (asked_passing test b w asked) raises);
}

pub filtered_bitonic : (test : Test) (f : Rule) → Bitonic f → Bitonic (filtered test f)
filtered_bitonic test f law = record {
  no_more = λ b w j v asked raises.
      rw (passing_revalued test b w j v) (law.no_more b (passing test b w) j v (asked_passing test b w asked) raises);
  no_less = λ b w j v asked raises.
      rw (passing_revalued test b w j v) (law.no_less b (passing test b w) j v (asked_passing test b w asked) raises);
}

pub filtered_lawful : (test : Test) (f : Rule) → Lawful f → Lawful (filtered test f)
filtered_lawful test f laws = record {
  monotone = filtered_monotone test f laws.monotone;
  bitonic = filtered_bitonic test f laws.bitonic;
}
