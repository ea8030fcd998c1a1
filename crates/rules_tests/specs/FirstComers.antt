-- One word has exactly the first who takes part, and the rule that gives it is lawful.
use Rattle.std.specs.Prelude.{◌≡◌, ℕ, ◌^◌, ◌<◌, not, ◌&&◌, length}
use Rattle.std.proofs.Common.{arith}
use Rattle.sets.specs.Members.{has, every}
use Rattle.sets.proofs.Selected.{those_selects, decides_every}
use Rattle.sets.proofs.Words.{same_words, within_below}
use Rattle.book.specs.Model.{Book, with_value}
use Rattle.book.proofs.Revalued.{revalued_length, revalued_mark}
use Rattle.rules.specs.Feasible.{takes_part}
use Rattle.rules.specs.Laws.{Feasible, Lawful}
use Rattle.rules.specs.Feasibility.{fits_one}
use Rattle.rules.specs.Joining.{decides_part}
use Rattle.rules.proofs.Unmoved.{unmoved_lawful}
use Rattle.rules_tests.specs.Own.{FirstComes, first_come}

module _ (b : Book) (w : ℕ) where
  first_comes : FirstComes b w (first_come b w)
  unfolding first_come
  first_comes j =
      let selected = those_selects (λ i. takes_part b w i && every (λ k. not (takes_part b w k)) i) (length b.rows) j in
      grind (arith, decides_part b w, decides_every (λ k. not (takes_part b w k)) j)

  -- no other word has exactly the first
  pub one_first : (r : ℕ) → FirstComes b w r → r ≡ first_come b w
  one_first r first =
      let n = length b.rows in
      let low : (x : ℕ) → FirstComes b w x → x < 2 ^ n = λ x comes. within_below n x (λ j h. ((comes j).0 h).0.exists) in
      let all = first_comes in
      same_words n r _ (low r first) (low _ all) (λ j h. (all j).1 ((first j).0 h)) (λ j h. (first j).1 ((all j).0 h))

  feasible : Feasible b w (first_come b w)
  feasible = record {
    part = λ j won. ((first_comes j).0 won).0;
    fit = fits_one b (has (first_come b w)) (λ j k hj hk. grind (arith, first_comes));
  }

unmoved : (b : Book) (w j v : ℕ) → first_come (with_value j v b) w ≡ first_come b w
unfolding first_come
unmoved b w j v = simp (revalued_length, revalued_mark)

pub first_come_lawful : Lawful first_come
first_come_lawful = unmoved_lawful first_come (λ b w asked. feasible b w) unmoved
