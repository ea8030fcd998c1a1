-- The rule `greedy` gives the greedy word of every book that can exist.
use Rattle.std.specs.Prelude.{ℕ, zero, suc, ◌<◌, ◌&&◌, ◌↔◌, length}
use Rattle.std.proofs.Common.{arith}
use Rattle.std.proofs.lemmas.Bool.{and_from, and_parts, eqb-true, eq-eqb}
use Rattle.sets.specs.Members.{Has, has, Within}
use Rattle.sets.proofs.Selected.{those_selects}
use Rattle.sets.proofs.Words.{zero_none}
use Rattle.book.specs.Limits.{WithinLimits}
use Rattle.book.specs.Model.{Book}
use Rattle.book.specs.Runs.{stands}
use Rattle.ranking.specs.Rankings.{RowOrder, Ranks}
use Rattle.rules.specs.Feasible.{fits_beside}
use Rattle.rules.specs.Greedy.{ahead, IsGreedy, turn, repeat, greedy, GreedyTheorems}
use Rattle.rules.specs.Ahead.{ahead_parts}
use Rattle.rules.specs.Feasibility.{decides_beside}
use Rattle.rules.specs.Laws.{Asked}
use Rattle.rules.specs.Joining.{decides_stands}
use Rattle.rules.specs.GreedyLaws.{Chosen, follows, one_greedy, greedy_lawful}
use Rattle.rules.specs.Turns.{Before, rank, rank_lt, rank_below}

module _ (before : RowOrder) (b : Book) (w : ℕ) where
  -- the word after r turns
  abbrev after : ℕ → ℕ
  after r = repeat r (turn before b w)

  after_within : (r : ℕ) → Within (length b.rows) (after r)
  after_within zero j h = absurd (zero_none j h)
  after_within (suc r) j h = ((those_selects _ (length b.rows) j).0 h).0

  module _ (limits : WithinLimits b) where
    turn_chosen : (u : ℕ) → Within (length b.rows) u → Chosen before b w u (turn before b w u)
    turn_chosen u within j =
        let selected = those_selects (λ j. stands b j && (has w j && fits_beside b (ahead before b u j) j)) (length b.rows) j in
        let beside = decides_beside b limits (ahead before b u j) j (λ k h. within k (ahead_parts before b u j k h).0) in
        let up = decides_stands b j in (
          (λ h.
              let parts = and_parts (stands b j) _ (selected.0 h).1 in
              let rest = and_parts (has w j) _ parts.1 in
              let (exists, standing) = up.0 parts.0 in
              (record { exists = exists; stands = standing; admits = eqb-true _ _ rest.0 }, beside.0 rest.1)),
          (λ (part, fits).
              let rest = and_from (has w j) _ (eq-eqb _ _ part.admits) (beside.1 fits) in
              selected.1 (part.exists, and_from (stands b j) _ (up.1 (part.exists, part.stands)) rest)),
        )

    after_chosen : (r : ℕ) → Chosen before b w (after r) (after (suc r))
    after_chosen r = turn_chosen (after r) (after_within r)

    -- one more turn changes nothing for who has fewer than r bidders before it
    settled : Ranks before → (r j : ℕ) → j < length b.rows → rank before b j < r → Has (after r) j ↔ Has (after (suc r)) j
    settled ranks zero j lj h = absurd (omega arith)
    settled ranks (suc r) j lj h =
        let earlier : (k : ℕ) → k < length b.rows → Before before b k j → Has (after r) k ↔ Has (after (suc r)) k =
        λ k lk first. settled ranks r k lk (let lt = rank_lt before ranks b limits k j lk lj first in omega arith) in (
          follows before b w (after r) (after (suc r)) (after (suc r)) (after (suc (suc r))) j (after_chosen r) (after_chosen (suc r))
              (λ k hk first. (earlier k (after_within (suc r) k hk) first).1 hk),
          follows before b w (after (suc r)) (after r) (after (suc (suc r))) (after (suc r)) j (after_chosen (suc r)) (after_chosen r)
              (λ k hk first. (earlier k (after_within r k hk) first).0 hk),
        )

is_greedy : (before : RowOrder) → Ranks before → (b : Book) (w : ℕ) → Asked b w → IsGreedy before b w (greedy before b w)
unfolding greedy
is_greedy before ranks b w asked j =
    let n = length b.rows in
    let chosen = after_chosen before b w asked.limits n j in
    let same : j < n → Has (after before b w n) j ↔ Has (after before b w (suc n)) j =
    λ lj. settled before b w asked.limits ranks n j lj (rank_below before ranks b asked.limits j lj) in (
      (λ h. chosen.0 ((same (after_within before b w n j h)).0 h)),
      (λ h. (same h.0.exists).1 (chosen.1 h)),
    )

pub greedy_theorems : (before : RowOrder) → Ranks before → GreedyTheorems before
greedy_theorems before ranks = record {
  found = is_greedy before ranks;
  one = one_greedy before ranks;
  lawful = greedy_lawful before ranks (greedy before) (is_greedy before ranks);
}
