-- The members of a word that come before a bidder, and who is chosen beside them.
use Rattle.std.specs.Prelude.{◌≡◌, ℕ, true, ◌↔◌}
use Rattle.std.proofs.lemmas.Bool.{and_from, and_parts, eqb-true, eq-eqb}
use Rattle.sets.specs.Members.{Has, has}
use Rattle.book.specs.Model.{Book}
use Rattle.ranking.specs.Rankings.{RowOrder}
use Rattle.rules.specs.Feasible.{FitsBeside}
use Rattle.rules.specs.Greedy.{ahead}
use Rattle.rules.specs.Laws.{TakesPart}
use Rattle.rules.specs.Feasibility.{Inside}
use Rattle.rules.specs.Turns.{Before}

-- j is in r exactly if it takes part and fits beside the members of u that come before it; IsGreedy says it of all j where u is r
abbrev pub ChosenAt : RowOrder → Book → ℕ → ℕ → ℕ → ℕ → Type 0
ChosenAt before b w u r j = Has r j ↔ (TakesPart b w j × FitsBeside b (ahead before b u j) j)

module _ (before : RowOrder) where
  pub ahead_parts : (b : Book) (x j k : ℕ) → ahead before b x j k ≡ true → Has x k × Before before b k j
  ahead_parts b x j k h = let parts = and_parts (has x k) _ h in (eqb-true _ _ parts.0, parts.1)

  pub ahead_from : (b : Book) (x j k : ℕ) → Has x k → Before before b k j → ahead before b x j k ≡ true
  ahead_from b x j k h first = and_from (has x k) _ (eq-eqb _ _ h) first

  pub ahead_inside : (b c : Book) (x y j : ℕ) → ((k : ℕ) → Has x k → Before before b k j → Has y k × Before before c k j) →
      Inside (ahead before b x j) (ahead before c y j)
  ahead_inside b c x y j more k h =
      let parts = ahead_parts b x j k h in
      let there = more k parts.0 parts.1 in
      ahead_from c y j k there.0 there.1
