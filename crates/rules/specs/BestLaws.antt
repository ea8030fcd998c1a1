-- At most one set is the best, and a rule that gives it is lawful.
use Rattle.std.specs.Prelude.{◌≡◌, ℕ, ◌/◌, ◌%◌, ◌^◌, ◌≤◌, ◌↔◌}
use Rattle.std.proofs.Common.{⊎_elim, subst, arith}
use Rattle.std.proofs.lemmas.Bool.{cases_eq}
use Rattle.sets.specs.Members.{Has}
use Rattle.book.specs.Model.{Book, with_value, welfare}
use Rattle.book.proofs.Revalued.{welfare_without, welfare_raised}
use Rattle.rules.specs.Best.{Candidate, IsBest}
use Rattle.rules.specs.Laws.{Rule, Asked, Raises, Lawful}
use Rattle.rules.specs.Beating.{leads_not, leads_neither}
use Rattle.rules.specs.Raising.{feasible_revalued, asked_raised}

pub one_best : (k : ℕ) (b : Book) (w x y : ℕ) → IsBest k b w x → IsBest k b w y → x ≡ y
one_best k b w x y is_x is_y =
    leads_neither (welfare b x) (welfare b y) x y (is_y.unbeaten x is_x.candidate) (is_x.unbeaten y is_y.candidate)

-- the same sets are candidates, whatever the values
candidate_revalued : (j v : ℕ) (b : Book) (k w x : ℕ) → Candidate k (with_value j v b) w x ↔ Candidate k b w x
candidate_revalued j v b k w x =
    let same = feasible_revalued j v b w x in (
      (λ c. record { feasible = same.0 c.feasible; few = c.few }),
      (λ c. record { feasible = same.1 c.feasible; few = c.few }),
    )

-- x is the best before j's value is raised, y after
module _ (k : ℕ) (b : Book) (w j v : ℕ) (raises : Raises b j v) (x y : ℕ)
    (is_x : IsBest k b w x) (is_y : IsBest k (with_value j v b) w y) where
  abbrev raised : Book
  raised = with_value j v b

  before : (welfare b y ≤ welfare b x) × (welfare b y ≡ welfare b x → x ≤ y)
  before = leads_not (welfare b y) (welfare b x) y x (is_x.unbeaten y ((candidate_revalued j v b k w y).0 is_y.candidate))

  after : (welfare raised x ≤ welfare raised y) × (welfare raised x ≡ welfare raised y → y ≤ x)
  after = leads_not (welfare raised x) (welfare raised y) x y (is_y.unbeaten x ((candidate_revalued j v b k w x).1 is_x.candidate))

  rises : welfare b x ≤ welfare raised y
  rises = omega (arith, welfare_raised j v b x raises.more, after.0)

  falls : (Has y j → ⊥) → welfare raised y ≤ welfare b x
  falls lost = omega (arith, welfare_without j v b y lost, before.0)

  -- if j won and loses now, the two have the same welfare in both books, and so are the same
  still_best : Has x j → Has y j
  still_best won =
      ⊎_elim (λ (h : Has y j). h)
      (λ lost.
      let up = welfare_raised j v b x raises.more in
      let down = welfare_without j v b y lost in
      let low = before.1 (omega (arith, before.0, after.0)) in
      let high = after.1 (omega (arith, before.0, after.0)) in
      let same : x ≡ y = omega arith in
      subst (λ z. Has z j) same won) (cases_eq (y / 2 ^ j % 2) 1)

pub best_lawful : (k : ℕ) (f : Rule) → ((b : Book) (w : ℕ) → Asked b w → IsBest k b w (f b w)) → Lawful f
best_lawful k f is =
    let after : (b : Book) (w j v : ℕ) → Asked b w → Raises b j v → IsBest k (with_value j v b) w (f (with_value j v b) w) =
    λ b w j v asked raises. is (with_value j v b) w (asked_raised b w j v asked raises) in
    record {
      monotone = record {
        part = λ b w asked. (is b w asked).candidate.feasible.part;
        fit = λ b w asked. (is b w asked).candidate.feasible.fit;
        still_wins = λ b w j v asked raises. still_best k b w j v raises (f b w) _ (is b w asked) (after b w j v asked raises);
      };
      bitonic = record {
        no_more = λ b w j v asked raises _. falls k b w j v raises (f b w) _ (is b w asked) (after b w j v asked raises);
        no_less = λ b w j v asked raises _ _. rises k b w j v raises (f b w) _ (is b w asked) (after b w j v asked raises);
      };
    }
