-- A rule whose winners do not depend on values is lawful if they are feasible.
use Rattle.std.proofs.Common.{◌≡◌, ℕ}
use Rattle.book.specs.Model.{Book, with_value}
use Rattle.book.proofs.Revalued.{welfare_without, welfare_raised}
use Rattle.rules.specs.Laws.{Rule, Asked, Feasible, Lawful}

pub unmoved_lawful : (f : Rule) →
    ((b : Book) (w : ℕ) → Asked b w → Feasible b w (f b w)) →
    ((b : Book) (w j v : ℕ) → f (with_value j v b) w ≡ f b w) → Lawful f
unmoved_lawful f feasible same = record {
  monotone = record {
    part = λ b w asked. (feasible b w asked).part;
    fit = λ b w asked. (feasible b w asked).fit;
    still_wins = λ b w j v asked raises won. rw (same b w j v) won;
  };
  bitonic = record {
    no_more = λ b w j v asked raises lost still. rw (same b w j v) (welfare_without j v b (f b w) lost);
    no_less = λ b w j v asked raises won still. rw (same b w j v) (welfare_raised j v b (f b w) raises.more);
  };
}
