-- The rankings supplied keep the laws.
use Rattle.std.specs.Prelude.{ℕ, ◌*◌, ◌≤◌}
use Rattle.std.proofs.Common.{rules, mul-le-mul, arith}
use Rattle.ranking.specs.Rankings.{RowOrder, Ranks, leads, by_value, by_root, by_item}
use Rattle.ranking.specs.Crossed.{leads_transitive, leads_raised}

pub value_ranks : Ranks by_value
value_ranks = search rules

-- a measure of the value over the size, compared crosswise
module _ (measure : ℕ → ℕ) (rises : (v w : ℕ) → v ≤ w → measure v ≤ measure w) where
  abbrev by_quotient : RowOrder
  by_quotient a b = leads (measure a.value * b.size) (measure b.value * a.size) a.number b.number

  quotient_ranks : Ranks by_quotient
  quotient_ranks = record {
    irreflexive = λ a p first. grind arith;
    transitive = λ a b c p q r.
        leads_transitive (measure a.value) a.size (measure b.value) b.size (measure c.value) c.size
        p.some_item q.some_item r.some_item a.number b.number c.number;
    total = λ a b p q ne. grind arith;
    raised = λ a b v p q more low.
        leads_raised (measure a.value) (measure v) a.size (measure b.value) b.size a.number b.number (rises a.value v more);
  }

pub root_ranks : Ranks by_root
root_ranks = quotient_ranks (λ v. v * v) (λ v w more. mul-le-mul more more)

pub item_ranks : Ranks by_item
item_ranks = quotient_ranks (λ v. v) (λ v w more. more)
