use Rattle.ranking.specs.Orders.{FirstAmong}
use Rattle.ranking.proofs.orders.first.Given as goal

abbrev pub invariant-loop-place : goal.invariant-loop-place
invariant-loop-place g l = FirstAmong (g.O.Order.before l.order) l.items l.place l.best
