use Rattle.std.proofs.Common.{◌≤◌, length, arith}
use Rattle.book.specs.Limits.{EachKept, WithinLimits}
use Rattle.book.proofs.Kept.{kept_push, kept_within, ledger_within}
use Rattle.book.proofs.open.OpenBook.enter.Goals as goal
use Rattle.book.proofs.open.OpenBook.enter.Goals.{After-push}

kept : (c : After-push) → EachKept c.self.inside.ledger.items c.push.new.self.items
kept c =
    rw c.push.ensures.items
    (kept_push _ _ _ c.self.inside.ledger.kept
    (record { some_item = grind arith; known_items = c.is_within.ensures.0 c.if-not-is_within.false; priced = omega arith }))

pub invariant_of-self-inside-clause-kept : goal.invariant_of-self-inside-clause-kept
invariant_of-self-inside-clause-kept c = kept (goal.at.invariant_of-self-inside-clause-kept c).After-push

pub returns-clause-limits : goal.returns-clause-limits
returns-clause-limits c =
    let l = c.self.inside.ledger in
    let old : WithinLimits c.args.self.now = rw (← c.self.view_is) (ledger_within l) in
    let few : length c.push.new.self.items ≤ 64 = omega (arith, c.push.ensures.len, c.len-bidder.ensures.value) in
    (old, kept_within _ _ l.sized few (kept (goal.at.returns-clause-limits c).After-push))
