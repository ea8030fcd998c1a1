use Rattle.std.proofs.Common.{rules}
use Rattle.ranking.proofs.Seen.{seen_possible}
use Rattle.rules.proofs.rounds.Round.contender.Goals as goal

pub invariant_of-result : goal.invariant_of-result
invariant_of-result c =
    let round = c.args.self.now in
    let fine = seen_possible round.book.now round.asked.limits c.args.bidder c.requires.0 in
    let priced = fine.priced in
    let some = fine.some_item in
    let few = fine.few_items in
    search rules
