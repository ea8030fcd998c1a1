use Rattle.std.proofs.Common.{rules}
use Rattle.rules.specs.Laws.{TakesPart}
use Rattle.rules.proofs.WaitingLists.{waiting_pass, waiting_push}
use Rattle.rules.proofs.rounds.Round.list_contenders.Goals as goal
use Rattle.rules.proofs.rounds.Round.list_contenders.Goals.{then-takes_part, else-takes_part}

pub loop-bidder-preserved : goal.loop-bidder-preserved
loop-bidder-preserved c =
    let b = c.args.self.now.book.now in
    let w = c.args.self.now.admitted.word in
    let n = c.loop-bidder.bidder in
    let xs = c.loop-bidder.waiting.items in
    let so_far = c.loop-bidder.invariant.0 in
    elim c.if-takes_part.branch [
      | then-takes_part w' ↦
          let x = w'.contender.result in
          let part : TakesPart b w n = search rules in
          let more = waiting_push b w n xs so_far x w'.contender.ensures part in
          let long = w'.push.ensures.len in
          search rules
      | else-takes_part w' ↦
          let none : TakesPart b w n → ⊥ = search rules in
          let same = waiting_pass b w n xs so_far none in
          search rules
    ]
