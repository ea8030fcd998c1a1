use Rattle.rules.specs.Choices.{chosen}
use Rattle.rules.specs.BestExists.{best_theorems}
use Rattle.rules.proofs.Extending.{nobody_sound, best_from_nobody}
use Rattle.rules.proofs.rounds.Round.best_of.Goals as goal

pub extend-requires-clause-sound : goal.extend-requires-clause-sound
extend-requires-clause-sound c =
    let round = c.args.self.now in nobody_sound round.book.now round.admitted.word c.default.result c.default.ensures

pub returns : goal.returns
returns c =
    let round = c.args.self.now in
    let b = round.book.now in
    let w = round.admitted.word in
    let best = best_from_nobody b w c.default.result c.default.ensures c.args.most (chosen c.extend.result) c.extend.ensures.first in
    let theorems = best_theorems c.args.most in
    record { rule = theorems.one b w _ _ best (theorems.found b w round.asked); best = best }
