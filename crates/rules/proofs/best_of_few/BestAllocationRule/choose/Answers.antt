use Rattle.rules.specs.BestExists.{best_theorems}
use Rattle.rules.proofs.best_of_few.BestAllocationRule.choose.Goals as goal

pub returns-clause-theorems : goal.returns-clause-theorems
returns-clause-theorems c = best_theorems c.args.self.now.most.number
