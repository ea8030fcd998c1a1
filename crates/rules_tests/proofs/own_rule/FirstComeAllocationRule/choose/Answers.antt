use Rattle.std.proofs.Common.{arith}
use Rattle.rules_tests.specs.Own.{FirstComes}
use Rattle.rules_tests.specs.FirstComers.{one_first}
use Rattle.rules_tests.proofs.own_rule.FirstComeAllocationRule.choose.Goals as goal

pub returns : goal.returns
returns c =
    let winner : FirstComes c.args.book.now c.args.admitted.word c.map_or.result.word = λ j. grind arith in
    record { rule = one_first _ _ _ winner; winner = winner }
