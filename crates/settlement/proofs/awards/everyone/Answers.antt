use Rattle.std.proofs.Common.{◌-◌, ◌^◌, arith}
use Rattle.std.proofs.lemmas.Nat.Bits.{same_from_bits_below}
use Rattle.sets.proofs.Words.{whole_word}
use Rattle.settlement.specs.Awards.{everyone}
use Rattle.settlement.proofs.awards.everyone.Goals as goal

pub returns : goal.returns
unfolding everyone
returns c = grind (arith, same_from_bits_below 64 c.all_below.result.word (2 ^ 64 - 1), whole_word)
