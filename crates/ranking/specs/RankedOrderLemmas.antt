-- Every contender is a row that can exist.
use Rattle.ranking.specs.declared.contenders.Contender.{Contender}
use Rattle.ranking.specs.Rankings.{Possible}
use Rattle.ranking.specs.Views.{entry_of}

pub possible : (c : Contender) → Possible (entry_of c)
possible c = record { priced = c.priced; some_item = c.nonempty; few_items = c.small }
