-- The number of each refusal.
use Rattle.std.specs.Prelude.{ℕ}
use Rattle.book.specs.declared.refusal.Refusal.{Refusal}
use Rattle.book.specs.declared.refusal.Refusal.TheVariants.{ItemCountOutOfRange, SizeAfterEntry, BookFull, EmptyBundle, ItemOutOfRange, ValueAboveLimit, NoSuchBidder, BidWithdrawn, ArgumentOutOfRange}

abbrev pub number_of : Refusal → ℕ
number_of ItemCountOutOfRange = 1
number_of SizeAfterEntry = 2
number_of BookFull = 3
number_of EmptyBundle = 4
number_of ItemOutOfRange = 5
number_of ValueAboveLimit = 6
number_of NoSuchBidder = 7
number_of BidWithdrawn = 8
number_of ArgumentOutOfRange = 16
