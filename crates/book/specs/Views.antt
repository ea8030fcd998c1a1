-- The book that a ledger stands for.
use Rattle.book.specs.declared.ledger.Ledger.{Ledger}
use Rattle.book.specs.Model.{Book, book}

abbrev pub recorded : Ledger → Book
recorded l = book l.items l.rows.items
