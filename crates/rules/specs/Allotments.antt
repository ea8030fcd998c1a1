-- Winners and the items that they take, as the programs carry them.
use Rattle.std.specs.Prelude.{◌≡◌, ℕ, ◌⊎◌, ◌↔◌}
use Rattle.sets.specs.Members.{Has, Meet, Adds, Joins}
use Rattle.book.specs.Model.{Book, row}
use Rattle.rules.specs.declared.allotment.Allotment.{Allotment}

-- exactly the items of the winners' bundles
abbrev pub Taken : Book → ℕ → ℕ → Type 0
Taken b winners taken = (i : ℕ) → Has taken i ↔ ((k : ℕ) × Has winners k × Has (row b k).bundle.word i)

-- j is one more winner, and its bundle is taken
abbrev pub Grants : Allotment → ℕ → ℕ → Allotment → Type 0
Grants a j bundle r = Adds a.winners.word j r.winners.word × Joins a.taken.word bundle r.taken.word

-- the bundle goes to j if no item of it is taken
abbrev pub Offers : Allotment → ℕ → ℕ → Allotment → Type 0
Offers a j bundle r =
    (Meet bundle a.taken.word × (r ≡ a))
    ⊎ ((Meet bundle a.taken.word → ⊥) × Grants a j bundle r)
