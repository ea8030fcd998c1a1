-- Sets of bidders as the search for the best of few carries them.
use Rattle.std.specs.Prelude.{◌≡◌, ℕ, ◌+◌, ◌≤◌, true, ◌⊎◌, List, Option, MatchOption, Contains, ◌≢◌}
use Rattle.sets.specs.Members.{Has, size, NoMember, Meet}
use Rattle.book.specs.declared.row.Row.{Row}
use Rattle.book.specs.Model.{Book, row, welfare}
use Rattle.ranking.specs.Rankings.{leads}
use Rattle.rules.specs.declared.choices.Choice.{Choice}
use Rattle.rules.specs.Allotments.{Taken, Grants}
use Rattle.rules.specs.Best.{Candidate, beats}
use Rattle.rules.specs.Laws.{TakesPart, Feasible}

-- the word of its bidders
abbrev pub chosen : Choice → ℕ
chosen c = c.allotment.winners.word

-- ---- one choice

-- nobody, and no item
pub record Empty (c : Choice) : Type 0 where
  pub nobody : NoMember (chosen c)
  pub nothing : NoMember c.allotment.taken.word
  pub worthless : c.welfare ≡ 0

-- its bidders take part and can be served together, and its items and its welfare are theirs
pub record Sound (b : Book) (admitted : ℕ) (c : Choice) : Type 0 where
  pub feasible : Feasible b admitted (chosen c)
  pub items : Taken b (chosen c) c.allotment.taken.word
  pub worth : c.welfare ≡ welfare b (chosen c)

-- j takes part, and no item of its bundle is taken
abbrev pub Free : Book → ℕ → Choice → ℕ → Type 0
Free b admitted c j = TakesPart b admitted j × (Meet (row b j).bundle.word c.allotment.taken.word → ⊥)

-- r is c with j, whose row is x, as one more bidder
pub record Grows (c : Choice) (j : ℕ) (x : Row) (r : Choice) : Type 0 where
  pub grants : Grants c.allotment j x.bundle.word r.allotment
  pub worth : r.welfare ≡ c.welfare + x.value

-- r is c with j as one more bidder if j is free, otherwise none
abbrev pub JoinedBy : Book → ℕ → Choice → ℕ → Option Choice → Type 0
JoinedBy b admitted c j r = MatchOption r (Free b admitted c j → ⊥) (λ d. Free b admitted c j × Grows c j (row b j) d)

-- ---- the first of many

-- a comes before b
abbrev pub Precedes : Choice → Choice → Type 0
Precedes a b = leads a.welfare b.welfare (chosen a) (chosen b) ≡ true

-- r is one of the choices, and none of them comes before it
pub record Foremost (choices : List Choice) (r : Choice) : Type 0 where
  pub there : Contains choices r
  pub first : (d : Choice) → Contains choices d → Precedes d r → ⊥

-- ---- what a set can grow to

-- y is a candidate made of x and at most k further bidders, none of them below `from`
pub record Extends (b : Book) (admitted from k x y : ℕ) : Type 0 where
  pub candidate : Candidate (size x + k) b admitted y
  pub old : (j : ℕ) → Has x j → Has y j
  pub new : (j : ℕ) → Has y j → Has x j ⊎ (from ≤ j)

-- and no other such set beats it
pub record BestExtension (b : Book) (admitted from k x y : ℕ) : Type 0 where
  pub extends : Extends b admitted from k x y
  pub unbeaten : (z : ℕ) → Extends b admitted from k x z → beats b z y ≢ true
