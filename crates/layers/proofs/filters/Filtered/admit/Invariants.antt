use Rattle.std.proofs.Common.{◌≡◌, ℕ, ◌<◌, true, ◌↔◌}
use Rattle.sets.specs.Members.{Has}
use Rattle.book.specs.Model.{row}
use Rattle.layers.proofs.filters.Filtered.admit.Given as goal

-- left are those of the members at first whose bundle passes, as far as they have been asked
abbrev pub invariant-loop-bidder : goal.invariant-loop-bidder
invariant-loop-bidder g l =
    let passes = λ (j : ℕ). g.T.BundleTest.meaning l.self.test (row l.book j).bundle.word in
    (j : ℕ) → Has l.left.word j ↔ (Has l.initial.left.word j × (j < l.bidder → passes j ≡ true))
