use Rattle.std.proofs.Common.{◌≡◌, drop}
use Rattle.book.specs.Limits.{WithinLimits}
use Rattle.book.specs.Runs.{run}
use Rattle.book.proofs.open.OpenBook.make.Given as goal

-- the calls that are left lead to where all of them lead, and the limits are kept
abbrev pub invariant-loop-call : goal.invariant-loop-call
invariant-loop-call l =
    (run (drop l.call-index l.calls) l.self ≡ run l.calls l.initial.self) × (WithinLimits l.initial.self → WithinLimits l.self)
