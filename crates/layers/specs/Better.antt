-- The better of two rules.
use Rattle.std.specs.Prelude.{◌≡◌, ℕ, ◌<◌, ◌≤◌, cond, ◌⊎◌, nat_le}
use Rattle.book.specs.Model.{Book, welfare}
use Rattle.rules.specs.Laws.{Rule}

-- r is x if its welfare is at least that of y, otherwise y
abbrev pub BetterOf : Book → ℕ → ℕ → ℕ → Type 0
BetterOf b x y r = ((welfare b y ≤ welfare b x) × (r ≡ x)) ⊎ ((welfare b x < welfare b y) × (r ≡ y))

-- the rule
abbrev pub better : Rule → Rule → Rule
better f g b w = cond (nat_le (welfare b (g b w)) (welfare b (f b w))) (f b w) (g b w)
