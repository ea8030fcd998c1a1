-- A round admits all.
use Rattle.std.specs.Prelude.{ℕ, ◌-◌, ◌^◌}

-- the word of all 64 numbers that a bidder can have
unfoldable pub everyone : ℕ
everyone = 2 ^ 64 - 1
