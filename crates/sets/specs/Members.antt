-- A set of things numbered from 0 to 63, held as a 64-bit word: thing i is a member exactly if bit i is set.
use Rattle.std.specs.Prelude.{◌≡◌, ℕ, zero, suc, ◌+◌, ◌/◌, ◌%◌, ◌^◌, ◌<◌, Bool, true, cond, ◌&&◌, ◌⊎◌, ◌↔◌, ◌==◌, ◌≢◌}

-- thing i is a member of w
abbrev pub Has : ℕ → ℕ → Type 0
Has w i = w / 2 ^ i % 2 ≡ 1

-- the same as a test
abbrev pub has : ℕ → ℕ → Bool
has w i = w / 2 ^ i % 2 == 1

-- w has no member
abbrev pub NoMember : ℕ → Type 0
NoMember w = (k : ℕ) → Has w k → ⊥

-- every member of w is below n
abbrev pub Within : ℕ → ℕ → Type 0
Within n w = (k : ℕ) → Has w k → k < n

-- some thing is in a and in b
abbrev pub Meet : ℕ → ℕ → Type 0
Meet a b = (k : ℕ) × Has a k × Has b k

-- ---- r is made of other sets; a number past 63 is a member of none

-- exactly i
abbrev pub Single : ℕ → ℕ → Type 0
Single i r = (k : ℕ) → Has r k ↔ ((k ≡ i) × (k < 64))

-- exactly the things below n
abbrev pub AllBelow : ℕ → ℕ → Type 0
AllBelow n r = (k : ℕ) → Has r k ↔ ((k < n) × (k < 64))

-- the members of w, and i
abbrev pub Adds : ℕ → ℕ → ℕ → Type 0
Adds w i r = (k : ℕ) → Has r k ↔ (Has w k ⊎ ((k ≡ i) × (k < 64)))

-- the members of w but for i
abbrev pub Drops : ℕ → ℕ → ℕ → Type 0
Drops w i r = (k : ℕ) → Has r k ↔ (Has w k × (k ≢ i))

-- the members of a and of b
abbrev pub Joins : ℕ → ℕ → ℕ → Type 0
Joins a b r = (k : ℕ) → Has r k ↔ (Has a k ⊎ Has b k)

-- ---- sets by a test

-- the word of the things below n that pass the test
unfoldable pub those : (ℕ → Bool) → ℕ → ℕ
those test zero = 0
those test (suc n) = those test n + cond (test n) (2 ^ n) 0

-- every number below n passes the test
unfoldable pub every : (ℕ → Bool) → ℕ → Bool
every test zero = true
every test (suc n) = test n && every test n

-- ---- the lowest

-- i is the lowest member of w
abbrev pub Lowest : ℕ → ℕ → Type 0
Lowest w i = Has w i × ((k : ℕ) → k < i → Has w k → ⊥)

-- i is the lowest of the things that are in a and in b
abbrev pub LowestCommon : ℕ → ℕ → ℕ → Type 0
LowestCommon a b i = Has a i × Has b i × ((k : ℕ) → k < i → Has a k → Has b k → ⊥)

-- ---- sums over members

-- the sum of f over the members of w that are below n
abbrev pub sum_over : ℕ → (ℕ → ℕ) → ℕ → ℕ
sum_over w f zero = 0
sum_over w f (suc n) = sum_over w f n + cond (has w n) (f n) 0

-- how many members w has
unfoldable pub size : ℕ → ℕ
size w = sum_over w (λ _. 1) 64
