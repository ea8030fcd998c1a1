-- Sums over the members of a word, and how many members it can have.
use Rattle.std.proofs.Common.{◌≡◌, ℕ, zero, suc, ◌+◌, ◌*◌, ◌^◌, ◌<◌, ◌≤◌, refl, inl, suc-mul, arith}
use Rattle.std.specs.Int.{w64, trailing_zeros}
use Rattle.std.proofs.lemmas.Bool.{cases_eq}
use Rattle.std.proofs.lemmas.Bool.Decides.{nat_tests}
use Rattle.sets.specs.Members.{Has, NoMember, Adds, sum_over, size}
use Rattle.sets.proofs.Words.{zero_none, some_pos, trailing_has, below_within}

pub sum_le : (w : ℕ) (f g : ℕ → ℕ) (n : ℕ) → ((k : ℕ) → Has w k → f k ≤ g k) → sum_over w f n ≤ sum_over w g n
sum_le w f g zero le = omega arith
sum_le w f g (suc n) le = grind (arith, nat_tests, sum_le w f g n le, le n)

pub sum_at_most : (w : ℕ) (f : ℕ → ℕ) (m n : ℕ) → ((k : ℕ) → k < n → f k ≤ m) → sum_over w f n ≤ n * m
sum_at_most w f m zero le = omega arith
sum_at_most w f m (suc n) le = grind (arith, nat_tests, suc-mul n m, sum_at_most w f m n (λ k l. le k (omega arith)), le n)

pub sum_none : (w : ℕ) (f : ℕ → ℕ) (n : ℕ) → NoMember w → sum_over w f n ≡ 0
sum_none w f zero none = refl
sum_none w f (suc n) none = grind (arith, nat_tests, sum_none w f n none, none n)

-- ---- of two sets

pub sum_part : (x z : ℕ) (f : ℕ → ℕ) (n : ℕ) → ((k : ℕ) → k < n → Has x k → Has z k) → sum_over x f n ≤ sum_over z f n
sum_part x z f zero part = omega arith
sum_part x z f (suc n) part = grind (arith, nat_tests, sum_part x z f n (λ k l. part k (omega arith)), part n)

-- z has the members of x, and j
pub sum_larger : (x z j : ℕ) (f : ℕ → ℕ) → Has z j → (Has x j → ⊥)
    → (n : ℕ) → ((k : ℕ) → Has x k → Has z k) → j < n → sum_over x f n + f j ≤ sum_over z f n
sum_larger x z j f here new zero part l = absurd (omega arith)
sum_larger x z j f here new (suc n) part l =
    grind (arith, nat_tests, cases_eq j n, sum_larger x z j f here new n part, sum_part x z f n (λ k _. part k), part n)

-- one member more
pub sum_adds : (x j z : ℕ) (f : ℕ → ℕ) (n : ℕ) → Adds x j z → (Has x j → ⊥) → j < n → j < 64 → sum_over z f n ≡ sum_over x f n + f j
sum_adds x j z f zero adds new l low = absurd (omega arith)
sum_adds x j z f (suc n) adds new l low =
    let less = sum_part x z f n (λ k _ h. (adds k).1 (inl h)) in
    let more : j ≡ n → sum_over z f n ≤ sum_over x f n = λ e. sum_part z x f n (λ k under h. grind (arith, (adds k).0 h)) in
    grind (arith, nat_tests, cases_eq j n, sum_adds x j z f n adds new, less, more, adds n)

-- ---- how many

sum_few : (w n : ℕ) → sum_over w (λ _. 1) n ≤ n
sum_few w n = omega (arith, sum_at_most w (λ _. 1) 1 n (λ k l. omega arith))

sum_some : (w k n : ℕ) → Has w k → k < n → 1 ≤ sum_over w (λ _. 1) n
sum_some w k n h l = omega (arith, sum_larger 0 w k (λ _. 1) h (zero_none k) n (λ i z. absurd (zero_none i z)) l)

pub size_few : (w : ℕ) → size w ≤ 64
unfolding size
size_few w = sum_few w 64

pub size_none : (w : ℕ) → NoMember w → size w ≡ 0
unfolding size
size_none w none = sum_none w (λ _. 1) 64 none

-- one member more
pub size_adds : (x j z : ℕ) → Adds x j z → (Has x j → ⊥) → j < 64 → size z ≡ size x + 1
unfolding size
size_adds x j z adds new low = sum_adds x j z (λ _. 1) 64 adds new low low

size_larger : (x z j : ℕ) → Has z j → (Has x j → ⊥) → ((k : ℕ) → Has x k → Has z k) → j < 64 → size x + 1 ≤ size z
unfolding size
size_larger x z j here new part low = sum_larger x z j (λ _. 1) here new 64 part low

-- a set with all members of another, and not more of them, is the same
pub size_same : (x z : ℕ) → z < 2 ^ 64 → ((k : ℕ) → Has x k → Has z k) → size z ≤ size x → (k : ℕ) → Has z k → Has x k
size_same x z word part few k h =
    grind (arith, λ (new : Has x k → ⊥). size_larger x z k h new part (below_within 64 z word k h))

pub size_some : (w : ℕ) → w < 2 ^ 64 → (NoMember w → ⊥) → 1 ≤ size w
unfolding size
size_some w b some =
    let low = trailing_has w b (some_pos w some) in
    sum_some w (trailing_zeros w64 w) 64 low (below_within 64 w b (trailing_zeros w64 w) low)
