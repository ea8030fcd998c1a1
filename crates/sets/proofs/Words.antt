-- The members of a word, and the functions on words. Words below 2 ^ n with the same members are equal.
use Rattle.std.proofs.Common.{◌≡◌, ℕ, zero, suc, ◌+◌, ◌-◌, ◌*◌, ◌/◌, ◌%◌, ◌^◌, ◌<◌, ◌≤◌, not, eqb, ◌↔◌, Some, None, Decides, Option, ap, ◌∙◌, add-one, arith, shr-shr, MatchOption}
use Rattle.std.proofs.Math.Nat.{div-eq_of_lt, lt-div-mul-add}
use Rattle.std.specs.Int.{w64, trailing_zeros}
use Rattle.std.specs.Int.RustNames.{bit_and, count_ones}
use Rattle.std.proofs.lemmas.Nat.{mod-pow-add, and_le_l, ones_cat, ones_le_self, zero_from_ones, mod_below, pow_pos, one_shl}
use Rattle.std.proofs.lemmas.Nat.Bits.{bit_at_and, bit_at_or, bit_at_not, bit_at_ones, bit_at_ones_above, bit_at_above, bit_at-pow_same, bit_at-pow_other, bit_at-trailing_zeros, same_from_bits, same_from_bits_below}
use Rattle.std.proofs.lemmas.Bool.{cases_lt}
use Rattle.std.proofs.lemmas.Bool.Decides.{nat_tests, Decides-eqb, Decides-like, Decides-not}
use Rattle.sets.specs.Members.{Has, NoMember, AllBelow, Meet, Within, Lowest, LowestCommon, sum_over, size}

-- ---- words with the same members

pub same_words : (n a b : ℕ) → a < 2 ^ n → b < 2 ^ n → ((k : ℕ) → Has a k → Has b k) → ((k : ℕ) → Has b k → Has a k) → a ≡ b
same_words n a b p q to from = same_from_bits_below n a b p q (λ k _. grind (arith, to k, from k))

pub zero_none : NoMember 0
zero_none k h = omega arith

pub none_zero : (w : ℕ) → NoMember w → w ≡ 0
none_zero w none = same_from_bits w 0 (λ k. omega (arith, none k))

-- a word with a member is not 0
pub some_pos : (w : ℕ) → (NoMember w → ⊥) → 0 < w
some_pos zero h = absurd (h zero_none)
some_pos (suc w) h = omega arith

-- ---- members below a bound

pub below_within : (n w : ℕ) → w < 2 ^ n → Within n w
below_within n w b k h = grind (arith, bit_at_above w n k b)

below_high : (n w : ℕ) → w / 2 ^ n ≡ 0 → w < 2 ^ n
below_high n w e = grind (arith, lt-div-mul-add {a = w} (pow_pos n))

pub within_below : (n w : ℕ) → Within n w → w < 2 ^ n
within_below n w h = below_high n w (none_zero (w / 2 ^ n) (λ k p. grind (arith, h (n + k), shr-shr w n k)))

pub decides_within : (n w : ℕ) → Decides (eqb (w / 2 ^ n) 0) (Within n w)
decides_within n w =
    Decides-like _ (λ e. below_within n w (below_high n w e)) (λ h. div-eq_of_lt (within_below n w h)) (Decides-eqb (w / 2 ^ n) 0)

-- ---- the bits of 2 ^ n - 1

pub all_ones : (n : ℕ) → n ≤ 64 → AllBelow n (2 ^ n - 1)
all_ones n l k = grind (arith, cases_lt k n, bit_at_ones n k, bit_at_ones_above n k)

-- ---- the bits of a word: none past its length, all of `u64::MAX`, that of `1 << i`, the others of `!w`

pub past_word : (w k : ℕ) → w < 2 ^ 64 → 64 ≤ k → w / 2 ^ k % 2 ≡ 0
past_word w k = bit_at_above w 64 k

pub whole_word : (k : ℕ) → k < 64 → (2 ^ 64 - 1) / 2 ^ k % 2 ≡ 1
whole_word k = bit_at_ones 64 k

pub one_in_word : (i : ℕ) → i < 64 → 1 * 2 ^ i % 2 ^ 64 ≡ 2 ^ i
one_in_word i = one_shl i 64

pub not_word : (w k : ℕ) → w < 2 ^ 64 → k < 64 → (2 ^ 64 - 1 - w) / 2 ^ k % 2 ≡ 1 - w / 2 ^ k % 2
not_word = bit_at_not w64

-- ---- the lowest member

pub trailing_has : (w : ℕ) → w < 2 ^ 64 → 0 < w → Has w (trailing_zeros w64 w)
trailing_has w b p = (bit_at-trailing_zeros w64 w p b).1

pub trailing_first : (w k : ℕ) → w < 2 ^ 64 → 0 < w → k < trailing_zeros w64 w → w / 2 ^ k % 2 ≡ 0
trailing_first w k b p = (bit_at-trailing_zeros w64 w p b).2 k

-- ---- no member, a common member

pub decides_empty : (w : ℕ) → Decides (eqb w 0) (NoMember w)
decides_empty w = Decides-like _ (λ (e : w ≡ 0). rw e zero_none) (none_zero w) (Decides-eqb w 0)

common_and : (a b k : ℕ) → Has (bit_and a b) k ↔ (Has a k × Has b k)
common_and a b k = grind (arith, bit_at_and a b k)

-- two words have a common member exactly if their `&` is not 0
pub decides_meet : (a b : ℕ) → a < 2 ^ 64 → Decides (not (eqb (bit_and a b) 0)) (Meet a b)
decides_meet a b la =
    Decides-like _
    (λ some.
    let both = (common_and a b _).0 (trailing_has (bit_and a b) (omega (arith, and_le_l a b)) (omega arith)) in
    (trailing_zeros w64 (bit_and a b), both.0, both.1))
    (λ m e. zero_none m.0 (rw e at ((common_and a b m.0).1 (m.1, m.2))))
    (Decides-not _ (Decides-eqb (bit_and a b) 0))

pub lowest_common : (o : Option ℕ) (a b : ℕ) → MatchOption o (NoMember (bit_and a b)) (Lowest (bit_and a b))
    → MatchOption o (Meet a b → ⊥) (LowestCommon a b)
lowest_common None a b none = λ m. grind (arith, bit_at_and a b)
lowest_common (Some i) a b low = grind (arith, bit_at_and a b)

-- ---- sums over members

-- one place more
pub sum_with : (w : ℕ) (f : ℕ → ℕ) (n : ℕ) → Has w n → sum_over w f (n + 1) ≡ sum_over w f n + f n
sum_with w f n h = rw (add-one n) (grind (arith, nat_tests))

pub sum_without : (w : ℕ) (f : ℕ → ℕ) (n : ℕ) → (Has w n → ⊥) → sum_over w f (n + 1) ≡ sum_over w f n
sum_without w f n h = rw (add-one n) (grind (arith, nat_tests))

sum_ones : (w n : ℕ) → count_ones (w % 2 ^ n) ≡ sum_over w (λ _. 1) n
sum_ones w zero = omega (arith, ones_le_self (w % 2 ^ 0))
sum_ones w (suc n) =
    let next : suc n ≡ 1 + n = omega arith in
    let digits = ap (λ (m : ℕ). w % 2 ^ m) next ∙ mod-pow-add w 1 n in
    let apart = ones_cat n (w / 2 ^ n % 2) (w % 2 ^ n) (mod_below w (2 ^ n) (pow_pos n)) in
    ap count_ones digits ∙ apart ∙ grind (arith, nat_tests, sum_ones w n, ones_le_self, zero_from_ones)

pub ones_size : (w : ℕ) → w < 2 ^ 64 → count_ones w ≡ size w
unfolding size
ones_size w b = ap count_ones (omega arith) ∙ sum_ones w 64

-- what the functions on words go by
pub ruleset members = (
  past_word,
  whole_word,
  one_in_word,
  not_word,
  bit_at_and,
  bit_at_or,
  bit_at-pow_same,
  bit_at-pow_other,
  all_ones,
  decides_within,
  decides_empty,
  trailing_has,
  trailing_first,
  lowest_common,
  ones_size,
)
