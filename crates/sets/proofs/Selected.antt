-- The things that pass a test.
use Rattle.std.proofs.Common.{◌≡◌, ℕ, zero, suc, ◌+◌, ◌-◌, ◌*◌, ◌^◌, ◌<◌, Bool, true, ◌⊎◌, ◌↔◌, Decides, refl, arith}
use Rattle.std.proofs.lemmas.Bool.{cases_Bool, cases_eq, cases_order}
use Rattle.std.proofs.lemmas.Bool.Decides.{Decides-below_and}
use Rattle.std.proofs.lemmas.Nat.Bits.{bit_at-pow_same, bit_at-pow_other, bit_at_above, bit_at_cat_low, bit_at_cat_high}
use Rattle.sets.specs.Members.{Has, those, every}
use Rattle.sets.proofs.Words.{zero_none, within_below}

-- n put on top of a set of things below n
topped : (r n k : ℕ) → r < 2 ^ n → Has (r + 2 ^ n) k ↔ (Has r k ⊎ (k ≡ n))
topped r n k small =
    let same : r + 2 ^ n ≡ 1 * 2 ^ n + r = omega arith in
    let low = bit_at_cat_low 1 n r k in
    let high = bit_at_cat_high 1 n r k small in
    rw same (grind (arith, cases_order k n, low, high, bit_at_above r n k small, bit_at-pow_same 0, bit_at-pow_other 0 (k - n)))

-- the things below n that pass a test
pub those_selects : (test : ℕ → Bool) (n k : ℕ) → Has (those test n) k ↔ ((k < n) × (test k ≡ true))
unfolding those
those_selects test zero k = grind (arith, zero_none k)
those_selects test (suc n) k =
    let below = those_selects test n in
    let top = topped (those test n) n k (within_below n (those test n) (λ m h. ((below m).0 h).0)) in
    grind (arith, cases_Bool (test n), cases_eq k n, below k, top)

-- whether all below n do
pub decides_every : (test : ℕ → Bool) (n : ℕ) → Decides (every test n) ((k : ℕ) → k < n → test k ≡ true)
unfolding every
decides_every test = Decides-below_and test (λ k. test k ≡ true) (every test) (λ k. (λ yea. yea, λ yea. yea)) refl (λ _. refl)
