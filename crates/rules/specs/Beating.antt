-- Which of two sets is the better, by welfare and then by the lower word: a strict order of words.
use Rattle.std.specs.Prelude.{◌≡◌, ℕ, ◌≤◌, true, ◌≢◌}
use Rattle.std.proofs.Common.{arith}
use Rattle.ranking.specs.Rankings.{leads}

module _ (p q i j : ℕ) where
  -- what does not lead is not greater, and if it is equal its word is no lower
  pub leads_not : (leads p q i j ≢ true) → (p ≤ q) × (p ≡ q → j ≤ i)
  leads_not behind = (grind arith, λ same. grind arith)

  pub leads_one_way : leads p q i j ≡ true → leads q p j i ≢ true
  leads_one_way there back = grind arith

  pub leads_neither : (leads p q i j ≢ true) → (leads q p j i ≢ true) → i ≡ j
  leads_neither behind ahead = grind arith

pub leads_onward : (p q r i j k : ℕ) → leads p q i j ≡ true → leads q r j k ≡ true → leads p r i k ≡ true
leads_onward p q r i j k first second = grind arith

pub leads_not_onward : (p q r i j k : ℕ) → (leads p q i j ≢ true) → (leads q r j k ≢ true) → leads p r i k ≢ true
leads_not_onward p q r i j k first second lead = grind arith
