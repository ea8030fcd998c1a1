-- Comparing x / u with y / v by x * v and y * u is an order, where no weight is 0.
use Rattle.std.specs.Prelude.{◌≡◌, ℕ, ◌*◌, ◌<◌, ◌≤◌, true}
use Rattle.std.proofs.Common.{mul-le-mul_left, mul-le-mul_right, le_of_mul-le-mul_right, arith}
use Rattle.ranking.specs.Rankings.{leads}

-- x / u ≥ y / v and y / v ≥ z / w give x / u ≥ z / w
cross_le : (x u y v z w : ℕ) → 0 < v → y * u ≤ x * v → z * v ≤ y * w → z * u ≤ x * w
cross_le x u y v z w pos first second =
    let goal : (z * u) * v ≤ (x * w) * v = omega (arith, mul-le-mul_left u second, mul-le-mul_left w first) in
    le_of_mul-le-mul_right goal pos

-- the greater measure leads; e and f are equal only where a and b are, and c and d
onward : (a b c d e f i j k : ℕ) → f ≤ e → (e ≤ f → a ≤ b) → (e ≤ f → c ≤ d)
    → leads a b i j ≡ true → leads c d j k ≡ true → leads e f i k ≡ true
onward a b c d e f i j k more first_equal second_equal first second = grind arith

module _ (x u y v z w : ℕ) (u_pos : 0 < u) (v_pos : 0 < v) (w_pos : 0 < w) (i j k : ℕ) where
  pub leads_transitive : leads (x * v) (y * u) i j ≡ true → leads (y * w) (z * v) j k ≡ true → leads (x * w) (z * u) i k ≡ true
  leads_transitive p q =
      let first : y * u ≤ x * v = grind arith in
      let second : z * v ≤ y * w = grind arith in
      onward (x * v) (y * u) (y * w) (z * v) (x * w) (z * u) i j k (cross_le x u y v z w v_pos first second)
      (cross_le y v z w x u w_pos second) (λ h. cross_le z w x u y v u_pos h first) p q

pub leads_raised : (x t u y v i j : ℕ) → x ≤ t → leads (x * v) (y * u) i j ≡ true → leads (t * v) (y * u) i j ≡ true
leads_raised x t u y v i j more first = let h : x * v ≤ t * v = mul-le-mul_right v more in grind arith
