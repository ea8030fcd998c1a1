-- The better of two lawful rules is lawful. That who wins still wins rests on both laws of both rules, not on monotone alone.
use Rattle.std.proofs.Common.{ℕ, ◌≤◌, arith}
use Rattle.std.proofs.lemmas.Bool.Decides.{nat_tests}
use Rattle.sets.specs.Members.{Has}
use Rattle.book.specs.Model.{Book, with_value, welfare}
use Rattle.rules.specs.Laws.{Rule, Asked, Raises, Monotone, Bitonic, Lawful}
use Rattle.layers.specs.Better.{better}

-- what the laws say of the rule f at one raise of j, from book b to book c
record Moves (b c : Book) (w j : ℕ) (f : Rule) : Type 0 where
  still_wins : Has (f b w) j → Has (f c w) j
  no_more : (Has (f b w) j → ⊥) → (Has (f c w) j → ⊥) → welfare c (f c w) ≤ welfare b (f b w)
  no_less : Has (f b w) j → Has (f c w) j → welfare b (f b w) ≤ welfare c (f c w)

better_moves : (b c : Book) (w j : ℕ) (f g : Rule) → Moves b c w j f → Moves b c w j g → Moves b c w j (better f g)
better_moves b c w j f g first second = record {
  still_wins = λ won. grind (arith, nat_tests);
  no_more = λ lost still. grind (arith, nat_tests);
  no_less = λ won still. grind (arith, nat_tests);
}

moves : (f : Rule) → Lawful f → (b : Book) (w j v : ℕ) → Asked b w → Raises b j v → Moves b (with_value j v b) w j f
moves f law b w j v asked raises = record {
  still_wins = law.monotone.still_wins b w j v asked raises;
  no_more = law.bitonic.no_more b w j v asked raises;
  no_less = law.bitonic.no_less b w j v asked raises;
}

pub better_lawful : (f g : Rule) → Lawful f → Lawful g → Lawful (better f g)
better_lawful f g lf lg =
    let both : (b : Book) (w j v : ℕ) → Asked b w → Raises b j v → Moves b (with_value j v b) w j (better f g) =
    λ b w j v asked raises.
    better_moves b (with_value j v b) w j f g (moves f lf b w j v asked raises) (moves g lg b w j v asked raises) in
    record {
      monotone = record {
        part = λ b w asked j. grind (arith, nat_tests, lf.monotone.part b w asked j, lg.monotone.part b w asked j);
        fit = λ b w asked. grind (arith, nat_tests, lf.monotone.fit b w asked, lg.monotone.fit b w asked);
        still_wins = λ b w j v asked raises. (both b w j v asked raises).still_wins;
      };
      bitonic = record {
        no_more = λ b w j v asked raises. (both b w j v asked raises).no_more;
        no_less = λ b w j v asked raises. (both b w j v asked raises).no_less;
      };
    }

module _ (f g : Rule) (f_monotone : Monotone f) (f_bitonic : Bitonic f) (g_monotone : Monotone g) (g_bitonic : Bitonic g) where
  both_lawful : Lawful (better f g)
  both_lawful =
      better_lawful f g (record { monotone = f_monotone; bitonic = f_bitonic }) (record { monotone = g_monotone; bitonic = g_bitonic })

  pub better_monotone : Monotone (better f g)
  better_monotone = both_lawful.monotone

  pub better_bitonic : Bitonic (better f g)
  better_bitonic = both_lawful.bitonic
