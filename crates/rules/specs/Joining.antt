-- Who takes part and can be served beside a set, by the tests.
use Rattle.std.proofs.Common.{rules, sym, ap, ◌∙◌, arith}
use Rattle.std.specs.Prelude.{◌≡◌, ℕ, ◌<◌, Bool, true, length, Decides, ◌≢◌, refl}
use Rattle.std.proofs.lemmas.Bool.{false≢true}
use Rattle.std.proofs.lemmas.Bool.Decides.{Decides-and}
use Rattle.book.specs.declared.row.Mark.{Mark}
use Rattle.book.specs.declared.row.Mark.TheVariants.{Standing, Withdrawn}
use Rattle.book.specs.Limits.{WithinLimits}
use Rattle.book.specs.Model.{Book, row}
use Rattle.book.specs.Runs.{is_standing, stands}
use Rattle.book.proofs.Stepping.{stands_passes}
use Rattle.rules.specs.Feasible.{FitsBeside, takes_part, can_join}
use Rattle.rules.specs.Laws.{TakesPart}
use Rattle.rules.specs.Feasibility.{decides_beside}

standing : (m : Mark) → (m ≢ Withdrawn) → m ≡ Standing
standing Standing there = refl
standing Withdrawn there = absurd (there refl)

pub decides_stands : (b : Book) (j : ℕ) → Decides (stands b j) ((j < length b.rows) × ((row b j).mark ≡ Standing))
decides_stands b j =
    let passes = stands_passes b j in (
      (λ yea. let h = passes.0 yea in (omega (arith, h.0), standing (row b j).mark h.1)),
      (λ h. passes.1 ((λ past. omega (arith, h.0)), λ gone. false≢true (ap is_standing (sym gone ∙ h.1)))),
    )

pub decides_part : (b : Book) (w j : ℕ) → Decides (takes_part b w j) (TakesPart b w j)
decides_part b w j = let up = decides_stands b j in search rules

pub decides_join : (b : Book) → WithinLimits b → (w : ℕ) (s : ℕ → Bool) (j : ℕ) → ((k : ℕ) → s k ≡ true → k < length b.rows) →
    Decides (can_join b w s j) (TakesPart b w j × FitsBeside b s j)
decides_join b limits w s j below = Decides-and _ _ (decides_part b w j) (decides_beside b limits s j below)
