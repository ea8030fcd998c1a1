-- A choice and one bidder more.
use Rattle.std.proofs.Common.{ℕ, ◌+◌, ◌^◌, ◌<◌, length, sym, subst, inl, inr, ⊎_elim, arith}
use Rattle.std.proofs.lemmas.Bool.{eqb-true, eq-eqb}
use Rattle.sets.specs.Members.{Has, has, Adds}
use Rattle.sets.proofs.Sums.{sum_adds}
use Rattle.book.specs.Limits.{WithinLimits}
use Rattle.book.specs.Model.{Book, row}
use Rattle.book.proofs.Welfare.{welfare_bounded}
use Rattle.rules.specs.declared.choices.Choice.{Choice}
use Rattle.rules.specs.Choices.{chosen, Sound, Free, Grows}
use Rattle.rules.specs.Feasible.{FitsBeside}
use Rattle.rules.specs.Laws.{TakesPart}
use Rattle.rules.specs.Feasibility.{fits_with}
use Rattle.rules.proofs.Taken.{free_fits, fits_free, taken_more}

module _ (b : Book) (w : ℕ) (c : Choice) (sound : Sound b w c) (j : ℕ) where
  abbrev x : ℕ
  x = chosen c

  abbrev taken : ℕ
  taken = c.allotment.taken.word

  pub beside_free : (Has x j → ⊥) → TakesPart b w j → FitsBeside b (has x) j → Free b w c j
  beside_free new part fits = (part, fits_free b x taken sound.items j new fits)

  module _ (limits : WithinLimits b) (exists : j < length b.rows) where
    -- the sum of the values fits 64 bits
    pub sum_fits : c.welfare + (row b j).value < 2 ^ 64
    sum_fits =
        let sum = welfare_bounded b limits x in
        let one = (limits.each_row j exists).priced in
        omega (arith, sound.worth, limits.few_rows)

    pub sound_grown : (Has x j → ⊥) → Free b w c j → (r : Choice) → Grows c j (row b j) r → Sound b w r
    sound_grown new (part, free) r grows =
        let adds : Adds x j (chosen r) = grows.grants.0 in
        let low : j < 64 = omega (arith, limits.few_rows) in
        let value : ℕ → ℕ = λ i. (row b i).value in
        record {
          feasible = record {
            part = λ i h. ⊎_elim (sound.feasible.part i) (λ own. subst (TakesPart b w) (sym own.0) part) ((adds i).0 h);
            fit = fits_with b (has x) (has (chosen r)) j sound.feasible.fit (free_fits b x taken sound.items j free)
                (λ i h. ⊎_elim (λ old. inr (eq-eqb _ _ old)) (λ own. inl own.0) ((adds i).0 (eqb-true _ _ h)));
          };
          items = taken_more b x taken sound.items j (chosen r) r.allotment.taken.word low adds grows.grants.1;
          worth =
              let more = sum_adds x j (chosen r) value (length b.rows) adds new exists low in omega (arith, grows.worth, sound.worth);
        }
