-- Feasibility as the program tests it: by the items that the winners take.
use Rattle.std.proofs.Common.{ℕ, ◌<◌, refl, subst, inl, inr, ⊎_elim}
use Rattle.std.proofs.lemmas.Bool.{eqb-true, eq-eqb}
use Rattle.sets.specs.Members.{Has, has, NoMember, Meet, Adds, Joins}
use Rattle.book.specs.Model.{Book, row}
use Rattle.rules.specs.Allotments.{Taken}
use Rattle.rules.specs.Feasible.{FitsBeside}

module _ (b : Book) (winners taken : ℕ) where
  pub taken_none : NoMember winners → NoMember taken → Taken b winners taken
  taken_none nobody nothing i = ((λ h. absurd (nothing i h)), (λ h. absurd (nobody h.0 h.1)))

  module _ (is : Taken b winners taken) (j : ℕ) where
    pub free_fits : (Meet (row b j).bundle.word taken → ⊥) → FitsBeside b (has winners) j
    unfolding FitsBeside
    free_fits free k h ne share = free (share.0, share.2, (is share.0).1 (k, eqb-true _ _ h, share.1))

    pub fits_free : (Has winners j → ⊥) → FitsBeside b (has winners) j → Meet (row b j).bundle.word taken → ⊥
    unfolding FitsBeside
    fits_free lost fits meet =
        let by = (is meet.0).0 meet.2 in
        fits by.0 (eq-eqb _ _ by.1) (λ e. lost (subst (Has winners) e by.1)) (meet.0, by.2, meet.1)

    pub taken_more : (more all : ℕ) → j < 64 → Adds winners j more → Joins taken (row b j).bundle.word all → Taken b more all
    taken_more more all low adds joins i = (
      (λ h.
          ⊎_elim (λ old. let by = (is i).0 old in (by.0, (adds by.0).1 (inl by.1), by.2))
          (λ new. (j, (adds j).1 (inr (refl, low)), new)) ((joins i).0 h)),
      (λ h.
          (joins i).1
          (⊎_elim (λ old. inl ((is i).1 (h.0, old, h.2))) (λ new. inr (subst (λ k. Has (row b k).bundle.word i) new.0 h.2))
          ((adds h.0).0 h.1))),
    )
