-- The rule `best` gives the best of few in every book that can exist.
use Rattle.std.specs.Prelude.{◌≡◌, ℕ, zero, suc, ◌^◌, ◌<◌, ◌≤◌, true, false, not, ◌&&◌, ◌||◌, length, Decides, ◌≢◌}
use Rattle.std.proofs.Math.Logic.{⊎_elim}
use Rattle.std.proofs.Common.{sym, arith}
use Rattle.std.proofs.Math.Path.{subst}
use Rattle.std.proofs.lemmas.Bool.{and_from, and_parts, both_ways, cases_Bool, cases_eq, cond-true, cond-false, eqb-true, eq-eqb, leb-true, le-leb, not_from_false, not-true, or_cases, or_left, or_right}
use Rattle.sets.specs.Members.{has, Within}
use Rattle.sets.proofs.Selected.{decides_every}
use Rattle.sets.proofs.Sums.{size_none}
use Rattle.sets.proofs.Words.{zero_none, below_within, within_below}
use Rattle.book.specs.Limits.{WithinLimits}
use Rattle.book.specs.Model.{Book, welfare}
use Rattle.rules.specs.Best.{Candidate, IsBest, beats, is_candidate, foremost, best, BestTheorems}
use Rattle.rules.specs.Feasible.{can_join}
use Rattle.rules.specs.Laws.{Asked}
use Rattle.rules.specs.Beating.{leads_one_way, leads_onward}
use Rattle.rules.specs.BestLaws.{one_best, best_lawful}
use Rattle.rules.specs.Feasibility.{fits_each, fits_none, beside_own}
use Rattle.rules.specs.Joining.{decides_join}

module _ (k : ℕ) (b : Book) (w : ℕ) where
  nobody : Candidate k b w 0
  nobody = record {
    feasible = record { part = λ j h. absurd (zero_none j h); fit = fits_none b (has 0) (λ j h. zero_none j (eqb-true _ _ h)) };
    few = omega (arith, size_none 0 zero_none);
  }

  decides_candidate : WithinLimits b → (x : ℕ) → Within (length b.rows) x → Decides (is_candidate k b w x) (Candidate k b w x)
  unfolding is_candidate
  decides_candidate limits x within =
      let each = decides_every (λ j. not (has x j) || can_join b w (has x) j) (length b.rows) in
      let joins = λ (j : ℕ). decides_join b limits w (has x) j (λ i h. within i (eqb-true _ _ h)) in (
        (λ yea.
            let parts = and_parts _ _ yea in
            let member = λ (j : ℕ) (h : has x j ≡ true).
            ⊎_elim (λ lacks. absurd (both_ways _ (not-true _ lacks) h)) (joins j).0
            (or_cases (not (has x j)) _ (each.0 parts.1 j (within j (eqb-true _ _ h)))) in
            record {
              feasible = record { part = λ j h. (member j (eq-eqb _ _ h)).0; fit = fits_each b (has x) (λ j h. (member j h).1) };
              few = leb-true _ _ parts.0;
            }),
        (λ c. and_from _ _ (le-leb _ _ c.few) (each.1 (λ j l.
            ⊎_elim
            (λ (h : has x j ≡ true).
            or_right (not (has x j)) _ ((joins j).1 (
              c.feasible.part j (eqb-true _ _ h),
              beside_own b (has x) (has x) j (λ _ own. own) c.feasible.fit h,
            )))
            (λ lacks. or_left (not (has x j)) _ (not_from_false _ lacks)) (cases_Bool (has x j))))),
      )

  -- y is a candidate, and none of those below m beats it
  record Leader (m y : ℕ) : Type 0 where
    candidate : Candidate k b w y
    unbeaten : (x : ℕ) → x < m → Candidate k b w x → beats b x y ≢ true

  leader_new : (m y : ℕ) → Leader m y → Candidate k b w m → beats b m y ≡ true → Leader (suc m) m
  leader_new m y lead new over = record {
    candidate = new;
    unbeaten = λ x l c ahead.
        ⊎_elim
        (λ (e : x ≡ m).
        leads_one_way (welfare b m) (welfare b m) m m (subst (λ z. beats b z m ≡ true) e ahead) (subst (λ z. beats b z m ≡ true) e ahead))
        (λ ne. lead.unbeaten x (omega arith) c (leads_onward (welfare b x) (welfare b m) (welfare b y) x m y ahead over)) (cases_eq x m);
  }

  leader_stays : (m y : ℕ) → Leader m y → (Candidate k b w m → beats b m y ≢ true) → Leader (suc m) y
  leader_stays m y lead behind = record {
    candidate = lead.candidate;
    unbeaten = λ x l c ahead.
        ⊎_elim (λ (e : x ≡ m). behind (subst (Candidate k b w) e c) (subst (λ z. beats b z y ≡ true) e ahead))
        (λ ne. lead.unbeaten x (omega arith) c ahead) (cases_eq x m);
  }

  leads_below : WithinLimits b → (m : ℕ) → m ≤ 2 ^ length b.rows → Leader m (foremost k b w m)
  unfolding foremost
  leads_below limits zero le = record { candidate = nobody; unbeaten = λ x l. absurd (omega arith) }
  leads_below limits (suc m) le =
      let y = foremost k b w m in
      let lead = leads_below limits m (omega arith) in
      let is = decides_candidate limits m (below_within (length b.rows) m (omega arith)) in
      ⊎_elim
      (λ (yea : (is_candidate k b w m && beats b m y) ≡ true).
      let parts = and_parts _ _ yea in
      subst (Leader (suc m)) (sym (cond-true _ m y yea)) (leader_new m y lead (is.0 parts.0) parts.1))
      (λ (nay : (is_candidate k b w m && beats b m y) ≡ false).
      subst (Leader (suc m)) (sym (cond-false _ m y nay)) (leader_stays m y lead (λ c over. both_ways _ nay (and_from _ _ (is.1 c) over))))
      (cases_Bool (is_candidate k b w m && beats b m y))

is_best : (k : ℕ) (b : Book) (w : ℕ) → Asked b w → IsBest k b w (best k b w)
is_best k b w asked =
    let n = length b.rows in
    let lead = leads_below k b w asked.limits (2 ^ n) (omega arith) in
    record {
      candidate = lead.candidate;
      unbeaten = λ x c. lead.unbeaten x (within_below n x (λ j h. (c.feasible.part j h).exists)) c;
    }

pub best_theorems : (k : ℕ) → BestTheorems k
best_theorems k = record { found = is_best k; one = one_best k; lawful = best_lawful k (best k) (is_best k) }
