-- Greedy half way: who has had its turn is settled, and who still waits comes after all of them.
use Rattle.std.proofs.Common.{◌≡◌, ℕ, ◌<◌, ◌↔◌, length, sym, refl, subst, inl, inr, ⊎_elim}
use Rattle.std.proofs.lemmas.Bool.{cases_eq, eqb-true, eq-eqb}
use Rattle.sets.specs.Members.{Has, has, NoMember, Adds}
use Rattle.book.specs.Limits.{WithinLimits}
use Rattle.book.specs.Model.{Book}
use Rattle.ranking.specs.Rankings.{RowOrder, Ranks}
use Rattle.rules.specs.Feasible.{FitsBeside}
use Rattle.rules.specs.Greedy.{IsGreedy, ahead}
use Rattle.rules.specs.Laws.{TakesPart}
use Rattle.rules.specs.Ahead.{ChosenAt, ahead_parts, ahead_from, ahead_inside}
use Rattle.rules.specs.Feasibility.{Inside, beside_part}
use Rattle.rules.specs.Turns.{Before, never_self, one_way}

-- it is known of j whether it wins
abbrev Settled : RowOrder → Book → ℕ → ℕ → ℕ → Type 0
Settled before b w winners j = ChosenAt before b w winners winners j

pub record Midway (before : RowOrder) (b : Book) (w : ℕ) (Waiting : ℕ → Type 0) (winners : ℕ) : Type 0 where
  pub part : (j : ℕ) → Waiting j → TakesPart b w j
  pub later : (j k : ℕ) → Waiting j → TakesPart b w k → (Waiting k → ⊥) → Before before b k j
  pub losing : (j : ℕ) → Waiting j → Has winners j → ⊥
  pub settled : (j : ℕ) → (Waiting j → ⊥) → Settled before b w winners j

module _ (before : RowOrder) (b : Book) (w : ℕ) where
  pub midway_start : (Waiting : ℕ → Type 0) (winners : ℕ) → ((j : ℕ) → Waiting j ↔ TakesPart b w j) → NoMember winners →
      Midway before b w Waiting winners
  midway_start Waiting winners all none = record {
    part = λ j. (all j).0;
    later = λ j k h t gone. absurd (gone ((all k).1 t));
    losing = λ j h. none j;
    settled = λ j gone. ((λ h. absurd (none j h)), (λ h. absurd (gone ((all j).1 h.0))));
  }

  pub midway_end : (Waiting : ℕ → Type 0) (winners : ℕ) → Midway before b w Waiting winners → ((j : ℕ) → Waiting j → ⊥) →
      IsGreedy before b w winners
  midway_end Waiting winners mid nobody j = mid.settled j (nobody j)

  -- the turn of j, the first of those who wait
  module _ (ranks : Ranks before) (limits : WithinLimits b) (Waiting Rest : ℕ → Type 0) (winners j : ℕ)
      (mid : Midway before b w Waiting winners) (waits : Waiting j)
      (first : (k : ℕ) → Waiting k → (k ≡ j → ⊥) → Before before b j k)
      (rest : (k : ℕ) → Rest k ↔ (Waiting k × (k ≡ j → ⊥))) where
    had_turn : (k : ℕ) → (Rest k → ⊥) → (k ≡ j → ⊥) → Waiting k → ⊥
    had_turn k gone ne h = gone ((rest k).1 (h, ne))

    part_rest : (k : ℕ) → Rest k → TakesPart b w k
    part_rest k h = mid.part k ((rest k).0 h).0

    later_rest : (i k : ℕ) → Rest i → TakesPart b w k → (Rest k → ⊥) → Before before b k i
    later_rest i k h t gone =
        let i_rest = (rest i).0 h in
        ⊎_elim (λ (e : k ≡ j). subst (λ m. Before before b m i) (sym e) (first i i_rest.0 i_rest.1))
        (λ ne. mid.later i k i_rest.0 t (had_turn k gone ne)) (cases_eq k j)

    -- settled are j and all who were settled before
    settled_rest : (x : ℕ) → Settled before b w x j → ((k : ℕ) → (k ≡ j → ⊥) → (Waiting k → ⊥) → Settled before b w x k) →
        (k : ℕ) → (Rest k → ⊥) → Settled before b w x k
    settled_rest x own others k gone =
        ⊎_elim (λ (e : k ≡ j). subst (Settled before b w x) (sym e) own) (λ ne. others k ne (had_turn k gone ne)) (cases_eq k j)

    -- the winners so far come before j
    winner_first : (k : ℕ) → Has winners k → Before before b k j
    winner_first k h =
        let gone : Waiting k → ⊥ = λ wk. mid.losing k wk h in
        mid.later j k waits ((mid.settled k gone).0 h).0 gone

    -- j does not fit beside them
    pub midway_skip : (FitsBeside b (has winners) j → ⊥) → Midway before b w Rest winners
    midway_skip clash = record {
      part = part_rest;
      later = later_rest;
      losing = λ k h. mid.losing k ((rest k).0 h).0;
      settled = settled_rest winners (
        (λ h. absurd (mid.losing j waits h)),
        (λ h. absurd (clash (beside_part b (has winners) (ahead before b winners j) j all_ahead h.1))),
      )
          (λ k ne gone. mid.settled k gone);
    }
      where
        all_ahead : Inside (has winners) (ahead before b winners j)
        all_ahead k h = let won = eqb-true _ _ h in ahead_from before b winners j k won (winner_first k won)

    -- j fits, and wins
    module _ (fits : FitsBeside b (has winners) j) (more : ℕ) (adds : Adds winners j more) (low : j < 64) where
      j_exists : j < length b.rows
      j_exists = (mid.part j waits).exists

      old_more : (k : ℕ) → Has winners k → Has more k
      old_more k h = (adds k).1 (inl h)

      more_old : (k : ℕ) → (k ≡ j → ⊥) → Has more k → Has winners k
      more_old k ne h = ⊎_elim (λ old. old) (λ new. absurd (ne new.0)) ((adds k).0 h)

      -- those ahead of j are the winners so far
      ahead_own : Inside (ahead before b more j) (has winners)
      ahead_own k h =
          let parts = ahead_parts before b more j k h in
          let other : k ≡ j → ⊥ = λ e. never_self before ranks b limits j j_exists (subst (λ m. Before before b m j) e parts.1) in
          eq-eqb _ _ (more_old k other parts.0)

      -- j is not ahead of one who had its turn
      not_ahead : (k : ℕ) → TakesPart b w k → (Waiting k → ⊥) → (m : ℕ) → Before before b m k → m ≡ j → ⊥
      not_ahead k t gone m ahead_k e =
          one_way before ranks b limits j k j_exists t.exists (subst (λ i. Before before b i k) e ahead_k) (mid.later j k waits t gone)

      settled_other : (k : ℕ) → (k ≡ j → ⊥) → (Waiting k → ⊥) → Settled before b w more k
      settled_other k ne gone =
          let old = mid.settled k gone in
          let now = ahead before b more k in
          let then = ahead before b winners k in (
            (λ h.
                let was = old.0 (more_old k ne h) in
                let fewer = ahead_inside before b b more winners k
                (λ m hm first_m. (more_old m (not_ahead k was.0 gone m first_m) hm, first_m)) in
                (was.0, beside_part b now then k fewer was.1)),
            (λ h.
                let fewer = ahead_inside before b b winners more k (λ m hm first_m. (old_more m hm, first_m)) in
                old_more k (old.1 (h.0, beside_part b then now k fewer h.1))),
          )

      pub midway_take : Midway before b w Rest more
      midway_take = record {
        part = part_rest;
        later = later_rest;
        losing = λ k h won. let k_rest = (rest k).0 h in mid.losing k k_rest.0 (more_old k k_rest.1 won);
        settled = settled_rest more (
          (λ h. (mid.part j waits, beside_part b (ahead before b more j) (has winners) j ahead_own fits)),
          (λ h. (adds j).1 (inr (refl, low))),
        )
            settled_other;
      }
