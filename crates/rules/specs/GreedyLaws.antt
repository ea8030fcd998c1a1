-- At most one word is greedy, and a rule that gives it is lawful.
use Rattle.std.specs.Prelude.{◌≡◌, ℕ, ◌<◌, ◌≤◌, Bool, true, ◌⊎◌, ◌↔◌, length}
use Rattle.std.proofs.Common.{inl, inr, ⊎_elim, sym, subst, arith}
use Rattle.std.proofs.lemmas.Bool.{cases_eq, eqb-true, eq-eqb}
use Rattle.sets.specs.Members.{Has, has, Within}
use Rattle.sets.proofs.Words.{same_words, within_below}
use Rattle.book.specs.Limits.{WithinLimits}
use Rattle.book.specs.Model.{Book, with_value, welfare}
use Rattle.book.proofs.Revalued.{revalued_within, welfare_without, welfare_raised}
use Rattle.ranking.specs.Rankings.{RowOrder, Ranks}
use Rattle.rules.specs.Feasible.{Fits, FitsBeside}
use Rattle.rules.specs.Greedy.{ahead, IsGreedy}
use Rattle.rules.specs.Laws.{Rule, TakesPart, Asked, Raises, Lawful}
use Rattle.rules.specs.Ahead.{ChosenAt, ahead_parts, ahead_from, ahead_inside}
use Rattle.rules.specs.Feasibility.{Inside, fits_none, fits_with, beside_part, beside_own, fits_revalued, beside_revalued}
use Rattle.rules.specs.Raising.{part_revalued, asked_raised, still_before, was_before}
use Rattle.rules.specs.Turns.{Before, by_rank, find_last}

abbrev pub Chosen : RowOrder → Book → ℕ → ℕ → ℕ → Type 0
Chosen before b w u r = (j : ℕ) → ChosenAt before b w u r j

module _ (before : RowOrder) where
  -- where u has every member of u' that comes before j, j is chosen beside u' if it is beside u
  pub follows : (b : Book) (w u u' r r' j : ℕ) → Chosen before b w u r → Chosen before b w u' r' →
      ((k : ℕ) → Has u' k → Before before b k j → Has u k) → Has r j → Has r' j
  follows b w u u' r r' j of of' fewer won =
      let h = (of j).0 won in
      let part = ahead_inside before b b u' u j (λ k hk first. (fewer k hk first, first)) in
      (of' j).1 (h.0, beside_part b (ahead before b u' j) (ahead before b u j) j part h.1)

  -- every member has a row
  chosen_within : (b : Book) (w u r : ℕ) → Chosen before b w u r → Within (length b.rows) r
  chosen_within b w u r of j won = ((of j).0 won).0.exists

-- every member of s is in x, and is j or comes before it
abbrev UpTo : RowOrder → Book → ℕ → ℕ → (ℕ → Bool) → Type 0
UpTo before b x j s = (k : ℕ) → s k ≡ true → Has x k × ((k ≡ j) ⊎ Before before b k j)

module _ (before : RowOrder) (ranks : Ranks before) where
  -- ---- at most one word is greedy

  same_winners : (b : Book) (w x y : ℕ) → WithinLimits b → IsGreedy before b w x → IsGreedy before b w y →
      (j : ℕ) → j < length b.rows → Has x j ↔ Has y j
  same_winners b w x y limits gx gy =
      by_rank before ranks b limits (λ j. Has x j ↔ Has y j) (λ j lj earlier. (
        follows before b w x y x y j gx gy (λ k hk first. (earlier k (chosen_within before b w y y gy k hk) first).1 hk),
        follows before b w y x y x j gy gx (λ k hk first. (earlier k (chosen_within before b w x x gx k hk) first).0 hk),
      ))

  pub one_greedy : (b : Book) (w x y : ℕ) → Asked b w → IsGreedy before b w x → IsGreedy before b w y → x ≡ y
  one_greedy b w x y asked gx gy =
      let few = asked.limits.few_rows in
      let same = same_winners b w x y asked.limits gx gy in
      let lx = chosen_within before b w x x gx in
      let ly = chosen_within before b w y y gy in
      same_words 64 x y (within_below 64 x (λ j h. omega (arith, lx j h))) (within_below 64 y (λ j h. omega (arith, ly j h)))
      (λ j h. (same j (lx j h)).0 h) (λ j h. (same j (ly j h)).1 h)

  -- ---- greedy winners can be served together

  module _ (b : Book) (w x : ℕ) (limits : WithinLimits b) (greedy : IsGreedy before b w x) where
    -- a set of winners can be, if it can by its last member
    fits_by_last : (s : ℕ → Bool) → ((k : ℕ) → s k ≡ true → Has x k) →
        ((l : ℕ) → l < length b.rows → s l ≡ true → UpTo before b x l s → Fits b s) → Fits b s
    fits_by_last s won by =
        let below : (k : ℕ) → s k ≡ true → k < length b.rows = λ k h. chosen_within before b w x x greedy k (won k h) in
        ⊎_elim (λ none. fits_none b s (λ k h. none k (below k h) h))
        (λ (l, last). by l last.inside last.member (λ k h. (won k h, last.others k (below k h) h)))
        (find_last before ranks b limits s (length b.rows) (omega arith))

    fits_up_to : (j : ℕ) → j < length b.rows → Has x j → (s : ℕ → Bool) → UpTo before b x j s → Fits b s
    fits_up_to =
        by_rank before ranks b limits (λ j. Has x j → (s : ℕ → Bool) → UpTo before b x j s → Fits b s) (λ j lj earlier won s up.
        let e = ahead before b x j in
        let parts = ahead_parts before b x j in
        let fits = fits_by_last e (λ k h. (parts k h).0) (λ l ll hl. earlier l ll (parts l hl).1 (parts l hl).0 e) in
        fits_with b e s j fits ((greedy j).0 won).1
        (λ k h. ⊎_elim inl (λ first. inr (ahead_from before b x j k (up k h).0 first)) (up k h).1))

    greedy_fits : Fits b (has x)
    greedy_fits = fits_by_last (has x) (λ k h. eqb-true _ _ h) (λ l ll hl. fits_up_to l ll (eqb-true _ _ hl) (has x))

  -- ---- another value for j

  -- Winners who can be served together are greedy in a second book, if each other bidder has no fewer of them ahead of it there.
  still_greedy : (b c : Book) (w x : ℕ) → ((k : ℕ) → TakesPart b w k ↔ TakesPart c w k) →
      ((s : ℕ → Bool) (k : ℕ) → FitsBeside c s k → FitsBeside b s k) → Fits c (has x) → IsGreedy before b w x →
      ((k : ℕ) → TakesPart b w k → Has x k ⊎ Inside (ahead before b x k) (ahead before c x k)) → IsGreedy before c w x
  still_greedy b c w x part beside fits greedy no_fewer k =
      let there = ahead before c x k in (
        (λ won. (
          (part k).0 ((greedy k).0 won).0,
          beside_own c there (has x) k (λ m h. eq-eqb _ _ (ahead_parts before c x k m h).0) fits (eq-eqb _ _ won),
        )),
        (λ (takes, fit).
            let took = (part k).1 takes in
            ⊎_elim (λ won. won)
            (λ inside. (greedy k).1 (took, beside_part b (ahead before b x k) there k inside (beside there k fit))) (no_fewer k took)),
      )

  module _ (b : Book) (limits : WithinLimits b) (j v : ℕ) (raises : Raises b j v) (w x : ℕ) where
    -- with j among them, the winners are greedy after the raise too
    greedy_raised : IsGreedy before b w x → Has x j → IsGreedy before (with_value j v b) w x
    greedy_raised greedy won =
        still_greedy b (with_value j v b) w x (λ k. let part = part_revalued j v b w k in (part.1, part.0))
        (λ s k. (beside_revalued j v b s k).0) ((fits_revalued j v b (has x)).1 (greedy_fits b w x limits greedy)) greedy
        (λ k part.
        ⊎_elim (λ (e : k ≡ j). inl (subst (Has x) (sym e) won))
        (λ ne. inr (ahead_inside before b (with_value j v b) x x k (λ m hm first.
        (hm, still_before before ranks b limits j v raises m k ((greedy m).0 hm).0.exists part.exists ne first)))) (cases_eq k j))

    -- without j among them, winners after the raise were greedy before it
    greedy_lowered : IsGreedy before (with_value j v b) w x → (Has x j → ⊥) → IsGreedy before b w x
    greedy_lowered greedy lost =
        let part = part_revalued j v b w in
        let limits' = revalued_within j v b limits raises.priced in
        still_greedy (with_value j v b) b w x part
        (λ s k. (beside_revalued j v b s k).1) ((fits_revalued j v b (has x)).0 (greedy_fits (with_value j v b) w x limits' greedy)) greedy
        (λ k takes. inr (ahead_inside before (with_value j v b) b x x k (λ m hm first. (
          hm,
          was_before before ranks b limits j v raises m k ((part m).0 ((greedy m).0 hm).0).exists ((part k).0 takes).exists
              (λ e. lost (subst (Has x) e hm)) first,
        ))))

  -- ---- the laws

  module _ (f : Rule) (is : (b : Book) (w : ℕ) → Asked b w → IsGreedy before b w (f b w)) where
    module _ (b : Book) (w j v : ℕ) (asked : Asked b w) (raises : Raises b j v) where
      raised : Asked (with_value j v b) w
      raised = asked_raised b w j v asked raises

      -- if j wins, its raise changes no winner
      same_if_wins : Has (f b w) j → f b w ≡ f (with_value j v b) w
      same_if_wins won =
          one_greedy (with_value j v b) w (f b w) (f (with_value j v b) w) raised
          (greedy_raised b asked.limits j v raises w (f b w) (is b w asked) won) (is (with_value j v b) w raised)

      -- nor if it still loses then
      same_if_loses : (Has (f (with_value j v b) w) j → ⊥) → f b w ≡ f (with_value j v b) w
      same_if_loses lost =
          one_greedy b w (f b w) (f (with_value j v b) w) asked (is b w asked)
          (greedy_lowered b asked.limits j v raises w (f (with_value j v b) w) (is (with_value j v b) w raised) lost)

    pub greedy_lawful : Lawful f
    greedy_lawful = record {
      monotone = record {
        part = λ b w asked j won. ((is b w asked j).0 won).0;
        fit = λ b w asked. greedy_fits b w (f b w) asked.limits (is b w asked);
        still_wins = λ b w j v asked raises won. subst (λ x. Has x j) (same_if_wins b w j v asked raises won) won;
      };
      bitonic = record {
        no_more = λ b w j v asked raises lost still.
            subst (λ x. welfare (with_value j v b) x ≤ welfare b (f b w)) (same_if_loses b w j v asked raises still)
            (welfare_without j v b (f b w) lost);
        no_less = λ b w j v asked raises won still.
            subst (λ x. welfare b (f b w) ≤ welfare (with_value j v b) x) (same_if_wins b w j v asked raises won)
            (welfare_raised j v b (f b w) raises.more);
      };
    }
