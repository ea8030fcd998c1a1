-- What a choice can grow to, one bidder at a time in rising order.
use Rattle.std.proofs.Common.{◌≡◌, ℕ, zero, suc, ◌+◌, ◌-◌, ◌/◌, ◌%◌, ◌^◌, ◌<◌, ◌≤◌, true, List, [], ◌∷◌, ◌++◌, length, get_or, Contains, sym, ◌∙◌, subst, subst₂, inl, inr, ⊎_elim, arith}
use Rattle.std.proofs.lemmas.List.{get_or_default}
use Rattle.std.proofs.lemmas.List.Elements.{Contains-append_left, Contains-push, Contains-push_cases}
use Rattle.std.proofs.lemmas.Bool.{cases_eq, eqb-true, eq-eqb}
use Rattle.sets.specs.Members.{Has, has, Adds}
use Rattle.sets.proofs.Sums.{sum_none, size_none, size_adds, size_same}
use Rattle.sets.proofs.Words.{same_words, within_below}
use Rattle.book.specs.Limits.{WithinLimits}
use Rattle.book.specs.Model.{Book, row, welfare}
use Rattle.ranking.specs.Orders.{FirstOf}
use Rattle.ranking.specs.Rankings.{leads}
use Rattle.rules.specs.declared.choices.Choice.{Choice}
use Rattle.rules.specs.Best.{IsBest, beats}
use Rattle.rules.specs.Choices.{chosen, Empty, Sound, Free, Precedes, Foremost, Extends, BestExtension}
use Rattle.rules.specs.Feasible.{FitsBeside}
use Rattle.rules.specs.Laws.{TakesPart, Feasible}
use Rattle.rules.specs.Beating.{leads_one_way, leads_not_onward}
use Rattle.rules.specs.Feasibility.{beside_own, fits_none}
use Rattle.rules.proofs.Growing.{beside_free}
use Rattle.rules.proofs.Taken.{taken_none}

module _ (b : Book) (limits : WithinLimits b) (w from k x : ℕ) (feasible : Feasible b w x) where
  feasible_word : (z : ℕ) → Feasible b w z → z < 2 ^ 64
  feasible_word z can = within_below 64 z (λ j h. omega (arith, (can.part j h).exists, limits.few_rows))

  -- nothing beats itself
  unbeaten_same : (z : ℕ) → z ≡ x → beats b z x ≡ true → ⊥
  unbeaten_same z same over =
      let self = subst (λ y. beats b y x ≡ true) same over in leads_one_way (welfare b x) (welfare b x) x x self self

  pub extends_none : Extends b w from k x x
  extends_none = record { candidate = record { feasible = feasible; few = omega arith }; old = λ j h. h; new = λ j h. inl h }

  -- with no member but those of x, it is x
  nobody_new : (z : ℕ) → Extends b w from k x z → ((j : ℕ) → Has z j → Has x j) → z ≡ x
  nobody_new z grown none = same_words 64 z x (feasible_word z grown.candidate.feasible) (feasible_word x feasible) none grown.old

  pub best_none : k ≡ 0 → BestExtension b w from k x x
  best_none no_more = record {
    extends = extends_none;
    unbeaten = λ z grown. unbeaten_same z (nobody_new z grown
        (size_same x z (feasible_word z grown.candidate.feasible) grown.old (omega (arith, grown.candidate.few))));
  }

-- ---- a bidder j that is not in x

module _ (b : Book) (w k x j : ℕ) (new : Has x j → ⊥) where
  -- if it is in a set that x can grow to, it takes part and fits beside x
  pub member_joins : (z : ℕ) → Extends b w j k x z → Has z j → TakesPart b w j × FitsBeside b (has x) j
  member_joins z grown here = (
    grown.candidate.feasible.part j here,
    beside_own b (has x) (has z) j (λ i h. eq-eqb _ _ (grown.old i (eqb-true _ _ h))) grown.candidate.feasible.fit (eq-eqb _ _ here),
  )

  module _ (y : ℕ) (adds : Adds x j y) (low : j < 64) (some : 1 ≤ k) where
    -- what x can grow to with j as its lowest new member, x with j can grow to
    pub extends_on : (z : ℕ) → Extends b w j k x z → Has z j → Extends b w (j + 1) (k - 1) y z
    extends_on z grown here = record {
      candidate = record {
        feasible = grown.candidate.feasible;
        few = omega (arith, grown.candidate.few, size_adds x j y adds new low);
      };
      old = λ i h. ⊎_elim (grown.old i) (λ own. subst (Has z) (sym own.0) here) ((adds i).0 h);
      new = λ i h.
          ⊎_elim (λ (e : i ≡ j). inl ((adds i).1 (inr (e, omega arith))))
          (λ ne. ⊎_elim (λ was. inl ((adds i).1 (inl was))) (λ above. inr (omega arith)) (grown.new i h)) (cases_eq i j);
    }

    -- and the other way round
    pub extends_back : (from : ℕ) → from ≤ j → (z : ℕ) → Extends b w (j + 1) (k - 1) y z → Extends b w from k x z
    extends_back from under z grown = record {
      candidate = record {
        feasible = grown.candidate.feasible;
        few = omega (arith, grown.candidate.few, size_adds x j y adds new low);
      };
      old = λ i h. grown.old i ((adds i).1 (inl h));
      new = λ i h.
          ⊎_elim (λ was. ⊎_elim inl (λ own. inr (omega (arith, own.0))) ((adds i).0 was)) (λ above. inr (omega arith)) (grown.new i h);
    }

-- ---- the first of a list

-- what stands at the first place is the foremost
pub foremost_at : (choices : List Choice) (p : ℕ) (r : Choice) → FirstOf Precedes choices p → r ≡ get_or choices p r → Foremost choices r
foremost_at choices p r first is = record {
  there = (p, first.inside, sym is);
  first = λ d at over. first.least at.0 d at.1
      (subst₂ Precedes (sym at.2) (is ∙ get_or_default choices p r d first.inside) over);
}

-- ---- the choices gathered, one bidder's turn after another

-- Each of the choices is sound, and one that c can grow to. Among them is c itself and, for each bidder below n that can join, the best
-- of those with that bidder as the lowest new member: no such set beats all the choices.
pub record Gathered (b : Book) (w from k : ℕ) (c : Choice) (choices : List Choice) (n : ℕ) : Type 0 where
  pub sound : (d : Choice) → Contains choices d → Sound b w d
  pub grown : (d : Choice) → Contains choices d → Extends b w from k (chosen c) (chosen d)
  pub own : Contains choices c
  pub best : (j : ℕ) → from ≤ j → j < n → (z : ℕ) → Extends b w j k (chosen c) z → Has z j →
      (d : Choice) × Contains choices d × (beats b z (chosen d) ≡ true → ⊥)

module _ (b : Book) (limits : WithinLimits b) (w from k : ℕ) (c : Choice) (is_sound : Sound b w c) where
  abbrev x : ℕ
  x = chosen c

  pub gathered_start : Gathered b w from k c (c ∷ []) from
  gathered_start =
      let only : (d : Choice) → Contains (c ∷ []) d → c ≡ d =
      λ d at. ⊎_elim (λ none. absurd (omega (arith, none.1))) (λ same. same) (Contains-push_cases [] c d at) in
      record {
        sound = λ d at. subst (Sound b w) (only d at) is_sound;
        grown = λ d at.
            subst (λ (e : Choice). Extends b w from k x (chosen e)) (only d at) (extends_none b limits w from k x is_sound.feasible);
        own = Contains-push [] c;
        best = λ j above under. absurd (omega arith);
      }

  module _ (choices : List Choice) (n : ℕ) (so_far : Gathered b w from k c choices n) where
    -- bidder n cannot join
    pub gathered_pass : (Has x n → ⊥) → (Free b w c n → ⊥) → Gathered b w from k c choices (n + 1)
    gathered_pass new barred = record {
      sound = so_far.sound;
      grown = so_far.grown;
      own = so_far.own;
      best = λ j above under z can here.
          ⊎_elim
          (λ (e : j ≡ n).
          let joins = member_joins b w k x n new z (subst (λ i. Extends b w i k x z) e can) (subst (Has z) e here) in
          absurd (barred (beside_free b w c is_sound n new joins.0 joins.1)))
          (λ ne. so_far.best j above (omega arith) z can here) (cases_eq j n);
    }

    -- bidder n joins, and r is the best that comes of it
    pub gathered_join : from ≤ n → n < 64 → (Has x n → ⊥) → 1 ≤ k → (larger r : Choice) → Adds x n (chosen larger) → Sound b w r →
        BestExtension b w (n + 1) (k - 1) (chosen larger) (chosen r) → Gathered b w from k c (choices ++ r ∷ []) (n + 1)
    gathered_join above low new some larger r adds sound best = record {
      sound = λ d at.
          ⊎_elim (so_far.sound d) (λ (same : r ≡ d). subst (Sound b w) same sound) (Contains-push_cases choices r d at);
      grown = λ d at.
          ⊎_elim (so_far.grown d)
          (λ (same : r ≡ d).
          subst (λ (e : Choice). Extends b w from k x (chosen e)) same
          (extends_back b w k x n new (chosen larger) adds low some from above (chosen r) best.extends))
          (Contains-push_cases choices r d at);
      own = Contains-append_left choices (r ∷ []) c so_far.own;
      best = λ j above_j under z can here.
          ⊎_elim
          (λ (e : j ≡ n). (
            r,
            Contains-push choices r,
            best.unbeaten z
                (extends_on b w k x n new (chosen larger) adds low some z (subst (λ i. Extends b w i k x z) e can) (subst (Has z) e here)),
          ))
          (λ ne.
          let (d, at, unbeaten) = so_far.best j above_j (omega arith) z can here in
          (d, Contains-append_left choices (r ∷ []) d at, unbeaten)) (cases_eq j n);
    }

    -- ---- all bidders have had their turn

    module _ (done : length b.rows ≤ n) (r : Choice) (foremost : Foremost choices r) where
      -- none of the choices beats r
      behind : (d : Choice) → Contains choices d → beats b (chosen d) (chosen r) ≡ true → ⊥
      behind d at over =
          let worth = (so_far.sound d at).worth in
          let worth_r = (so_far.sound r foremost.there).worth in
          foremost.first d at (subst₂ (λ u v. leads u v (chosen d) (chosen r) ≡ true) (sym worth) (sym worth_r) over)

      -- nothing that x can grow to by bidders from `start` on beats r, whether or not `start` is among them
      unbeaten_from : (m start : ℕ) → length b.rows ≤ start + m → from ≤ start → (z : ℕ) → Extends b w start k x z →
          beats b z (chosen r) ≡ true → ⊥
      unbeaten_from zero start past above z grown over =
          let same : z ≡ x =
          nobody_new b limits w start k x is_sound.feasible z grown (λ j h.
          ⊎_elim (λ was. was) (λ new. absurd (omega (arith, (grown.candidate.feasible.part j h).exists))) (grown.new j h)) in
          behind c so_far.own (subst (λ y. beats b y (chosen r) ≡ true) same over)
      unbeaten_from (suc m) start past above z grown over =
          ⊎_elim
          (λ (here : Has z start).
          let exists = (grown.candidate.feasible.part start here).exists in
          let (d, at, unbeaten) = so_far.best start above (omega arith) z grown here in
          leads_not_onward (welfare b z) (welfare b (chosen d)) (welfare b (chosen r)) z (chosen d) (chosen r) unbeaten (behind d at) over)
          (λ lacks.
          unbeaten_from m (suc start) (omega arith) (omega arith) z (record {
            candidate = grown.candidate;
            old = grown.old;
            new = λ i h.
                ⊎_elim inl
                (λ from_start. ⊎_elim (λ (e : i ≡ start). absurd (lacks (subst (Has z) e h))) (λ ne. inr (omega arith)) (cases_eq i start))
                (grown.new i h);
          }) over) (cases_eq (z / 2 ^ start % 2) 1)

      pub gathered_end : Sound b w r × BestExtension b w from k x (chosen r)
      gathered_end = (
        so_far.sound r foremost.there,
        record {
          extends = so_far.grown r foremost.there;
          unbeaten = unbeaten_from (length b.rows) from (omega arith) (omega arith);
        },
      )

-- ---- from nobody on

module _ (b : Book) (w : ℕ) (c : Choice) (empty : Empty c) where
  pub nobody_sound : Sound b w c
  nobody_sound = record {
    feasible = record {
      part = λ j h. absurd (empty.nobody j h);
      fit = fits_none b (has (chosen c)) (λ j h. empty.nobody j (eqb-true _ _ h));
    };
    items = taken_none b (chosen c) c.allotment.taken.word empty.nobody empty.nothing;
    worth = empty.worthless ∙ sym (sum_none (chosen c) (λ j. (row b j).value) (length b.rows) empty.nobody);
  }

  -- every candidate grows from nobody
  pub best_from_nobody : (k y : ℕ) → BestExtension b w 0 k (chosen c) y → IsBest k b w y
  best_from_nobody k y best =
      let none = size_none (chosen c) empty.nobody in
      record {
        candidate = record { feasible = best.extends.candidate.feasible; few = omega (arith, best.extends.candidate.few) };
        unbeaten = λ z can. best.unbeaten z (record {
          candidate = record { feasible = can.feasible; few = omega (arith, can.few) };
          old = λ j h. absurd (empty.nobody j h);
          new = λ j h. inr (omega arith);
        });
      }
