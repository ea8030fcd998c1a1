-- What holds from turn to turn of those who wait, of the winners, and of the items that they take.
use Rattle.std.proofs.Common.{◌≡◌, ℕ, ◌<◌, true, ◌↔◌, List, length, get_or, Contains, swap_remove, sym, refl, ap, ◌∙◌, subst, subst₂, ⊎_elim, arith}
use Rattle.std.proofs.lemmas.List.{get_or_default}
use Rattle.sets.specs.Members.{NoMember}
use Rattle.book.specs.Limits.{WithinLimits}
use Rattle.book.specs.Model.{Book, row}
use Rattle.ranking.specs.declared.contenders.Contender.{Contender}
use Rattle.ranking.specs.Orders.{FirstOf}
use Rattle.ranking.specs.Rankings.{RowOrder, Ranks}
use Rattle.ranking.specs.Views.{entry_of, seen}
use Rattle.rules.specs.declared.allotment.Allotment.{Allotment}
use Rattle.rules.specs.Allotments.{Taken, Offers}
use Rattle.rules.specs.Greedy.{IsGreedy}
use Rattle.rules.specs.WaitingLists.{Waiting, Distinct, Waits}
use Rattle.rules.proofs.Midway.{Midway, midway_start, midway_end, midway_skip, midway_take}
use Rattle.rules.proofs.WaitingLists.{was_waiting, still_waits, still_distinct}
use Rattle.rules.proofs.Taken.{taken_none, taken_more, free_fits, fits_free}
use Rattle.rules.specs.Turns.{Before, either}

pub record Serving (before : RowOrder) (b : Book) (w : ℕ) (xs : List Contender) (a : Allotment) : Type 0 where
  pub mid : Midway before b w (Waits xs) a.winners.word
  pub items : Taken b a.winners.word a.taken.word
  pub sees : (x : Contender) → Contains xs x → entry_of x ≡ seen b x.number
  pub distinct : Distinct xs

-- one contender comes before another
abbrev pub Ahead : RowOrder → Contender → Contender → Type 0
Ahead before x y = before (entry_of x) (entry_of y) ≡ true

module _ (before : RowOrder) (b : Book) (w : ℕ) where
  pub serving_start : (xs : List Contender) (a : Allotment) → Waiting b w (length b.rows) xs → NoMember a.winners.word →
      NoMember a.taken.word → Serving before b w xs a
  serving_start xs a waiting nobody nothing = record {
    mid = midway_start before b w (Waits xs) a.winners.word (λ j. ((λ h. (waiting.part j h).1), (λ t. waiting.all j t.exists t))) nobody;
    items = taken_none b a.winners.word a.taken.word nobody nothing;
    sees = waiting.sees;
    distinct = waiting.distinct;
  }

  pub serving_end : (xs : List Contender) (a : Allotment) → Serving before b w xs a → length xs ≡ 0 → IsGreedy before b w a.winners.word
  serving_end xs a serving empty =
      midway_end before b w (Waits xs) a.winners.word serving.mid (λ j h. let inside = h.1.1 in omega arith)

  module _ (ranks : Ranks before) (limits : WithinLimits b) (xs : List Contender) (p : ℕ) (x : Contender) (a : Allotment)
      (serving : Serving before b w xs a) (is_first : FirstOf (Ahead before) xs p) (out : x ≡ get_or xs p x) where
    abbrev left : List Contender
    left = swap_remove xs p x

    at_p : Contains xs x
    at_p = (p, is_first.inside, sym out)

    next_waits : Waits xs x.number
    next_waits = (x, at_p, refl)

    pub next_exists : x.number < length b.rows
    next_exists = (serving.mid.part x.number next_waits).exists

    low : x.number < 64
    low = let few = limits.few_rows in omega (arith, next_exists)

    first : (k : ℕ) → Waits xs k → (k ≡ x.number → ⊥) → Before before b x.number k
    first k (y, (q, inside, is), num) ne =
        let k_sees : entry_of y ≡ seen b k = serving.sees y (q, inside, is) ∙ ap (seen b) num in
        let x_sees = serving.sees x at_p in
        let part = serving.mid.part k (y, (q, inside, is), num) in
        let at_p_y : x ≡ get_or xs p y = out ∙ get_or_default xs p x y is_first.inside in
        ⊎_elim (λ ahead. ahead)
        (λ behind.
        absurd (is_first.least q y inside
        (subst₂ (Ahead before) (sym is) at_p_y (subst₂ (λ u v. before u v ≡ true) (sym k_sees) (sym x_sees) behind))))
        (either before ranks b limits x.number k next_exists part.exists (λ e. ne (sym e)))

    rest : (k : ℕ) → Waits left k ↔ (Waits xs k × (k ≡ x.number → ⊥))
    rest k = (
      (λ (y, at, num).
          let was = was_waiting xs p x is_first.inside out serving.distinct y at in
          ((y, was.0, num), λ e. was.1 (num ∙ e))),
      (λ h.
          let y = h.0.0 in
          (y, still_waits xs p x is_first.inside out serving.distinct y h.0.1 (λ e. h.1 (sym h.0.2 ∙ e)), h.0.2)),
    )

    pub serving_next : (r : Allotment) → Offers a x.number (row b x.number).bundle.word r → Serving before b w left r
    serving_next r offers = record {
      mid = ⊎_elim
          (λ clash. subst (λ (z : Allotment). Midway before b w (Waits left) z.winners.word) (sym clash.1)
          (midway_skip before b w ranks limits (Waits xs) (Waits left) winners j serving.mid next_waits first rest
          (λ fits. fits_free b winners taken serving.items j (serving.mid.losing j next_waits) fits clash.0)))
          (λ free. midway_take before b w ranks limits (Waits xs) (Waits left) winners j serving.mid next_waits first rest
          (free_fits b winners taken serving.items j free.0) r.winners.word free.1.0 low)
          offers;
      items = ⊎_elim
          (λ clash. subst (λ (z : Allotment). Taken b z.winners.word z.taken.word) (sym clash.1) serving.items)
          (λ free. taken_more b winners taken serving.items j r.winners.word r.taken.word low free.1.0 free.1.1)
          offers;
      sees = λ y at. serving.sees y (was_waiting xs p x is_first.inside out serving.distinct y at).0;
      distinct = still_distinct xs p x is_first.inside out serving.distinct;
    }
      where
        j : ℕ
        j = x.number

        winners : ℕ
        winners = a.winners.word

        taken : ℕ
        taken = a.taken.word
