-- Who takes part, which sets are feasible, and who comes before whom, in a book in which one bidder declares a greater value.
use Rattle.std.specs.Prelude.{◌≡◌, ℕ, ◌<◌, true, ◌↔◌, length, ◌≢◌}
use Rattle.std.proofs.Common.{⊎_elim, sym, ap, subst, subst₂, ◌∙◌, arith}
use Rattle.std.proofs.lemmas.Bool.{cases_eq}
use Rattle.sets.specs.Members.{has, size}
use Rattle.book.specs.declared.row.Row.{Row}
use Rattle.book.specs.Limits.{WithinLimits}
use Rattle.book.specs.Model.{Book, with_value}
use Rattle.book.proofs.Revalued.{revalued_length, revalued_other, revalued_own, revalued_mark, revalued_within}
use Rattle.ranking.specs.Rankings.{RowOrder, Entry, entry, valued, Ranks}
use Rattle.ranking.specs.Views.{seen}
use Rattle.rules.specs.Laws.{TakesPart, Feasible, Asked, Raises}
use Rattle.ranking.proofs.Seen.{seen_possible}
use Rattle.rules.specs.Feasibility.{fits_revalued}
use Rattle.rules.specs.Turns.{Before, either, one_way}

module _ (j v : ℕ) (b : Book) where
  -- all who take part still do, and nobody else
  pub part_revalued : (w k : ℕ) → TakesPart (with_value j v b) w k ↔ TakesPart b w k
  part_revalued w k =
      let n = revalued_length j v b in
      let mark = revalued_mark j v b k in (
        (λ part. record { exists = omega (arith, n, part.exists); stands = sym mark ∙ part.stands; admits = part.admits }),
        (λ part. record { exists = omega (arith, n, part.exists); stands = mark ∙ part.stands; admits = part.admits }),
      )

  -- the same sets are feasible
  pub feasible_revalued : (w x : ℕ) → Feasible (with_value j v b) w x ↔ Feasible b w x
  feasible_revalued w x =
      let fits = fits_revalued j v b (has x) in (
        (λ can. record { part = λ i h. (part_revalued w i).0 (can.part i h); fit = fits.0 can.fit }),
        (λ can. record { part = λ i h. (part_revalued w i).1 (can.part i h); fit = fits.1 can.fit }),
      )

  seen_other : (k : ℕ) → (k ≢ j) → seen (with_value j v b) k ≡ seen b k
  seen_other k ne = ap (λ (x : Row). entry x.value (size x.bundle.word) k) (revalued_other j v b k ne)

  seen_own : j < length b.rows → seen (with_value j v b) j ≡ valued v (seen b j)
  seen_own l = ap (λ (x : Row). entry x.value (size x.bundle.word) j) (revalued_own j v b l)

  others : (before : RowOrder) (k m : ℕ) → (k ≢ j) → (m ≢ j) → Before before (with_value j v b) k m ↔ Before before b k m
  others before k m nk nm =
      let P : Entry → Entry → Type 0 = λ x y. before x y ≡ true in
      (subst₂ P (seen_other k nk) (seen_other m nm), subst₂ P (sym (seen_other k nk)) (sym (seen_other m nm)))

pub asked_raised : (b : Book) (w j v : ℕ) → Asked b w → Raises b j v → Asked (with_value j v b) w
asked_raised b w j v asked raises = record { limits = revalued_within j v b asked.limits raises.priced; word = asked.word }

module _ (before : RowOrder) (ranks : Ranks before) (b : Book) (limits : WithinLimits b) (j v : ℕ) (raises : Raises b j v) where
  -- j still comes before whom it came before
  keeps_lead : (m : ℕ) → j < length b.rows → m < length b.rows → (m ≢ j) →
      Before before b j m → Before before (with_value j v b) j m
  keeps_lead m lj lm nm first =
      subst₂ (λ (x y : Entry). before x y ≡ true) (sym (seen_own j v b lj)) (sym (seen_other j v b m nm))
      (ranks.raised (seen b j) (seen b m) v (seen_possible b limits j lj) (seen_possible b limits m lm)
      raises.more raises.priced first)

  -- whoever came before another than j still does
  pub still_before : (m k : ℕ) → m < length b.rows → k < length b.rows → (k ≢ j) →
      Before before b m k → Before before (with_value j v b) m k
  still_before m k lm lk nk first =
      ⊎_elim
      (λ (e : m ≡ j).
      subst (λ i. Before before (with_value j v b) i k) (sym e)
      (keeps_lead k (omega arith) lk nk (subst (λ i. Before before b i k) e first)))
      (λ nm. (others j v b before m k nm nk).1 first) (cases_eq m j)

  -- whoever but j now comes before another did so
  pub was_before : (m k : ℕ) → m < length b.rows → k < length b.rows → (m ≢ j) →
      Before before (with_value j v b) m k → Before before b m k
  was_before m k lm lk nm first =
      let n = revalued_length j v b in
      let limits' = revalued_within j v b limits raises.priced in
      let back : k ≡ j → Before before b k m → Before before (with_value j v b) k m =
      λ e lead. subst (λ i. Before before (with_value j v b) i m) (sym e)
      (keeps_lead m (omega arith) lm nm (subst (λ i. Before before b i m) e lead)) in
      ⊎_elim
      (λ (e : k ≡ j).
      ⊎_elim (λ was. was)
      (λ lead.
      absurd (one_way before ranks (with_value j v b) limits' m k (omega arith) (omega arith) first (back e lead)))
      (either before ranks b limits m k lm lk (λ same. nm (same ∙ e))))
      (λ nk. (others j v b before m k nm nk).0 first) (cases_eq k j)
