-- The order in which a ranking takes the bidders of a book that can exist.
use Rattle.std.specs.Prelude.{◌≡◌, ℕ, zero, suc, ◌<◌, ◌≤◌, Bool, true, false, ◌⊎◌, length, ◌≢◌, ◌↔◌}
use Rattle.std.proofs.Common.{inl, inr, sym, ap, subst, ◌∙◌}
use Rattle.std.proofs.Math.Logic.{⊎_elim}
use Rattle.std.proofs.Math.Path.{refl}
use native.Mathlib.Omega.{arith}
use Rattle.std.proofs.lemmas.Bool.{cases_Bool, cases_eq, both_ways}
use Rattle.sets.specs.Members.{Has, sum_over, those}
use Rattle.sets.proofs.Selected.{those_selects}
use Rattle.sets.proofs.Sums.{sum_at_most, sum_larger}
use Rattle.book.specs.Limits.{WithinLimits}
use Rattle.book.specs.Model.{Book}
use Rattle.ranking.specs.Rankings.{RowOrder, Ranks}
use Rattle.ranking.specs.Views.{seen}
use Rattle.ranking.proofs.Seen.{seen_possible}

-- k comes before j
abbrev pub Before : RowOrder → Book → ℕ → ℕ → Type 0
Before before b k j = before (seen b k) (seen b j) ≡ true

-- ---- the order

-- those who come before j
abbrev earlier : RowOrder → Book → ℕ → ℕ
earlier before b j = those (λ k. before (seen b k) (seen b j)) (length b.rows)

-- how many they are
pub rank : RowOrder → Book → ℕ → ℕ
rank before b j = sum_over (earlier before b j) (λ _. 1) (length b.rows)

-- l is the last of the members of s below n
pub record LastOf (before : RowOrder) (b : Book) (s : ℕ → Bool) (n l : ℕ) : Type 0 where
  pub inside : l < n
  pub member : s l ≡ true
  pub others : (k : ℕ) → k < n → s k ≡ true → (k ≡ l) ⊎ Before before b k l

-- what holds at n and below n
at_most : {A : Type 0} (k n : ℕ) → k < suc n → (k ≡ n → A) → (k < n → A) → A
at_most k n l at under = ⊎_elim at (λ ne. under (omega arith)) (cases_eq k n)

module _ (before : RowOrder) (b : Book) (s : ℕ → Bool) (n : ℕ) where
  -- n becomes the last, if all others come before it
  last_new : s n ≡ true → ((k : ℕ) → k < n → s k ≡ true → Before before b k n) → LastOf before b s (suc n) n
  last_new yea first =
      record { inside = omega arith; member = yea; others = λ k l h. at_most k n l inl (λ under. inr (first k under h)) }

  -- l stays the last, if n comes before it or is no member
  last_stays : (l : ℕ) → LastOf before b s n l → (s n ≡ true → Before before b n l) → LastOf before b s (suc n) l
  last_stays l last first = record {
    inside = omega (arith, last.inside);
    member = last.member;
    others = λ k lk h.
        at_most k n lk (λ e. inr (subst (λ i. Before before b i l) (sym e) (first (sym (ap s e) ∙ h)))) (λ under. last.others k under h);
  }

module _ (before : RowOrder) (ranks : Ranks before) (b : Book) (limits : WithinLimits b) where
  pub never_self : (j : ℕ) → j < length b.rows → Before before b j j → ⊥
  never_self j lj = ranks.irreflexive (seen b j) (seen_possible b limits j lj)

  pub onward : (i j k : ℕ) → i < length b.rows → j < length b.rows → k < length b.rows →
      Before before b i j → Before before b j k → Before before b i k
  onward i j k li lj lk =
      let possible = seen_possible b limits in
      ranks.transitive (seen b i) (seen b j) (seen b k) (possible i li) (possible j lj) (possible k lk)

  pub either : (j k : ℕ) → j < length b.rows → k < length b.rows → (j ≢ k) → Before before b j k ⊎ Before before b k j
  either j k lj lk = ranks.total (seen b j) (seen b k) (seen_possible b limits j lj) (seen_possible b limits k lk)

  pub one_way : (j k : ℕ) → j < length b.rows → k < length b.rows → Before before b j k → Before before b k j → ⊥
  one_way j k lj lk there back = never_self j lj (onward j k j lj lk lj there back)

  is_earlier : (k j : ℕ) → Has (earlier before b j) k ↔ ((k < length b.rows) × Before before b k j)
  is_earlier k j = those_selects (λ i. before (seen b i) (seen b j)) (length b.rows) k

  not_earlier : (j : ℕ) → Has (earlier before b j) j → ⊥
  not_earlier j h = let own = (is_earlier j j).0 h in never_self j own.0 own.1

  pub rank_lt : (k j : ℕ) → k < length b.rows → j < length b.rows → Before before b k j → rank before b k < rank before b j
  unfolding rank
  rank_lt k j lk lj first =
      let more = sum_larger (earlier before b k) (earlier before b j) k (λ _. 1) ((is_earlier k j).1 (lk, first)) (not_earlier k)
      (length b.rows)
      (λ i h. let (li, before_k) = (is_earlier i k).0 h in (is_earlier i j).1 (li, onward i k j li lk lj before_k first)) lk in
      omega arith

  pub rank_below : (j : ℕ) → j < length b.rows → rank before b j < length b.rows
  unfolding rank
  rank_below j lj =
      let n = length b.rows in
      let all = those_selects (λ _. true) n in
      let more = sum_larger (earlier before b j) (those (λ _. true) n) j (λ _. 1) ((all j).1 (lj, refl)) (not_earlier j) n
      (λ i h. (all i).1 (((is_earlier i j).0 h).0, refl)) lj in
      omega (arith, sum_at_most (those (λ _. true) n) (λ _. 1) 1 n (λ k l. omega arith))

  -- what holds of a bidder whenever it holds of those before it, holds of all
  module _ (P : ℕ → Type 0)
      (step : (j : ℕ) → j < length b.rows → ((k : ℕ) → k < length b.rows → Before before b k j → P k) → P j) where
    by_rank_below : (r j : ℕ) → j < length b.rows → rank before b j < r → P j
    by_rank_below zero j lj h = absurd (omega arith)
    by_rank_below (suc r) j lj h =
        step j lj (λ k lk first. by_rank_below r k lk (let lt = rank_lt k j lk lj first in omega arith))

    pub by_rank : (j : ℕ) → j < length b.rows → P j
    by_rank j lj = by_rank_below (suc (rank before b j)) j lj (omega arith)

  -- a set of bidders has no member, or a last one
  pub find_last : (s : ℕ → Bool) (n : ℕ) → n ≤ length b.rows →
      ((k : ℕ) → k < n → s k ≢ true) ⊎ ((l : ℕ) × LastOf before b s n l)
  find_last s zero le = inl (λ k l. absurd (omega arith))
  find_last s (suc n) le =
      let below = find_last s n (omega arith) in
      ⊎_elim
      (λ (yea : s n ≡ true).
      ⊎_elim (λ none. inr (n, last_new before b s n yea (λ k l h. absurd (none k l h))))
      (λ (l, last).
      let under = last.inside in
      ⊎_elim
      (λ (first : Before before b l n).
      inr (
        n,
        last_new before b s n yea (λ k lk h.
            ⊎_elim (λ (e : k ≡ l). subst (λ i. Before before b i n) (sym e) first)
            (λ earlier. onward k l n (omega arith) (omega arith) (omega arith) earlier first) (last.others k lk h)),
      ))
      (λ second. inr (l, last_stays before b s n l last (λ _. second)))
      (either l n (omega arith) (omega arith) (λ e. omega arith))) below)
      (λ (nay : s n ≡ false).
      ⊎_elim (λ none. inl (λ k l h. at_most k n l (λ e. both_ways _ nay (sym (ap s e) ∙ h)) (λ under. none k under h)))
      (λ (l, last). inr (l, last_stays before b s n l last (λ yea. absurd (both_ways _ nay yea)))) below) (cases_Bool (s n))
