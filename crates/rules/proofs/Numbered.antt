-- The rows from one on, each with its number, as a loop over them takes them.
use Rattle.std.proofs.Common.{◌≡◌, ℕ, ◌+◌, ◌-◌, ◌<◌, List, length, get_or, drop, sym, ap, ◌∙◌, get_or-drop, length-drop, arith}
use Rattle.std.specs.List.{enumerate_from}
use Rattle.std.proofs.lemmas.List.{get_or_default}
use Rattle.std.proofs.lemmas.List.FromFn.{get_or-enumerate_from, length-enumerate_from}
use Rattle.book.specs.declared.row.Row.{Row}
use Rattle.book.specs.Model.{Book, blank}
use Rattle.rules.specs.Rounds.{IsRowOf}

module _ (b : Book) (from : ℕ) where
  abbrev pub numbered : List (ℕ × Row)
  numbered = drop from (enumerate_from 0 b.rows)

  pub numbered_length : length numbered ≡ length b.rows - from
  numbered_length = length-drop from (enumerate_from 0 b.rows) ∙ ap (λ n. n - from) (length-enumerate_from 0 b.rows)

  -- the item at place k is bidder from + k with its row
  pub numbered_at : (k : ℕ) (item : ℕ × Row) → (k < length numbered) × (item ≡ get_or numbered k item) →
      (item.0 ≡ from + k) × IsRowOf b item.0 item.1
  numbered_at k item (inside, is) =
      let short = numbered_length in
      let below : from + k < length b.rows = omega arith in
      let same : item ≡ (0 + (from + k), get_or b.rows (from + k) item.1) =
      is ∙ get_or-drop from (enumerate_from 0 b.rows) k item ∙ get_or-enumerate_from 0 b.rows (from + k) item below in
      let number : item.0 ≡ from + k = omega (arith, ap (λ (i : ℕ × Row). i.0) same) in
      let own : item.1 ≡ get_or b.rows (from + k) item.1 = ap (λ (i : ℕ × Row). i.1) same in (
        number,
        (omega arith, ap (λ i. get_or b.rows i blank) number ∙ sym (own ∙ get_or_default b.rows (from + k) item.1 blank below)),
      )
