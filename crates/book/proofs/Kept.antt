-- The limits that a ledger carries, in numbers and in words.
use Rattle.std.proofs.Common.{◌≡◌, ℕ, ◌≤◌, List, [], ◌∷◌, ◌++◌, length, set, arith}
use Rattle.std.specs.List.{refill}
use Rattle.std.proofs.lemmas.Grind.{common_steps, elements, get_or-set_at}
use Rattle.std.proofs.lemmas.List.{length-set, get_or-set_other}
use Rattle.sets.proofs.Words.{none_zero, some_pos, below_within, within_below}
use Rattle.book.specs.declared.ledger.Ledger.{Ledger}
use Rattle.book.specs.declared.row.Row.{Row}
use Rattle.book.specs.Limits.{RowWithinLimits, WithinLimits, EachKept}
use Rattle.book.specs.Model.{book}
use Rattle.book.specs.Views.{recorded}

-- what is kept of each row, and of one more that is within the limits, is kept of all
pub kept_push : (items : ℕ) (rows : List Row) (x : Row) → EachKept items rows → RowWithinLimits items x → EachKept items (rows ++ x ∷ [])
kept_push items rows x old new k l =
    let some = some_pos x.bundle.word new.some_item in
    let low = within_below items x.bundle.word new.known_items in
    grind (arith, elements)

-- a row set in place of another leaves as many rows as there were
pub refill_set : (rows : List Row) (j : ℕ) (x : Row) → refill (length rows) rows (set rows j x) ≡ set rows j x
refill_set rows j x = grind (arith, common_steps)

-- the rows after such a write, for `grind`
pub ruleset row_set = (refill_set, length-set, get_or-set_at, get_or-set_other)

-- a book of whose items and rows the numbers are kept is within the limits
pub kept_within : (items : ℕ) (rows : List Row) → (1 ≤ items) × (items ≤ 64) → length rows ≤ 64 → EachKept items rows
    → WithinLimits (book items rows)
kept_within items rows sized few each = record {
  some_items = sized.0;
  few_items = sized.1;
  few_rows = few;
  each_row = λ j h.
      let kept = each j h in
      record {
        some_item = λ none. omega (arith, none_zero _ none);
        known_items = below_within items _ kept.1;
        priced = kept.2;
      };
}

-- every ledger is within the limits
pub ledger_within : (l : Ledger) → WithinLimits (recorded l)
ledger_within l = kept_within l.items l.rows.items l.sized l.few l.kept
