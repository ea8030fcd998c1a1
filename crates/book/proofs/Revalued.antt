-- What stays the same in a book in which one bidder declares another value.
use Rattle.std.proofs.Common.{◌≡◌, ℕ, ◌<◌, ◌≤◌, length, sym, refl, ap, ◌∙◌, subst, ⊎_elim, arith}
use Rattle.std.proofs.lemmas.Grind.{get_or-set_at}
use Rattle.std.proofs.lemmas.List.{length-set, set-set, set_comm, set_past, get_or-set_same, get_or-set_other}
use Rattle.sets.specs.Members.{Has}
use Rattle.sets.proofs.Sums.{sum_le}
use Rattle.book.specs.Limits.{WithinLimits}
use Rattle.book.specs.Model.{Book, row, blank, priced, with_value, welfare, greatest}

-- the lengths and reads of a list in which one place is set, for `grind`
pub ruleset one_set = (length-set, set-set, set_comm, set_past, get_or-set_at, get_or-set_other)

module _ (j v : ℕ) (b : Book) where
  pub revalued_length : length (with_value j v b).rows ≡ length b.rows
  revalued_length = length-set b.rows j _

  pub revalued_other : (k : ℕ) → (k ≡ j → ⊥) → row (with_value j v b) k ≡ row b k
  revalued_other k ne = get_or-set_other b.rows j k _ blank ne

  pub revalued_own : j < length b.rows → row (with_value j v b) j ≡ priced v (row b j)
  revalued_own l = get_or-set_same b.rows j _ blank l

  -- what does not depend on the value is the same of every row
  pub revalued_bundle : (k : ℕ) → (row (with_value j v b) k).bundle ≡ (row b k).bundle
  revalued_bundle k = grind (arith, one_set)

  pub revalued_mark : (k : ℕ) → (row (with_value j v b) k).mark ≡ (row b k).mark
  revalued_mark k = grind (arith, one_set)

  pub revalued_within : WithinLimits b → v ≤ greatest → WithinLimits (with_value j v b)
  revalued_within limits le = record {
    some_items = limits.some_items;
    few_items = limits.few_items;
    few_rows = simp length-set limits.few_rows;
    each_row = λ k l.
        let old = limits.each_row k (simp length-set at l) in
        record {
          some_item = rw (revalued_bundle k) old.some_item;
          known_items = rw (revalued_bundle k) old.known_items;
          priced = grind (arith, one_set);
        };
  }

  -- ---- welfare

  -- that of a set without j is no greater
  pub welfare_without : (w : ℕ) → (Has w j → ⊥) → welfare (with_value j v b) w ≤ welfare b w
  welfare_without w loses = simp length-set (sum_le w _ _ (length b.rows) (λ k h. grind (arith, one_set)))

  -- with a greater value, that of no set is less
  pub welfare_raised : (w : ℕ) → (row b j).value ≤ v → welfare b w ≤ welfare (with_value j v b) w
  welfare_raised w more = simp length-set (sum_le w _ _ (length b.rows) (λ k h. grind (arith, one_set)))
