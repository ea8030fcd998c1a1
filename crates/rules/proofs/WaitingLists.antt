-- Contenders come to wait, and leave.
use Rattle.std.proofs.Common.{◌≡◌, ℕ, ◌+◌, ◌<◌, ◌≤◌, ◌==◌, cond, zero, suc, List, [], ◌∷◌, ◌++◌, length, get_or, All, Contains, IsPermutation, count_by, swap_remove, sym, refl, ap, ◌∙◌, subst, ⊎_elim, arith}
use Rattle.std.proofs.lemmas.Bool.{cases_eq, eq-eqb, cond-true, cond-false, ne_eqb}
use Rattle.std.proofs.lemmas.List.Elements.{Contains-append_left, Contains-get_or, Contains-push, Contains-push_cases}
use Rattle.std.proofs.lemmas.List.Sorted.{Contains-permutation, IsPermutation-sym, IsPermutation-swap_remove}
use Rattle.std.proofs.lemmas.List.Sums.{get_or-le-sum_by, sum_by-le, sum_by-swap_remove, sum_by_push}
use Rattle.book.specs.Model.{Book}
use Rattle.ranking.specs.declared.contenders.Contender.{Contender}
use Rattle.ranking.specs.Views.{entry_of, seen}
use Rattle.rules.specs.Laws.{TakesPart}
use Rattle.rules.specs.WaitingLists.{Waiting, Distinct}

-- 1 if x bears the number j, otherwise 0
abbrev one_if : ℕ → Contender → ℕ
one_if j x = cond (x.number == j) 1 0

one_if_own : (j : ℕ) (x : Contender) → x.number ≡ j → one_if j x ≡ 1
one_if_own j x own = cond-true _ 1 0 (eq-eqb _ _ own)

one_if_other : (j : ℕ) (x : Contender) → (x.number ≡ j → ⊥) → one_if j x ≡ 0
one_if_other j x other = cond-false _ 1 0 (ne_eqb _ _ other)

-- ---- those who take part, one bidder more at a time

module _ (b : Book) (w n : ℕ) (xs : List Contender) (so_far : Waiting b w n xs) where
  pub waiting_pass : (TakesPart b w n → ⊥) → Waiting b w (n + 1) xs
  waiting_pass absent = record {
    sees = so_far.sees;
    part = λ j h. let old = so_far.part j h in (omega (arith, old.0), old.1);
    all = λ j h t. ⊎_elim (λ (e : j ≡ n). absurd (absent (subst (TakesPart b w) e t))) (λ ne. so_far.all j (omega arith) t) (cases_eq j n);
    distinct = so_far.distinct;
  }

  -- n does not wait yet
  none_yet : count_by (λ x. x.number == n) xs ≡ 0
  none_yet =
      let none : All (λ x. one_if n x ≤ 0) xs =
      λ k d l. omega (
        arith,
        one_if_other n (get_or xs k d)
            (λ own. omega (arith, (so_far.part n (get_or xs k d, Contains-get_or xs k d l, own)).0)),
      ) in
      omega (arith, sum_by-le (one_if n) 0 xs none)

  module _ (x : Contender) (e : entry_of x ≡ seen b n) (t : TakesPart b w n) where
    number_x : x.number ≡ n
    number_x = ap (λ a. a.number) e

    pub waiting_push : Waiting b w (n + 1) (xs ++ x ∷ [])
    waiting_push = record {
      sees = λ y at.
          ⊎_elim (so_far.sees y)
          (λ (same : x ≡ y). subst (λ (z : Contender). entry_of z ≡ seen b z.number) same (e ∙ ap (seen b) (sym number_x)))
          (Contains-push_cases xs x y at);
      part = λ j h.
          ⊎_elim (λ old. let before = so_far.part j (h.0, old, h.2) in (omega (arith, before.0), before.1))
          (λ (same : x ≡ h.0).
          let is : n ≡ j = sym number_x ∙ ap (λ (z : Contender). z.number) same ∙ h.2 in
          (omega arith, subst (TakesPart b w) is t))
          (Contains-push_cases xs x h.0 h.1);
      all = λ j h t'.
          ⊎_elim (λ (new : j ≡ n). (x, Contains-push xs x, number_x ∙ sym new))
          (λ ne. let old = so_far.all j (omega arith) t' in (old.0, Contains-append_left xs (x ∷ []) old.0 old.1, old.2))
          (cases_eq j n);
      distinct = λ j.
          let more = sum_by_push (one_if j) xs x in
          ⊎_elim
          (λ (new : j ≡ n).
          let none = subst (λ i. count_by (λ y. y.number == i) xs ≡ 0) (sym new) none_yet in
          omega (arith, one_if_own j x (number_x ∙ sym new)))
          (λ ne. omega (arith, so_far.distinct j, one_if_other j x (λ own. ne (sym own ∙ number_x)))) (cases_eq j n);
    }

-- ---- one leaves

module _ (xs : List Contender) (p : ℕ) (x : Contender) (inside : p < length xs) (out : x ≡ get_or xs p x) (distinct : Distinct xs) where
  abbrev left : List Contender
  left = swap_remove xs p x

  same_contenders : IsPermutation xs (x ∷ left)
  same_contenders = IsPermutation-swap_remove xs p x inside out

  fewer : (j : ℕ) → count_by (λ y. y.number == j) left + one_if j x ≡ count_by (λ y. y.number == j) xs
  fewer j =
      subst (λ y. count_by (λ z. z.number == j) left + one_if j y ≡ count_by (λ z. z.number == j) xs) (sym out)
      (sum_by-swap_remove (one_if j) xs p x inside)

  pub still_distinct : Distinct left
  still_distinct j = omega (arith, fewer j, distinct j)

  pub was_waiting : (y : Contender) → Contains left y → Contains xs y × (y.number ≡ x.number → ⊥)
  was_waiting y (k, l, at) = (
    Contains-permutation (x ∷ left) xs y (IsPermutation-sym xs (x ∷ left) same_contenders) (suc k, omega arith, at),
    λ same.
        let some = get_or-le-sum_by (one_if x.number) left k y l in
        let one = subst (λ z. one_if x.number z ≡ 1) (sym at) (one_if_own x.number y same) in
        omega (arith, fewer x.number, distinct x.number, one_if_own x.number x refl),
  )

  pub still_waits : (y : Contender) → Contains xs y → (y.number ≡ x.number → ⊥) → Contains left y
  still_waits y at other = after (Contains-permutation xs (x ∷ left) y same_contenders at)
    where
      after : Contains (x ∷ left) y → Contains left y
      after (zero, l, is) = absurd (other (ap (λ (z : Contender). z.number) (sym is)))
      after (suc k, l, is) = (k, omega arith, is)
