-- The laws of feasibility: all that the proofs about rules know of which bidders can be served together.
use Rattle.std.specs.Prelude.{◌≡◌, ℕ, ◌^◌, ◌<◌, Bool, true, not, ◌⊎◌, ◌↔◌, length, Decides, ◌≢◌}
use Rattle.std.proofs.Common.{sym, ap, ◌∙◌, subst, subst₂, ⊎_elim, pow_mono, arith}
use Rattle.sets.specs.declared.items.Bundle.{Bundle}
use Rattle.sets.specs.Members.{Meet}
use Rattle.std.proofs.lemmas.Bool.Decides.{Decides-and, Decides-eqb, Decides-not}
use Rattle.sets.proofs.Selected.{decides_every}
use Rattle.sets.proofs.Words.{decides_meet, within_below}
use Rattle.book.specs.Limits.{WithinLimits}
use Rattle.book.specs.Model.{Book, row, with_value}
use Rattle.book.proofs.Revalued.{revalued_bundle}
use Rattle.rules.specs.Feasible.{Share, Fits, FitsBeside, clashes, fits_beside}

-- every member of s is one of t
abbrev pub Inside : (ℕ → Bool) → (ℕ → Bool) → Type 0
Inside s t = (k : ℕ) → s k ≡ true → t k ≡ true

share_back : (b : Book) (j k : ℕ) → Share b j k → Share b k j
share_back b j k m = (m.0, m.2, m.1)

-- ---- parts of a set, and one more

module _ (b : Book) (s t : ℕ → Bool) where
  pub fits_part : Inside s t → Fits b t → Fits b s
  unfolding Fits
  fits_part part fits j k hj hk = fits j k (part j hj) (part k hk)

  pub beside_part : (j : ℕ) → Inside s t → FitsBeside b t j → FitsBeside b s j
  unfolding FitsBeside
  beside_part j part fits k hk = fits k (part k hk)

  -- a member of a set that fits, beside a part of it
  pub beside_own : (j : ℕ) → Inside s t → Fits b t → t j ≡ true → FitsBeside b s j
  unfolding Fits FitsBeside
  beside_own j part fits hj k hk = fits k j (part k hk) hj

  pub fits_with : (j : ℕ) → Fits b s → FitsBeside b s j → ((k : ℕ) → t k ≡ true → (k ≡ j) ⊎ (s k ≡ true)) → Fits b t
  unfolding Fits FitsBeside
  fits_with j fits beside of k m hk hm ne share =
      ⊎_elim
      (λ (ek : k ≡ j).
      ⊎_elim (λ em. ne (ek ∙ sym em))
      (λ sm. beside m sm (λ em. ne (ek ∙ sym em)) (share_back b j m (subst (λ i. Share b i m) ek share))) (of m hm))
      (λ sk.
      ⊎_elim (λ (em : m ≡ j). beside k sk (λ ek. ne (ek ∙ sym em)) (subst (Share b k) em share)) (λ sm. fits k m sk sm ne share) (of m hm))
      (of k hk)

-- a set fits if each member fits beside the others
pub fits_each : (b : Book) (s : ℕ → Bool) → ((j : ℕ) → s j ≡ true → FitsBeside b s j) → Fits b s
unfolding Fits FitsBeside
fits_each b s each j k hj hk = each k hk j hj

-- one bidder alone fits
pub fits_one : (b : Book) (s : ℕ → Bool) → ((j k : ℕ) → s j ≡ true → s k ≡ true → j ≡ k) → Fits b s
unfolding Fits
fits_one b s one j k hj hk ne = absurd (ne (one j k hj hk))

pub fits_none : (b : Book) (s : ℕ → Bool) → ((k : ℕ) → s k ≢ true) → Fits b s
unfolding Fits
fits_none b s none j k hj = absurd (none j hj)

-- ---- another value changes nothing: only bundles count

module _ (j v : ℕ) (b : Book) where
  share_revalued : (k m : ℕ) → Share (with_value j v b) k m ↔ Share b k m
  share_revalued k m =
      let word : Bundle → ℕ = λ x. x.word in
      let there = ap word (revalued_bundle j v b k) in
      let here = ap word (revalued_bundle j v b m) in
      (subst₂ Meet there here, subst₂ Meet (sym there) (sym here))

  pub fits_revalued : (s : ℕ → Bool) → Fits (with_value j v b) s ↔ Fits b s
  unfolding Fits
  fits_revalued s = (
    (λ fits k m hk hm ne share. fits k m hk hm ne ((share_revalued k m).1 share)),
    (λ fits k m hk hm ne share. fits k m hk hm ne ((share_revalued k m).0 share)),
  )

  pub beside_revalued : (s : ℕ → Bool) (k : ℕ) → FitsBeside (with_value j v b) s k ↔ FitsBeside b s k
  unfolding FitsBeside
  beside_revalued s k = (
    (λ fits m hm ne share. fits m hm ne ((share_revalued m k).1 share)),
    (λ fits m hm ne share. fits m hm ne ((share_revalued m k).0 share)),
  )

-- ---- the test

module _ (b : Book) (limits : WithinLimits b) (s : ℕ → Bool) (j : ℕ) where
  decides_clashes : (k : ℕ) → k < length b.rows → Decides (clashes b s j k) ((s k ≡ true) × ((k ≢ j) × Share b k j))
  decides_clashes k l =
      let word = (row b k).bundle.word in
      let small : word < 2 ^ 64 =
      omega (arith, within_below b.items word (limits.each_row k l).known_items, pow_mono limits.few_items) in
      let meet = decides_meet word (row b j).bundle.word small in
      Decides-and _ _ ((λ h. h), (λ h. h)) (Decides-and _ _ (Decides-not _ (Decides-eqb k j)) meet)

  pub decides_beside : ((k : ℕ) → s k ≡ true → k < length b.rows) → Decides (fits_beside b s j) (FitsBeside b s j)
  unfolding FitsBeside fits_beside
  decides_beside below =
      let each = decides_every (λ k. not (clashes b s j k)) (length b.rows) in
      let fine = λ (k : ℕ) (l : k < length b.rows). Decides-not _ (decides_clashes k l) in (
        (λ yea k hk ne share. let l = below k hk in (fine k l).0 (each.0 yea k l) (hk, (ne, share))),
        (λ fits. each.1 (λ k l. (fine k l).1 (λ h. fits k h.0 h.1.0 h.1.1))),
      )
