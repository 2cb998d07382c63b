-- Laws of forms: their letters one by one, the table that holds them, and how long they are.
-- Assumes nothing.
use mathlib.Core.Path.{◌≡◌, refl, sym, ap, ◌∙◌}
use mathlib.Core.Bool.{Bool, true, false, true≢false}
use mathlib.Core.List.{List, [], ◌∷◌, ◌++◌}
use mathlib.Core.Logic.{⊎_elim}
use Prim.Native.Nat.{ℕ, zero, suc, ◌+◌, ◌*◌, ◌/◌, ◌≤◌, ◌<◌, max}
use native.Mathlib.Nat.{suc-mul, mul-div_cancel}
use native.Mathlib.Omega.{arith}
use borrow.Author.Tests.{leb-true, leb-false}
use lib.Dec.{leb}
use lib.ListN.{length, length-append, get_or, drop, drop_of_length-le, get_or-append, get_or-eq_default}
use lib.Seq.{drop-cons, get_or-append-add}
use Rattle.answers.proofs.Rules.{picked}
use Rattle.text.specs.Forms.{spread, letter_in}
use Rattle.text.proofs.Order.{lt-or-le}

-- ---- what is left of a form: its letter at i, a mark that ends past its end, and the rest
module _ (is_end : ℕ → Bool) (text_of : ℕ → List ℕ) {mark : ℕ} (ends : is_end mark ≡ true) (form : List ℕ) (i : ℕ) where
  abbrev letter : ℕ
  letter = get_or form i mark

  pub spread_end : is_end letter ≡ true → spread is_end text_of (drop i form) ≡ []
  spread_end e =
      ⊎_elim (λ (h : i < length form). rw (drop-cons form i mark h, e))
      (λ (h : length form ≤ i). rw (drop_of_length-le form {i = i} h))
      (lt-or-le i (length form))

  pub spread-more : is_end letter ≡ false
      → spread is_end text_of (drop i form) ≡ text_of letter ++ spread is_end text_of (drop (suc i) form)
  spread-more e =
      ⊎_elim (λ (h : i < length form). rw (drop-cons form i mark h, e))
      (λ (h : length form ≤ i).
      let d : letter ≡ mark = get_or-eq_default form mark {n = i} h in
      absurd (true≢false (sym (ap is_end d ∙ ends) ∙ e)))
      (lt-or-le i (length form))

-- ---- the longest of them, by any measure that is 0 of nothing
module _ (measure : List ℕ → ℕ) where
  abbrev pub longest : List (List ℕ) → ℕ
  longest [] = 0
  longest (form ∷ forms) = max (measure form) (longest forms)

  pub within : measure [] ≡ 0 → (forms : List (List ℕ)) (k : ℕ) → measure (get_or forms k []) ≤ longest forms
  within z [] k = omega arith
  within z (form ∷ forms) zero = omega arith
  within z (form ∷ forms) (suc k) = omega (arith, within z forms k)

-- ---- a table of forms: each in so many places, with marks behind it
module _ (mark : ℕ) where
  abbrev padded : ℕ → List ℕ → List ℕ
  padded zero form = []
  padded (suc n) [] = mark ∷ padded n []
  padded (suc n) (l ∷ form) = l ∷ padded n form

  padded-long : (n : ℕ) (form : List ℕ) → length (padded n form) ≡ n
  padded-long zero form = refl
  padded-long (suc n) [] = ap suc (padded-long n [])
  padded-long (suc n) (l ∷ form) = ap suc (padded-long n form)

  padded-at : (n : ℕ) (form : List ℕ) (i d : ℕ) → i < n → get_or (padded n form) i d ≡ get_or form i mark
  padded-at zero form i d h = absurd (omega arith)
  padded-at (suc n) [] zero d h = refl
  padded-at (suc n) [] (suc i) d h = padded-at n [] i d (omega arith)
  padded-at (suc n) (l ∷ form) zero d h = refl
  padded-at (suc n) (l ∷ form) (suc i) d h = padded-at n form i d (omega arith)

  module _ (width : ℕ) where
    abbrev pub tabled : List (List ℕ) → List ℕ
    tabled [] = []
    tabled (form ∷ forms) = padded width form ++ tabled forms

    pub letter_at : (forms : List (List ℕ)) (k i d : ℕ) → k < length forms → i < width
        → get_or (tabled forms) (k * width + i) d ≡ get_or (get_or forms k []) i mark
    letter_at [] k i d h w = absurd (omega arith)
    letter_at (form ∷ forms) zero i d h w =
        let z : 0 * width + i ≡ i = omega arith in
        let long = padded-long width form in
        rw (z, get_or-append (padded width form) (tabled forms) d i (omega arith)) (padded-at width form i d w)
    letter_at (form ∷ forms) (suc k) i d h w =
        let next : suc k * width + i ≡ width + (k * width + i) = omega (arith, suc-mul k width) in
        let past = rw padded-long at (get_or-append-add (padded width form) (tabled forms) (k * width + i) d) in
        rw next (past ∙ letter_at forms k i d (omega arith) w)

  -- past the last form, and past a form's end
  module _ (forms : List (List ℕ)) (k i : ℕ) where
    pub no-form : length forms ≤ k → get_or (get_or forms k []) i mark ≡ mark
    no-form h = rw (get_or-eq_default forms [] {n = k} h)

    pub no-letter : longest length forms ≤ i → get_or (get_or forms k []) i mark ≡ mark
    no-letter h = get_or-eq_default (get_or forms k []) mark {n = i} (omega (arith, within length refl forms k))

-- the table's rule
module _ (mark width : ℕ) (forms : List (List ℕ)) (positive : 0 < width) (fit : longest length forms ≤ width) where
  tabled-long : (forms : List (List ℕ)) → length (tabled mark width forms) ≡ length forms * width
  tabled-long [] = omega arith
  tabled-long (form ∷ forms) = rw (length-append, padded-long mark width form, tabled-long forms) (omega (arith, suc-mul (length forms) width))

  rows : length (tabled mark width forms) / width ≡ length forms
  rows = rw (tabled-long forms) (mul-div_cancel (length forms) positive)

  pub tabled-is : (k i : ℕ) → letter_in (tabled mark width forms) width mark k i ≡ get_or (get_or forms k []) i mark
  tabled-is k i =
      let letter = get_or (get_or forms k []) i mark in
      picked (λ (l : ℕ). l ≡ letter) (leb width i) mark _
      (λ t. sym (no-letter mark forms k i (omega (arith, leb-true width i t, fit))))
      (λ f. picked (λ (l : ℕ). l ≡ letter) (leb (length (tabled mark width forms) / width) k) mark _
      (λ t. sym (no-form mark forms k i (omega (arith, rows, leb-true _ k t))))
      (λ g. letter_at mark width forms k i 0 (omega (arith, rows, leb-false _ k g)) (omega (arith, leb-false width i f))))

-- ---- how long the text of a form is at most, where each letter's has a bound
module _ (most : ℕ → ℕ) where
  abbrev pub room : List ℕ → ℕ
  room [] = 0
  room (l ∷ ls) = most l + room ls

  module _ (is_end : ℕ → Bool) (text_of : ℕ → List ℕ) (short : (l : ℕ) → length (text_of l) ≤ most l) where
    pub spread-fits : (form : List ℕ) → length (spread is_end text_of form) ≤ room form
    spread-fits [] = omega arith
    spread-fits (l ∷ ls) =
        picked (λ (t : List ℕ). length t ≤ most l + room ls) (is_end l) [] (text_of l ++ spread is_end text_of ls) (λ _. omega arith)
        (λ _. rw length-append (omega (arith, short l, spread-fits ls)))
