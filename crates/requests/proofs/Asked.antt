-- A request that is read letter by letter: what a turn of the loop leaves to read.
-- Assumes nothing.
use mathlib.Core.Path.{◌≡◌, refl, sym, ap, ◌∙◌}
use mathlib.Core.List.{List}
use Prim.Native.Nat.{ℕ, suc, ◌+◌, ◌-◌, ◌≤◌, ◌<◌}
use native.Mathlib.Omega.{arith}
use lib.ListN.{length}
use Rattle.text.specs.declared.numeral.Numeral.{Numeral}
use Rattle.std.specs.Prelude.{Option, None, Some}
use Rattle.replies.specs.Forms.{letter_of}
use Rattle.replies.specs.Places.{bad_request}
use Rattle.requests.specs.declared.request.Request.{Request}
use Rattle.requests.specs.Form.{form_of}
use Rattle.requests.specs.Fields.{field_at, line_after_field, words_after_field}
use Rattle.requests.specs.Request.{unfilled, with, Asked, asked, asked_from, asked_by, request_of, line_left, words_left}

-- the request, and what is left in the line and in the words
abbrev pub Answers : List ℕ → List ℕ → Request → List ℕ → List ℕ → Type 0
Answers line₀ words₀ r line words =
    (r ≡ request_of line₀ words₀) × ((line ≡ line_left line₀ words₀) × (words ≡ words_left line₀ words₀))

answers : (line₀ words₀ : List ℕ) {r : Request} {line words : List ℕ} → asked r line words ≡ asked_by line₀ words₀ → Answers line₀ words₀ r line words
answers line₀ words₀ e = (ap (λ (a : Asked). a.request) e, (ap (λ (a : Asked). a.line) e, ap (λ (a : Asked). a.words) e))

-- ---- the loop, after i letters
pub record Reading (line₀ words₀ : List ℕ) (form : ℕ) (line words : List ℕ) (r : Request) (at i : ℕ) : Type 0 where
  pub long : length line ≡ length line₀
  pub wide : length words ≡ length words₀
  pub within : i ≤ 24
  pub rest : asked_from (24 - i) form i r line at words ≡ asked_by line₀ words₀

module _ {line₀ words₀ : List ℕ} {form : ℕ} where
  pub reading-none : {r : Request} → form ≡ form_of line₀ → r ≡ unfilled form → Reading line₀ words₀ form line₀ words₀ r 0 0
  unfolding asked_by
  reading-none e u = record { long = refl; wide = refl; within = omega arith; rest = rw (u, e) }

  module _ {line words : List ℕ} {r : Request} {at i : ℕ} (p : Reading line₀ words₀ form line words r at i) where
    pub reading-all : 24 ≤ i → Answers line₀ words₀ r line words
    reading-all h = let e : 24 - i ≡ 0 = omega arith in answers line₀ words₀ (rw e at p.rest)

    module _ (h : i < 24) {l : ℕ} (e : l ≡ letter_of form i) {n : Option Numeral} {line' words' : List ℕ}
        (f : (n ≡ field_at l line at words) × ((line' ≡ line_after_field l line at) × (words' ≡ words_after_field l line at words))) where
      one_left : 24 - i ≡ suc (24 - (i + 1))
      one_left = omega arith

      pub reading-bad : {r' : Request} → n ≡ None → r' ≡ unfilled bad_request → Answers line₀ words₀ r' line' words'
      reading-bad q u = answers line₀ words₀ (rw (f.1.0, f.1.1, u) (rw (one_left, ← e, sym f.0 ∙ q) at p.rest))

      pub reading-more : {read : Numeral} {r' : Request} → n ≡ Some read → r' ≡ with l read.value r
          → length line' ≡ length line → length words' ≡ length words → Reading line₀ words₀ form line' words' r' read.next (i + 1)
      reading-more q u a b =
          record {
            long = a ∙ p.long;
            wide = b ∙ p.wide;
            within = omega arith;
            rest = rw (f.1.0, f.1.1, u) (rw (one_left, ← e, sym f.0 ∙ q) at p.rest);
          }
