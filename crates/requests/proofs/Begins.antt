-- How a line begins, byte by byte, and which form it is the first to begin as.
-- Assumes nothing.
use mathlib.Core.Path.{◌≡◌}
use mathlib.Core.Bool.{true, false}
use mathlib.Core.List.{List}
use Prim.Native.Nat.{ℕ, suc, ◌+◌, ◌-◌, ◌≤◌, ◌<◌}
use native.Mathlib.Numerals.{add-one}
use native.Mathlib.Omega.{arith}
use borrow.Author.Tests.{ne_eqb, eq-eqb}
use lib.ListN.{length, get_or, drop, drop_of_length-le}
use lib.Seq.{drop-cons}
use Rattle.replies.specs.Forms.{letter_of, is_field}
use Rattle.requests.specs.Form.{begins_from, begins_as, first_from}

module _ (form : ℕ) (line : List ℕ) (i : ℕ) where
  pub begun_all : length line ≤ i → begins_from form i (drop i line) ≡ false
  begun_all h = rw (drop_of_length-le line {i = i} h)

  module _ (h : i < length line) {l : ℕ} (e : l ≡ letter_of form i) where
    pub begun-field : true ≡ is_field l → begins_from form i (drop i line) ≡ true
    begun-field f = rw (drop-cons line i 0 h, ← e, ← f)

    module _ (f : false ≡ is_field l) where
      pub begun-other : (get_or line i 0 ≡ l → ⊥) → begins_from form i (drop i line) ≡ false
      begun-other n = rw (drop-cons line i 0 h, ← e, ← f, ne_eqb (get_or line i 0) l n)

      pub begun_more : get_or line i 0 ≡ l → begins_from form i (drop i line) ≡ begins_from form (i + 1) (drop (i + 1) line)
      begun_more n = rw (drop-cons line i 0 h, ← e, ← f, eq-eqb (get_or line i 0) l n, add-one i)

-- ---- the forms that are left of so many
module _ (n : ℕ) (line : List ℕ) (form : ℕ) (h : form < n) where
  one_left : n - form ≡ suc (n - (form + 1))
  one_left = omega arith

  pub first-here : true ≡ begins_as form line → first_from (n - form) form line ≡ form
  first-here e = rw (one_left, ← e)

  pub first-behind : false ≡ begins_as form line → first_from (n - form) form line ≡ first_from (n - (form + 1)) (form + 1) line
  first-behind e = rw (one_left, ← e)
