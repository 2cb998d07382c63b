-- No form is longer than its place in the table.
-- Assumes nothing.
use mathlib.Core.Path.{◌≡◌, refl}
use Prim.Native.Nat.{ℕ, ◌≤◌}
use native.Mathlib.Omega.{arith}
use lib.ListN.{length}
use Rattle.text.proofs.Forms.{longest, within}
use Rattle.replies.specs.Forms.{forms, form_of}

longest-is : longest length forms ≡ 24
unfolding forms
longest-is = refl

pub form-short : (form : ℕ) → length (form_of form) ≤ 24
form-short form = omega (arith, within length refl forms form, longest-is)
