-- A text that fits the room is printed whole, or nothing is stored.
-- Assumes nothing.
use mathlib.Core.Path.{◌≡◌, refl, ap, ◌∙◌}
use mathlib.Core.List.{List}
use Prim.Native.Nat.{ℕ, ◌≤◌, ◌<◌}
use native.Mathlib.Nat.{zero-add}
use native.Mathlib.Omega.{arith}
use borrow.Author.Tests.{lt-ltb, le-ltb}
use lib.Dec.{ltb}
use lib.ListN.{length}
use Rattle.std.specs.Prelude.{Err, Ok}
use Rattle.answers.specs.Lent.{leaves}
use Rattle.answers.specs.Listed.{written}
use Rattle.answers.specs.Table.{Answer}
use Rattle.answers.specs.declared.Refusal.TheVariants.{BufferTooSmall}
use Rattle.answers.proofs.Rules.{picked}
use Rattle.answers.proofs.Stored.{sets_over}
use Rattle.text.specs.Put.{Put}
use Rattle.text.proofs.Pieces.{put_whole}
use Rattle.lines.specs.Printed.{print_answer}

module _ (room : ℕ) (text l : List ℕ) where
  pub print-none : length l < room
      → (written (Err (BufferTooSmall room (length l))) ≡ print_answer room text (length l))
      × (l ≡ leaves (written (Err (BufferTooSmall room (length l)))) text l)
  print-none h = rw (lt-ltb (length l) room h) (refl, refl)

  pub print-whole : room ≤ length l → length text ≤ room → {r : ℕ} {m : List ℕ} → Put text 0 l r m
      → (written (Ok r) ≡ print_answer room text (length l)) × (m ≡ leaves (written (Ok r)) text l)
  print-whole h k p =
      (rw (le-ltb (length l) room h, put_whole p (omega arith), zero-add), p.stored ∙ sets_over text l (omega arith))

-- the length that is answered is within the room
pub print-within : (room : ℕ) (text : List ℕ) (got : ℕ) → length text ≤ room → {k : ℕ}
    → written (Ok k) ≡ print_answer room text got → k ≤ room
print-within room text got h {k} =
    picked (λ (a : Answer). written (Ok k) ≡ a → k ≤ room) (ltb got room) _ _
    (λ _ e. let z : ◌≡◌ {A = ℕ} 0 5 = ap (λ (a : Answer). a.number) e in absurd (omega arith))
    (λ _ e. let c = ap (λ (a : Answer). a.carries) e in let q : k ≡ length text = cc in omega (arith, h))
