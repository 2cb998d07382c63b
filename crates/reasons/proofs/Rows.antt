-- No sentence is longer than its row of the table.
-- Assumes nothing.
use mathlib.Core.Path.{◌≡◌, refl}
use Prim.Native.Nat.{ℕ, ◌≤◌}
use native.Mathlib.Omega.{arith}
use lib.ListN.{length}
use Rattle.text.proofs.Forms.{longest, within}
use Rattle.reasons.specs.Sentences.{sentences, sentence_of}

longest-is : longest length sentences ≡ 89
unfolding sentences
longest-is = refl

pub sentence-short : (sentence : ℕ) → length (sentence_of sentence) ≤ 96
sentence-short sentence = omega (arith, within length refl sentences sentence, longest-is)
