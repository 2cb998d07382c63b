-- A part that is lent for a number's bytes.
-- Assumes nothing.
use mathlib.Core.Path.{◌≡◌}
use mathlib.Core.List.{List, ◌++◌}
use Prim.Native.Nat.{ℕ, ◌+◌, ◌-◌, ◌≤◌}
use lib.ListN.{length, take, drop}
use lib.Seq.{sets}
use Rattle.answers.proofs.Stored.{sets-part}
use Rattle.numbers.specs.Words.{bytes_of}
use Rattle.numbers.proofs.Bytes.{length-bytes}

-- a part that is lent for the k bytes of v to be written: what comes back is a run of stores
pub part-written : (l : List ℕ) (at k : ℕ) {v w : ℕ} {y : List ℕ} → at + k ≤ length l → w ≡ v
    → y ≡ bytes_of (length (take (at + k - at) (drop at l))) w → take at l ++ (y ++ drop (at + k - at) (drop at l)) ≡ sets l at (bytes_of k v)
part-written l at k {v} h e g = sets-part (λ j. bytes_of j v) (λ j. length-bytes j v) l at k h (rw e at g)
