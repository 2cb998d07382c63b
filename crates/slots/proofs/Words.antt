-- A code by a word of eight bytes: the code of every length is its front.
-- Assumes nothing.
use mathlib.Core.Path.{◌≡◌}
use mathlib.Core.List.{◌++◌}
use Prim.Native.Nat.{ℕ}
use lib.Dec.{T}
use lib.ListN.{drop}
use lib.Ieee.{binary64, of_bits}
use lib.Ieee.Bits.{of_bits-fits}
use Rattle.numbers.proofs.Bytes.{bytes-front}
use Rattle.imapb.specs.Mapping.{code_of, in_range}
use Rattle.imapb.proofs.Eight.{code-cut}
use Rattle.plan.specs.Rules.{Supported}
use Rattle.slots.specs.Slots.{coded}

pub word-front : (L c : ℕ) → Supported L → T (in_range (of_bits binary64 c)) → coded 8 c ≡ coded L c ++ drop L (coded 8 c)
word-front L c s r =
    let v = of_bits binary64 c in
    rw (code-cut v (of_bits-fits binary64 c) r L s.0 s.1) (bytes-front L 8 (code_of 8 v) s.1)
