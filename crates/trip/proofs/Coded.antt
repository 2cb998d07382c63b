-- A correlation that is written as a code and read from it: done both ways.
-- Assumes nothing.
use mathlib.Core.Path.{◌≡◌, refl, ap}
use mathlib.Core.List.{[], ◌∷◌}
use Prim.Native.Nat.{ℕ, ◌≤◌}
use borrow.Author.Tests.{eq-eqb, le-ltb}
use lib.Dec.{T}
use lib.Ieee.{binary64, of_bits}
use lib.Ieee.Bits.{is_true, of_bits-fits}
use Rattle.answers.specs.Table.{answer, wholes}
use Rattle.numbers.specs.Words.{bytes_of}
use Rattle.numbers.proofs.Bytes.{length-bytes}
use Rattle.imapb.specs.declared.decode.DecodedImapb.TheVariants.{Value}
use Rattle.imapb.specs.Mapping.{code_of, value_of, in_range}
use Rattle.imapb.specs.Tables.{reads, imapb_read, imapb_written}
use Rattle.imapb.proofs.Law.{never-special}
use Rattle.imapb.proofs.Length.{is-supported}
use Rattle.plan.specs.Rules.{Supported}
use Rattle.trip.proofs.Values.{word-of-code}

module _ (L c : ℕ) (clen : Supported L) (ranged : T (in_range (of_bits binary64 c))) where
  -- a code in the range is written, and takes L bytes
  pub code-written : (room : ℕ) → L ≤ room → imapb_written L c room ≡ answer 0 (wholes (L ∷ []))
  code-written room h = rw (is-supported L clen.0 clen.1, le-ltb room L h, is_true (in_range (of_bits binary64 c)) ranged)

  -- and its bytes read as its value
  pub code_read : imapb_read L (bytes_of L (code_of L (of_bits binary64 c))) ≡ reads (Value (value_of L (code_of L (of_bits binary64 c))))
  code_read =
      rw (is-supported L clen.0 clen.1, length-bytes, eq-eqb L L refl, word-of-code L c clen.0 clen.1 ranged)
      (ap reads (never-special L clen.0 clen.1 (of_bits binary64 c) (of_bits-fits binary64 c) ranged))
