-- The range -1 to 1, which `imapb` reads codes over: it is the instance, part by part and as a whole.
use Rattle.std.specs.Prelude.{◌≡◌, ℕ, ◌^◌, ◌<◌, List}
use Rattle.imapb.specs.Mapping.{one, minus_one, scale_of, top_of, value_of}
use Rattle.imapb.specs.Tables.{imapb_read}
use Rattle.ranges.specs.Range.{zero_float, scale_in, offset_in, top_in, value_in}
use Rattle.ranges.specs.Tables.{imapb_read_in}

-- for codes of L bytes: the scale, no offset, the top code, and the value of every code
pub record UnitParts (L : ℕ) : Type 0 where
  pub scale : scale_in minus_one one L ≡ scale_of L
  pub offset : offset_in minus_one one L ≡ zero_float
  pub top : top_in minus_one one L ≡ top_of L
  pub value : (y : ℕ) → y < 2 ^ 64 → value_in minus_one one L y ≡ value_of L y

-- today's `decode_imapb` is the reading over -1 and 1, for every length and every code
pub record UnitRange : Type 0 where
  pub is : (L : ℕ) (bytes : List ℕ) → imapb_read_in minus_one one L bytes ≡ imapb_read L bytes
