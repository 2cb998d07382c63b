-- What a mapped number costs in precision. Everything is taken 2^1074-fold, so that each binary64 is exactly a whole
-- number.
use Rattle.std.specs.Prelude.{ℕ, ◌-◌, ◌*◌, ◌/◌, ◌^◌, ◌≡◌, true, false, T, ℤ, pos, neg_ℤ, ◌+ℤ◌, ◌≤ℤ◌, ◌<ℤ◌, Float}
use Rattle.std.specs.Float.{nan, inf, fin, Format, binary64}
use Rattle.std.specs.Float.Ieee.{low, up, down}
use Rattle.std.specs.Float.Ieee.Scale.{finite}
use Rattle.imapb.specs.declared.decode.DecodedImapb.TheVariants.{Value}
use Rattle.imapb.specs.Mapping.{code_of, value_of}
use Rattle.imapb.specs.Special.{reading}

-- a finite x in units of the format's least value: of 2^-1074 in binary64
abbrev pub units : Format → Float → ℤ
units f nan = pos 0
units f (inf s) = pos 0
units f (fin true m e) = neg_ℤ (pos (m * up e * 2 ^ low f / down e))
units f (fin false m e) = pos (m * up e * 2 ^ low f / down e)

-- r is a number, at most `above` units above v and fewer than `below` units below it
pub record Near (f : Format) (above below : ℕ) (v r : Float) : Type 0 where
  pub number : T (finite r)
  pub most : units f r ≤ℤ (units f v +ℤ pos above)
  pub least : units f v <ℤ (units f r +ℤ pos below)

-- the code of v reads as a value, at most 2^-53 above v and less than one step, 2^(2-8L), below it
pub record Kept (L : ℕ) (v : Float) : Type 0 where
  pub reads : reading L (code_of L v) ≡ Value (value_of L (code_of L v))
  pub near : Near binary64 (2 ^ 1021) (2 ^ (1076 - 8 * L)) v (value_of L (code_of L v))
