-- ST 1201.5's special values, Tables 2 and 3: the top five bits of a code are its family, the 8L-5 below its payload.
use Rattle.std.specs.Prelude.{ℕ, ◌+◌, ◌-◌, ◌*◌, ◌/◌, ◌%◌, ◌^◌, eqb, leb}
use Rattle.answers.specs.Table.{pick}
use Rattle.imapb.specs.declared.special.ImapbSpecial.{ImapbSpecial}
use Rattle.imapb.specs.declared.special.ImapbSpecial.TheVariants.{
  PositiveInfinity,
  NegativeInfinity,
  PositiveQuietNaN,
  NegativeQuietNaN,
  PositiveSignalingNaN,
  NegativeSignalingNaN,
  BelowMin,
  AboveMax,
  UserDefined,
}
use Rattle.imapb.specs.declared.decode.DecodedImapb.{DecodedImapb}
use Rattle.imapb.specs.declared.decode.DecodedImapb.TheVariants.{Value, Special, ReservedSpecial, OutOfRange}
use Rattle.imapb.specs.Mapping.{top_of, value_of}

abbrev pub family : ImapbSpecial → ℕ
family (UserDefined p) = 0b11000
family PositiveInfinity = 0b11001
family (PositiveQuietNaN p) = 0b11010
family (PositiveSignalingNaN p) = 0b11011
family BelowMin = 0b11100
family AboveMax = 0b11100
family NegativeInfinity = 0b11101
family (NegativeQuietNaN p) = 0b11110
family (NegativeSignalingNaN p) = 0b11111

-- below-minimum is byte E0 and above-maximum byte E1, followed only by zeros
abbrev pub payload : ℕ → ImapbSpecial → ℕ
payload L (UserDefined p) = p
payload L PositiveInfinity = 0
payload L (PositiveQuietNaN p) = p
payload L (PositiveSignalingNaN p) = p
payload L BelowMin = 0
payload L AboveMax = 2 ^ (8 * L - 8)
payload L NegativeInfinity = 0
payload L (NegativeQuietNaN p) = p
payload L (NegativeSignalingNaN p) = p

abbrev pub special_code : ℕ → ImapbSpecial → ℕ
special_code L s = family s * 2 ^ (8 * L - 5) + payload L s

-- Table 3
abbrev pub overflow_reading : ℕ → ℕ → ℕ → DecodedImapb
overflow_reading L p y =
    pick (eqb p 0) (Special BelowMin) (pick (eqb p (2 ^ (8 * L - 8))) (Special AboveMax) (ReservedSpecial y))

-- a code y with its top two bits set, of the family f and the payload p: what is in neither table is reserved
abbrev pub special_reading : ℕ → ℕ → ℕ → ℕ → DecodedImapb
special_reading L f p y =
    pick (eqb f 0b11000) (Special (UserDefined p))
    (pick (eqb f 0b11001) (pick (eqb p 0) (Special PositiveInfinity) (ReservedSpecial y))
    (pick (eqb f 0b11010) (Special (PositiveQuietNaN p))
    (pick (eqb f 0b11011) (Special (PositiveSignalingNaN p))
    (pick (eqb f 0b11100) (overflow_reading L p y)
    (pick (eqb f 0b11101) (pick (eqb p 0) (Special NegativeInfinity) (ReservedSpecial y))
    (pick (eqb f 0b11110) (Special (NegativeQuietNaN p))
    (pick (eqb f 0b11111) (Special (NegativeSignalingNaN p))
    (ReservedSpecial y))))))))

-- ---- what a code reads as
-- a special or a reserved pattern where its top two bits are set, and otherwise a number, over whatever range
abbrev pub unless_special : ℕ → ℕ → DecodedImapb → DecodedImapb
unless_special L y number =
    pick (eqb (y / 2 ^ (8 * L - 2)) 0b11) (special_reading L (y / 2 ^ (8 * L - 5)) (y % 2 ^ (8 * L - 5)) y) number

-- over the range -1 to 1
abbrev pub reading : ℕ → ℕ → DecodedImapb
reading L y = unless_special L y (pick (leb y (top_of L)) (Value (value_of L y)) (OutOfRange (value_of L y)))
