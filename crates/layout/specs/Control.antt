-- Element 2, Parse Control: the other bits are ignored.
use Rattle.std.specs.Prelude.{ℕ, ◌/◌, ◌%◌, Bool, true, false, eqb}
use Rattle.layout.specs.declared.control.ParseControl.{ParseControl}

-- bit k of a byte is b / 2^k mod 2
abbrev pub is_set : ℕ → Bool
is_set n = eqb (n % 2) 1

-- bit 7 clear: Slen bits 6-4, CS bit 3, Clen bits 2-0; Cf=1, Sf=0
abbrev pub mode1 : ℕ → ParseControl
mode1 b = record { cs = is_set (b / 8); cf = true; clen = b % 8; sf = false; slen = b / 16 % 8 }

-- bit 7 set: CS bit 5, Cf bit 4, Clen bits 3-0; then Sf bit 4, Slen bits 3-0
abbrev pub mode2 : ℕ → ℕ → ParseControl
mode2 b c = record { cs = is_set (b / 32); cf = is_set (b / 16); clen = b % 16; sf = is_set (c / 16); slen = c % 16 }
