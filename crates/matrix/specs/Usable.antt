-- Document 01, "Usable", and what document 02, K6, adds to it.
use Rattle.std.specs.Prelude.{ℕ, zero, suc, Bool, true, false, ◌&&◌, ◌||◌, List, [], ◌∷◌, eqb, leb, pos, Float}
use Rattle.std.specs.Float.{fin, binary64}
use Rattle.std.specs.Float.Ieee.{of_bits, le}
use Rattle.std.specs.Float.Ieee.Scale.{finite}
use Rattle.imapb.specs.Mapping.{in_range}
use Rattle.layout.specs.declared.pack.SdccFlp.{SdccFlp}
use Rattle.layout.specs.Size.{max_rows}
use Rattle.layout.specs.Triangle.{slots_of}

-- N is at most the limit, and the counts fit it: no deviations, or N; M correlations
abbrev pub counts_fit : SdccFlp → Bool
counts_fit p =
    leb p.matrix_size max_rows
    && (eqb p.deviations 0 || eqb p.deviations p.matrix_size)
    && eqb p.slots (slots_of p.matrix_size)

abbrev pub zero_value : Float
zero_value = fin false 0 (pos 0)

-- finite and at least 0; either zero will do, since IEEE 754 holds them equal
abbrev pub at_least_zero : Float → Bool
at_least_zero x = finite x && le zero_value x

-- a deviation, by its bits
abbrev pub is_deviation : ℕ → Bool
is_deviation bits = at_least_zero (of_bits binary64 bits)

-- a correlation, by its bits, lies from -1 to 1
abbrev pub is_correlation : ℕ → Bool
is_correlation bits = in_range (of_bits binary64 bits)

-- the lent values hold `count` of them, and each of those passes the test; any that follow are not looked at
abbrev pub first_all : (ℕ → Bool) → ℕ → List ℕ → Bool
first_all test zero lent = true
first_all test (suc count) [] = false
first_all test (suc count) (x ∷ lent) = test x && first_all test count lent

-- a state is that of an absent slot, 0, or of a value, 1: a special, a reserved pattern and what is out of range are no
-- correlations
abbrev pub is_settled : ℕ → Bool
is_settled state = leb state 1

-- yes where each part says so; the last line is document 02's: M states, each of them settled
abbrev pub is_usable : SdccFlp → ℕ → List ℕ → List ℕ → List ℕ → Bool
is_usable p count ds cs ss =
    counts_fit p
    && first_all is_deviation p.deviations ds
    && first_all is_correlation p.slots cs
    && (eqb count (slots_of p.matrix_size) && first_all is_settled count ss)
