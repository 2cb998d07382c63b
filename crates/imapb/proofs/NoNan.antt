-- A value is a number: no operation of a reading gives a NaN.
-- Assumes nothing.
use mathlib.Core.Path.{◌≡◌, refl}
use mathlib.Core.Bool.{Bool, true, false, cond, beq, ◌&&◌}
use Prim.Native.Nat.{ℕ, zero, suc, ◌+◌, ◌-◌, ◌*◌, ◌^◌}
use lib.Dec.{ltb}
use lib.IntN.{pos}
use lib.Ieee.{Float, nan, inf, fin, Format, binary64, prec, emax, low, unlike, up, down, odd, units, round, sum, add, sub, div, of_int, is_nan, neg}
use lib.Ieee.Fits.{round_is}
use Rattle.imapb.specs.Mapping.{one, power, scale_of, value, value_of}

-- one of two
either_number : (b : Bool) (x y : Float) → is_nan x ≡ false → is_nan y ≡ false → is_nan (cond b x y) ≡ false
either_number true x y h k = h
either_number false x y h k = k

-- what is rounded
odd_number : (d : ℕ) (s : Bool) (q k l : ℕ) → is_nan (odd d s q k l) ≡ false
unfolding odd is_nan
odd_number d s zero k l = refl
odd_number d s (suc q) k l = refl

units_number : (f : Format) (s : Bool) (q k : ℕ) → is_nan (units f s q k) ≡ false
unfolding units is_nan
units_number f s q k =
    either_number (ltb (q * 2 ^ k) (2 ^ (low f + suc (emax f)))) (odd (suc (prec f)) s q k (low f)) (inf s) (odd_number (suc (prec f)) s q k (low f)) refl

round_number : (f : Format) (s : Bool) (a c : ℕ) → is_nan (round f s a c) ≡ false
round_number f s a c = rw (round_is f s a c) (units_number f s _ _)

-- a sum
sum_number : (f : Format) (s : Bool) (a : ℕ) (t : Bool) (b c : ℕ) → is_nan (sum f s a t b c) ≡ false
unfolding sum
sum_number f s a t b c =
    let x = round f t (b - a) c in
    let y = round f (s && ltb b a) (a - b) c in
    either_number (beq s t) (round f s (a + b) c) (cond (ltb a b) x y) (round_number f s (a + b) c)
    (either_number (ltb a b) x y (round_number f t (b - a) c) (round_number f (s && ltb b a) (a - b) c))

-- the two steps of a reading
less_one : (x : Float) → is_nan x ≡ false → is_nan (sub binary64 x one) ≡ false
unfolding sub add neg is_nan
less_one nan h = h
less_one (inf s) h = refl
less_one (fin s m e) h = sum_number binary64 s (m * up e * 1) true (1 * 2 ^ 0 * down e) (down e * 1)

scaled : (x : Float) (t : ℕ) → is_nan x ≡ false → is_nan (div binary64 x (power t)) ≡ false
unfolding div is_nan
scaled nan t h = h
scaled (inf s) t h = refl
scaled (fin s m e) t h = round_number binary64 (unlike s false) (m * up e * 1) (1 * 2 ^ t * down e)

-- what a code reads as
pub value-number : (L y : ℕ) → is_nan (value_of L y) ≡ false
unfolding value of_int
value-number L y =
    let x = of_int binary64 (pos y) in
    less_one (div binary64 x (scale_of L)) (scaled x (8 * L - 2) (round_number binary64 false y 1))
