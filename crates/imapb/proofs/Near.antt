-- How near two numbers are, from their counts above a least one, -w units.
-- Assumes nothing.
use mathlib.Core.Path.{◌≡◌, ap, ◌∙◌}
use mathlib.Core.Bool.{Bool, true, false}
use Prim.Native.Nat.{ℕ, zero, suc, ◌+◌, ◌*◌, ◌/◌, ◌^◌, ◌≤◌, ◌<◌}
use native.Mathlib.Nat.{lt_of_not-le, mul-div_cancel}
use native.Mathlib.Decide.{dec_le}
use native.Mathlib.Omega.{arith}
use borrow.Author.Tests.{lt-ltb, le-ltb}
use lib.Dec.{T, le→leb, lt→ltb}
use lib.IntN.{ℤ, pos, negsuc, neg_ℤ, ◌+ℤ◌}
use lib.Signed.{le_z, lt_z, le_z_yes, lt_z_yes}
use lib.Ieee.{Float, fin, Format, low, up, down}
use lib.Ieee.Fits.{down_pos}
use lib.Ieee.Scale.{finite}
use Rattle.imapb.specs.Precision.{units, Near}
use Rattle.imapb.proofs.Units.{by_value}
use Rattle.imapb.proofs.Above.{Over, Lies}

-- z + w is n
abbrev From : ℤ → ℕ → ℕ → Type 0
From (pos x) w n = x + w ≡ n
From (negsuc x) w n = n + suc x ≡ w

-- d more
from_more : (z : ℤ) (w n d : ℕ) → From z w n → From (z +ℤ pos d) w (n + d)
from_more (pos x) w n d h = omega arith
from_more (negsuc x) w n d h = elim (dec_le (suc x) d) [ yes k ↦ rw (le-ltb d (suc x) k) (omega arith) | no k ↦ rw (lt-ltb d (suc x) (lt_of_not-le k)) (omega arith) ]

from_le : (x y : ℤ) (w m n : ℕ) → From x w m → From y w n → m ≤ n → T (le_z x y)
from_le (pos x) (pos y) w m n p q h = le→leb x y (omega arith)
from_le (pos x) (negsuc y) w m n p q h = absurd (omega arith)
from_le (negsuc x) (pos y) w m n p q h = tt
from_le (negsuc x) (negsuc y) w m n p q h = le→leb y x (omega arith)

from-lt : (x y : ℤ) (w m n : ℕ) → From x w m → From y w n → m < n → T (lt_z x y)
from-lt (pos x) (pos y) w m n p q h = lt→ltb x y (omega arith)
from-lt (pos x) (negsuc y) w m n p q h = absurd (omega arith)
from-lt (negsuc x) (pos y) w m n p q h = tt
from-lt (negsuc x) (negsuc y) w m n p q h = lt→ltb y x (omega arith)

-- a number's units are that integer
as-integer : (f : Format) (w n : ℕ) (x : Float) → Lies f w n x → T (finite x) × From (units f x) w n
as-integer f w n x l =
    by_value (λ (z : Float). T (finite z) × From (units f z) w n) l.sign l.size (2 ^ low f)
    (λ m e k. (tt, signed l.sign l.size m e (ap (λ (z : ℕ). z / down e) k ∙ mul-div_cancel l.size (down_pos e)) l.over))
    x l.counts
  where
    negated : (a : ℕ) → n + a ≡ w → From (neg_ℤ (pos a)) w n
    negated zero h = omega arith
    negated (suc a) h = h

    signed : (s : Bool) (a m : ℕ) (e : ℤ) → m * up e * 2 ^ low f / down e ≡ a → Over s a w n → From (units f (fin s m e)) w n
    signed false a m e q h = rw q h
    signed true a m e q h = rw q (negated a h)

pub near : (f : Format) (above below w n m : ℕ) (v r : Float) → Lies f w n v → Lies f w m r → m ≤ n + above → n < m + below → Near f above below v r
near f above below w n m v r p q h k =
    let a = as-integer f w n v p in
    let b = as-integer f w m r q in
    record {
      number = b.0;
      most = le_z_yes (from_le (units f r) (units f v +ℤ pos above) w m (n + above) b.1 (from_more (units f v) w n above a.1) h);
      least = lt_z_yes (from-lt (units f v) (units f r +ℤ pos below) w n (m + below) a.1 (from_more (units f r) w m below b.1) k);
    }
