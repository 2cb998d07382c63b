-- The header and where a file breaks it, computed: NumPy's own bytes, and the limits of document 02.
-- Assumes nothing.
use mathlib.Core.Path.{◌≡◌, refl}
use mathlib.Core.List.{[], ◌∷◌, ◌++◌}
use lib.ListN.{length, take, set}
use Rattle.text.specs.Text.{ascii, newline, places}
use Rattle.text.specs.Numeral.{worth}
use Rattle.npy_header.specs.Header.{front, header, size_in, break_in}

-- what NumPy writes for ten rows
ten : header 10 ≡ 0x93 ∷ (ascii "NUMPY" ++ (1 ∷ 0 ∷ 118 ∷ 0 ∷ ascii "{'descr': '<f8', 'fortran_order': False, 'shape': (10, 10), }                                                        \n"))
unfolding header places
ten = refl

least : length (header 0) ≡ 128
unfolding header places
least = refl

most : length (header 999999999) ≡ 128
unfolding header places
most = refl

-- ---- a file without a break, of the most that nine digits spell
unbroken : break_in (header 999999999) ≡ 128
unfolding header places worth size_in break_in
unbroken = refl

-- ---- breaks in the first number: it is none; a zero in front of it; a tenth digit
no_digit : break_in (front ++ ascii "N, N), }") ≡ 61
unfolding header places worth size_in break_in
no_digit = refl

leading-zero : break_in (front ++ ascii "01, 01), }") ≡ 62
unfolding header places worth size_in break_in
leading-zero = refl

tenth-digit : break_in (front ++ ascii "1000000000, 1000000000), }") ≡ 70
unfolding header places worth size_in break_in
tenth-digit = refl

-- ---- behind it: the second number is another, a digit more or less; a space less before the newline
other-number : break_in (set (header 2) 64 0x33) ≡ 64
unfolding header places worth size_in break_in
other-number = refl

longer-number : break_in (front ++ ascii "2, 22), }") ≡ 65
unfolding header places worth size_in break_in
longer-number = refl

shorter-number : break_in (front ++ ascii "22, 2), }") ≡ 66
unfolding header places worth size_in break_in
shorter-number = refl

one-space-short : break_in (take 126 (header 2) ++ newline ++ (0 ∷ [])) ≡ 126
unfolding header places worth size_in break_in
one-space-short = refl

-- ---- a file that ends early
empty : break_in [] ≡ 0
unfolding header places worth size_in break_in
empty = refl

cut : break_in (take 63 (header 2)) ≡ 63
unfolding header places worth size_in break_in
cut = refl

-- within the number too, where a longer one may have been meant
cut-number : break_in (take 63 (header 256)) ≡ 63
unfolding header places worth size_in break_in
cut-number = refl
