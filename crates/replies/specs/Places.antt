-- Where the forms of the replies stand: behind those of the requests.
use Rattle.std.specs.Prelude.{ℕ, ◌+◌}

-- the requests are the first so many, and this is the reply to what is none of them
abbrev pub bad_request : ℕ
bad_request = 30

-- a refusal's number alone, then with one, two and three values
abbrev pub refused_at : ℕ
refused_at = bad_request + 1

-- a refusal with the bits of binary64 numbers
abbrev pub refused_bits_at : ℕ
refused_bits_at = bad_request + 5

abbrev pub empty_at : ℕ
empty_at = bad_request + 6

abbrev pub bits_at : ℕ
bits_at = bad_request + 7

abbrev pub bits32_at : ℕ
bits32_at = bad_request + 8

abbrev pub oid_at : ℕ
oid_at = bad_request + 9

abbrev pub size_at : ℕ
size_at = bad_request + 10

abbrev pub nothing_at : ℕ
nothing_at = bad_request + 11

abbrev pub value_at : ℕ
value_at = bad_request + 12

abbrev pub outside_at : ℕ
outside_at = bad_request + 13

abbrev pub reserved_at : ℕ
reserved_at = bad_request + 14

abbrev pub number_at : ℕ
number_at = bad_request + 15

abbrev pub no_at : ℕ
no_at = bad_request + 16

abbrev pub yes_at : ℕ
yes_at = bad_request + 17

abbrev pub done_at : ℕ
done_at = bad_request + 18

abbrev pub counts_at : ℕ
counts_at = bad_request + 19

abbrev pub deviation_at : ℕ
deviation_at = bad_request + 20

abbrev pub slot_at : ℕ
slot_at = bad_request + 21

abbrev pub touched_at : ℕ
touched_at = bad_request + 22

abbrev pub length_at : ℕ
length_at = bad_request + 23

abbrev pub set_counts_at : ℕ
set_counts_at = bad_request + 24

abbrev pub pack_at : ℕ
pack_at = bad_request + 25
