-- BER-OID: seven bits a byte, high first, the top bit set on all but the last; value at most 2^32-1.
use Rattle.std.specs.Prelude.{ℕ, suc, ◌-◌, ◌/◌, ◌%◌, ◌^◌, ◌&&◌, List, [], ◌∷◌, ◌++◌, leb, ltb, eqb, length, get_or, take, Option, Some, None}
use Rattle.answers.specs.Table.{Answer, answer, wholes, pick}
use Rattle.numbers.specs.declared.ber_oid.BerOid.{BerOid}
use Rattle.numbers.specs.Digits.{spelt, digits}

-- a number, and how many bytes it took
abbrev pub oid : ℕ → ℕ → Option BerOid
oid value taken = Some (record { value = value; taken = taken })

-- how many bytes at the front have their top bit set
abbrev pub continued : List ℕ → ℕ
continued [] = 0
continued (b ∷ bs) = pick (leb 128 b) (suc (continued bs)) 0

-- the number of the first k bytes
abbrev pub oid_value : ℕ → List ℕ → ℕ
oid_value k bytes = spelt 128 0 (take k bytes)

-- at most five bytes with the top bit set, then the last; a value of at most 2^32-1, and how many bytes it took
unfoldable pub oid_read : List ℕ → Option BerOid
oid_read bytes =
    let k = suc (continued bytes) in
    pick (leb k 6 && leb k (length bytes) && ltb (oid_value k bytes) (2 ^ 32))
    (oid (oid_value k bytes) k) None

-- read strictly: no leading 80
unfoldable pub oid_read_strict : List ℕ → Option BerOid
oid_read_strict bytes = pick (eqb (get_or bytes 0 0) 128) None (oid_read bytes)

-- the fewest bytes for a value below 2^32
abbrev pub oid_length : ℕ → ℕ
oid_length v =
    pick (ltb v (128 ^ 1)) 1 (pick (ltb v (128 ^ 2)) 2 (pick (ltb v (128 ^ 3)) 3 (pick (ltb v (128 ^ 4)) 4 5)))

-- the value's bytes
unfoldable pub oid_bytes : ℕ → List ℕ
oid_bytes v = digits 128 1 (oid_length v - 1) (v / 128) ++ (v % 128 ∷ [])

-- 5 with needed and got where there is no room
abbrev pub oid_written : ℕ → ℕ → Answer
oid_written v room =
    pick (ltb room (oid_length v)) (answer 5 (wholes (oid_length v ∷ room ∷ [])))
    (answer 0 (wholes (oid_length v ∷ [])))
