-- BER-OID: what is written is read back, whatever follows; the bytes are the fewest; and what the loops go by.
-- Assumes nothing.
use mathlib.Core.Path.{◌≡◌, refl, sym, ap, ◌∙◌}
use mathlib.Core.Bool.{true, ◌&&◌, and-eq-true_iff}
use mathlib.Core.List.{List, [], ◌∷◌, ◌++◌}
use Prim.Native.Nat.{ℕ, zero, suc, ◌+◌, ◌-◌, ◌/◌, ◌%◌, ◌^◌, ◌≤◌, ◌<◌}
use native.Mathlib.Nat.{le_antisymm, pow-le-pow_right, pow-suc, mod-eq_of_lt, zero-add}
use native.Mathlib.Numerals.{add-one}
use native.Mathlib.Omega.{arith, by_contra}
use lib.Dec.{leb, ltb, eqb}
use lib.ListN.{length, drop, set, get_or, length-append}
use lib.Seq.{drop-cons, append_snoc, take_at}
use borrow.Author.Rules.{rules}
use borrow.Author.Tests.{ltb-true, ltb-false, leb-true, le-leb, lt-leb, lt-ltb}
use Rattle.std.specs.Prelude.{Option, None}
use Rattle.answers.specs.Lent.{over}
use Rattle.answers.proofs.Rules.{picked}
use Rattle.numbers.specs.Digits.{spelt, digits}
use Rattle.numbers.specs.declared.ber_oid.BerOid.{BerOid}
use Rattle.numbers.specs.BerOid.{oid, continued, oid_value, oid_read, oid_read_strict, oid_length, oid_bytes}
use Rattle.numbers.proofs.Digits.{drop-set, length_digits, spelt-append, spelt-digits}

-- after i bytes with the top bit set, one more, or the last
module _ (l : List ℕ) (i : ℕ) (h : i < length l) (e : continued l ≡ i + continued (drop i l)) where
  pub continued-more : 128 ≤ get_or l i 0 → continued l ≡ i + 1 + continued (drop (i + 1) l)
  continued-more b = e ∙ rw (add-one, drop-cons l i 0, le-leb 128 (get_or l i 0) b) (omega arith)

  pub continued-last : get_or l i 0 < 128 → continued l ≡ i
  continued-last b = e ∙ rw (drop-cons l i 0, lt-leb 128 (get_or l i 0) b) (omega arith)

-- a number at the front of the bytes
pub read_is : (bytes : List ℕ) {k : ℕ} → suc (continued bytes) ≡ k → k ≤ 6 → k ≤ length bytes → oid_value k bytes < 2 ^ 32
    → oid_read bytes ≡ oid (oid_value k bytes) k
unfolding oid_read
read_is bytes {k} e a b h = rw (e, le-leb k 6 a, le-leb k (length bytes) b, lt-ltb (oid_value k bytes) (2 ^ 32) h)

-- the tests of a read that did
passed : (bytes : List ℕ) (k : ℕ) → (leb k 6 && leb k (length bytes) && ltb (oid_value k bytes) (2 ^ 32)) ≡ true
    → (k ≤ 6) × (k ≤ length bytes) × (oid_value k bytes < 2 ^ 32)
passed bytes k t =
    let both = (and-eq-true_iff (leb k 6 && leb k (length bytes)) _).0 t in
    let first = (and-eq-true_iff (leb k 6) _).0 both.0 in
    (leb-true k 6 first.0, leb-true k (length bytes) first.1, ltb-true (oid_value k bytes) (2 ^ 32) both.1)

-- no number there
pub none_is : (bytes : List ℕ) → (suc (continued bytes) ≤ 6 → continued bytes < length bytes → oid_value (suc (continued bytes)) bytes < 2 ^ 32 → ⊥)
    → oid_read bytes ≡ None
unfolding oid_read
none_is bytes never =
    picked (λ (r : Option BerOid). r ≡ None) _ _ _ (λ t. let p = passed bytes (suc (continued bytes)) t in absurd (never p.0 p.1 p.2)) (λ _. refl)

-- one number that was read is another where they are the same value in as many bytes
oid-one : {v k w j : ℕ} → oid v k ≡ oid w j → (v ≡ w) × (k ≡ j)
oid-one {v} {k} {w} {j} e =
    let r : ◌≡◌ {A = BerOid} (record { value = v; taken = k }) (record { value = w; taken = j }) = cc in
    (ap (λ (o : BerOid). o.value) r, ap (λ (o : BerOid). o.taken) r)

not-read : {v k : ℕ} → oid v k ≡ None → ⊥
not-read e = let z : ◌≡◌ {A = ℕ} 0 1 = cc in omega arith

-- what a number that was read tells
pub read-tells : (bytes : List ℕ) {v k : ℕ} → oid v k ≡ oid_read bytes
    → (k ≡ suc (continued bytes)) × (v ≡ oid_value k bytes) × (k ≤ length bytes)
unfolding oid_read
read-tells bytes {v} {k} =
    picked (λ (r : Option BerOid). oid v k ≡ r → (k ≡ suc (continued bytes)) × (v ≡ oid_value k bytes) × (k ≤ length bytes)) _ _ _
    (λ t e.
    let p : (v ≡ oid_value (suc (continued bytes)) bytes) × (k ≡ suc (continued bytes)) = oid-one e in
    let h = p.1 in
    (h, rw h p.0, rw h (passed bytes (suc (continued bytes)) t).1))
    (λ _ e. absurd (not-read e))

-- what is read strictly is read
pub strict-tells : (bytes : List ℕ) {v k : ℕ} → oid v k ≡ oid_read_strict bytes → oid v k ≡ oid_read bytes
unfolding oid_read_strict
strict-tells bytes {v} {k} =
    picked (λ (r : Option BerOid). oid v k ≡ r → oid v k ≡ oid_read bytes) (eqb (get_or bytes 0 0) 128) None (oid_read bytes)
    (λ _ e. absurd (not-read e)) (λ _ e. e)

-- it takes a byte at least, and no more than there are
pub oid-within : (bytes : List ℕ) {v k : ℕ} → oid v k ≡ oid_read_strict bytes → (1 ≤ k) × (k ≤ length bytes)
oid-within bytes e = let p = read-tells bytes (strict-tells bytes e) in (omega (arith, p.0), p.2)

continued-digits : (j n : ℕ) (l : List ℕ) → continued (digits 128 1 j n ++ l) ≡ j + continued l
continued-digits zero n l = sym (zero-add (continued l))
continued-digits (suc j) n l =
    rw (append_snoc, continued-digits j (n / 128) ((128 + n % 128) ∷ l), le-leb 128 (128 + n % 128) (omega arith)) (omega arith)

-- k bytes hold v, and where k is two or more, one fewer does not
abbrev pub Enough : ℕ → ℕ → Type 0
Enough v k = (1 ≤ k) × (k ≤ 5) × (v < 128 ^ k) × (1 < k → 128 ^ (k - 1) ≤ v)

least : {v k : ℕ} → Enough v k → {m : ℕ} → 1 ≤ m → v < 128 ^ m → k ≤ m
least {v} {k} e {m} o h =
    by_contra k m (λ l. omega (arith, e.3 (omega arith), pow-le-pow_right {n = 128} (omega arith) {i = m} {j = k - 1} (omega arith)))

ruleset tests = (rules, ltb-true, ltb-false)

module _ (v : ℕ) (small : v < 2 ^ 32) where
  pub enough : Enough v (oid_length v)
  enough =
      picked (Enough v) (ltb v (128 ^ 1)) _ _ (λ a. search tests)
      (λ a. picked (Enough v) (ltb v (128 ^ 2)) _ _ (λ b. search tests)
      (λ b. picked (Enough v) (ltb v (128 ^ 3)) _ _ (λ c. search tests)
      (λ c. picked (Enough v) (ltb v (128 ^ 4)) _ _ (λ d. search tests) (λ d. search tests))))

  pub length-is : {k : ℕ} → Enough v k → k ≡ oid_length v
  length-is e = le_antisymm (least e enough.0 enough.2) (least enough e.0 e.2)

  -- the bytes hold the value
  pub holds : v < 128 ^ oid_length v
  holds = enough.2

  -- no fewer do
  pub fewest : (k : ℕ) → 1 ≤ k → v < 128 ^ k → oid_length v ≤ k
  fewest k = least enough

  pub length-oid : length (oid_bytes v) ≡ oid_length v
  unfolding oid_bytes
  length-oid = rw (length-append, length_digits) (omega (arith, enough.0))

  -- the last byte stored, and the others to come
  pub stored : (out : List ℕ) → oid_length v ≤ length out
      → digits 128 1 (oid_length v - 1) (v / 128) ++ drop (oid_length v - 1) (set out (oid_length v - 1) (v % 128)) ≡ over (oid_bytes v) out
  unfolding oid_bytes
  stored out h =
      let e : suc (oid_length v - 1) ≡ oid_length v = omega (arith, enough.0) in
      rw (length-oid, drop-set out (oid_length v - 1) (v % 128) (omega arith), e, append_snoc)

  continued-oid : (rest : List ℕ) → suc (continued (oid_bytes v ++ rest)) ≡ oid_length v
  unfolding oid_bytes
  continued-oid rest =
      rw (append_snoc, continued-digits (oid_length v - 1) (v / 128) (v % 128 ∷ rest), lt-leb 128 (v % 128) (omega arith)) (omega (arith, enough.0))

  spelt-oid : spelt 128 0 (oid_bytes v) ≡ v
  unfolding oid_bytes
  spelt-oid =
      let e : oid_length v ≡ suc (oid_length v - 1) = omega (arith, enough.0) in
      let high : v / 128 < 128 ^ (oid_length v - 1) = omega (arith, rw (e, pow-suc 128 (oid_length v - 1)) at holds) in
      rw (spelt-append, spelt-digits 128 (omega arith) 0 1 (oid_length v - 1) (v / 128), mod-eq_of_lt high) (omega arith)

  -- what is written is read, whatever follows
  pub round_trip : (rest : List ℕ) → oid_read (oid_bytes v ++ rest) ≡ oid v (oid_length v)
  round_trip rest =
      let value : oid_value (oid_length v) (oid_bytes v ++ rest) ≡ v = rw (take_at (oid_bytes v) rest (oid_length v) length-oid) spelt-oid in
      rw value at
      (read_is (oid_bytes v ++ rest) (continued-oid rest) (omega (arith, enough.1)) (simp (length-append, length-oid) (omega arith)) (rw value small))

-- computed: the most bytes that are read, too many, a value past the limit, no byte, and the largest value
abbrev Two : List ℕ
Two = 0x80 ∷ 0x80 ∷ 0x80 ∷ 0x80 ∷ 0x80 ∷ 0x02 ∷ []

six-bytes : oid_read Two ≡ oid 2 6
unfolding oid_read
six-bytes = refl

seven-bytes : oid_read (0x80 ∷ Two) ≡ None
unfolding oid_read
seven-bytes = refl

too_large : oid_read (0x90 ∷ 0x80 ∷ 0x80 ∷ 0x80 ∷ 0x00 ∷ []) ≡ None
unfolding oid_read
too_large = refl

no_byte : oid_read [] ≡ None
unfolding oid_read
no_byte = refl

largest : oid_read (0x8f ∷ 0xff ∷ 0xff ∷ 0xff ∷ 0x7f ∷ []) ≡ oid 4294967295 5
unfolding oid_read
largest = refl

-- ---- read strictly
strict-first : oid_read_strict (0x80 ∷ 0x01 ∷ []) ≡ None
unfolding oid_read_strict
strict-first = refl

first_read : oid_read (0x80 ∷ 0x01 ∷ []) ≡ oid 1 2
unfolding oid_read
first_read = refl

strict-two : oid_read_strict (0x81 ∷ 0x00 ∷ []) ≡ oid 128 2
unfolding oid_read_strict oid_read
strict-two = refl
