-- BER lengths: what the readings go by, what a length that was read tells, and that a strict one takes the fewest bytes.
-- Assumes nothing.
use mathlib.Core.Path.{◌≡◌, refl, ap, ◌∙◌}
use mathlib.Core.Bool.{Bool, true, false, true≢false, ◌&&◌, ◌||◌, and-eq-true_iff}
use mathlib.Core.List.{List, [], ◌∷◌}
use Prim.Native.Nat.{ℕ, suc, ◌*◌, ◌-◌, ◌%◌, ◌^◌, ◌≤◌, ◌<◌}
use native.Mathlib.Nat.{div-eq_of_lt, pow-le-pow_right}
use native.Mathlib.Omega.{arith, by_contra}
use lib.Dec.{leb, ltb, eqb}
use lib.ListN.{length, get_or, take, drop, length-drop}
use lib.Seq.{length-take-le, get_or-take, get_or-drop}
use borrow.Author.Tests.{ltb-true, ltb-false, leb-true, eqb-false, le-leb, lt-ltb, le-ltb}
use Rattle.std.specs.Prelude.{Option, Some, None}
use Rattle.answers.proofs.Rules.{picked, by_bool}
use Rattle.numbers.specs.declared.ber.BerLength.{BerLength}
use Rattle.numbers.specs.Digits.{Below}
use Rattle.numbers.specs.Words.{word_of}
use Rattle.numbers.specs.Ber.{ber, ber_read, strictly, ber_read_strict, Fewest}
use Rattle.numbers.proofs.Bytes.{first_byte, word_lt}

-- a length in short form
pub short-is : (bytes : List ℕ) → 0 < length bytes → get_or bytes 0 0 < 128 → ber (get_or bytes 0 0) 1 ≡ ber_read bytes
unfolding ber_read
short-is [] s h = absurd (omega arith)
short-is (b ∷ bs) s h = rw (lt-ltb b 128 h)

-- one in long form
pub long-is : (bytes : List ℕ) {k : ℕ} → 128 ≤ get_or bytes 0 0 → get_or bytes 0 0 % 128 ≡ k → 1 ≤ k → k ≤ 8 → k < length bytes
    → ber (word_of (take k (drop 1 bytes))) (suc k) ≡ ber_read bytes
unfolding ber_read
long-is [] h e a b c = absurd (omega arith)
long-is (d ∷ bs) {k} h e a b c = rw (e, le-ltb d 128 h, le-leb 1 k a, le-leb k 8 b, le-leb k (length bs) (omega arith))

-- the tests of a long form that is read
passed : (k n : ℕ) → (leb 1 k && leb k 8 && leb k n) ≡ true → (1 ≤ k) × (k ≤ 8) × (k ≤ n)
passed k n t =
    let both = (and-eq-true_iff (leb 1 k && leb k 8) _).0 t in
    let first = (and-eq-true_iff (leb 1 k) _).0 both.0 in
    (leb-true 1 k first.0, leb-true k 8 first.1, leb-true k n both.1)

-- no length there
pub no_length : (bytes : List ℕ) → (0 < length bytes → 128 ≤ get_or bytes 0 0)
    → (1 ≤ get_or bytes 0 0 % 128 → get_or bytes 0 0 % 128 ≤ 8 → get_or bytes 0 0 % 128 < length bytes → ⊥) → None ≡ ber_read bytes
unfolding ber_read
no_length [] long never = refl
no_length (b ∷ bs) long never =
    rw (le-ltb b 128 (long (omega arith)))
    (picked (λ (r : Option BerLength). None ≡ r) _ _ _
    (λ t. let p = passed (b % 128) (length bs) t in absurd (never p.0 p.1 (omega (arith, p.2)))) (λ _. refl))

-- one length that was read is another where they are the same value in as many bytes
ber-one : {v k w j : ℕ} → ber v k ≡ ber w j → (v ≡ w) × (k ≡ j)
ber-one {v} {k} {w} {j} e =
    let r : ◌≡◌ {A = BerLength} (record { value = v; taken = k }) (record { value = w; taken = j }) = cc in
    (ap (λ (l : BerLength). l.value) r, ap (λ (l : BerLength). l.taken) r)

not-read : {v k : ℕ} → ber v k ≡ None → ⊥
not-read e = let z : ◌≡◌ {A = ℕ} 0 1 = cc in omega arith

-- what a length that was read tells: a byte at least and no more than there are, and its value by its form
pub record Told (bytes : List ℕ) (v k : ℕ) : Type 0 where
  pub some : 1 ≤ k
  pub there : k ≤ length bytes
  pub nine : k ≤ 9
  pub short : k ≡ 1 → v < 128
  pub long : 1 < k → v ≡ word_of (take (k - 1) (drop 1 bytes))

pub ber-tells : (bytes : List ℕ) {v k : ℕ} → ber v k ≡ ber_read bytes → Told bytes v k
unfolding ber_read
ber-tells [] = λ e. absurd (not-read e)
ber-tells (b ∷ bs) {v} {k} =
    let Tells : Option BerLength → Type 0 = λ r. ber v k ≡ r → Told (b ∷ bs) v k in
    let m = b % 128 in
    picked Tells (ltb b 128) (ber b 1) _
    (λ t e.
    let h : k ≡ 1 = (ber-one e).1 in
    let w : v ≡ b = (ber-one e).0 in
    record { some = omega arith; there = omega arith; nine = omega arith; short = λ _. rw w (ltb-true b 128 t); long = λ l. absurd (omega arith) })
    (λ _. picked Tells (leb 1 m && leb m 8 && leb m (length bs)) (ber (word_of (take m bs)) (suc m)) None
    (λ t e.
    let p = passed m (length bs) t in
    let h : k ≡ suc m = (ber-one e).1 in
    let w : v ≡ word_of (take m bs) = (ber-one e).0 in
    let n : k - 1 ≡ m = omega arith in
    record {
      some = omega arith;
      there = omega (arith, p.2);
      nine = omega (arith, p.1);
      short = λ o. absurd (omega (arith, p.0));
      long = λ _. rw n w;
    })
    (λ _ e. absurd (not-read e)))

-- the test of a long form that is read strictly
abbrev longer : List ℕ → ℕ → ℕ → Bool
longer bytes v k = ltb 1 k && (ltb v 128 || eqb (get_or bytes 1 0) 0)

kept : (bytes : List ℕ) (r : Option BerLength) {v k : ℕ} → ber v k ≡ strictly bytes r → (ber v k ≡ r) × (longer bytes v k ≡ false)
kept bytes (Some l) {v} {k} =
    picked (λ r. ber v k ≡ r → (ber v k ≡ Some l) × (longer bytes v k ≡ false)) (longer bytes l.value l.taken) None (Some l)
    (λ _ e. absurd (not-read e))
    (λ f e.
    let p : v ≡ l.value = (ber-one e).0 in
    let q : k ≡ l.taken = (ber-one e).1 in
    (e, rw (p, q) f))
kept bytes None = λ e. absurd (not-read e)

-- what is read strictly is read
pub ber-strict-tells : (bytes : List ℕ) {v k : ℕ} → ber v k ≡ ber_read_strict bytes → ber v k ≡ ber_read bytes
unfolding ber_read_strict
ber-strict-tells bytes e = (kept bytes (ber_read bytes) e).0

pub ber-within : (bytes : List ℕ) {v k : ℕ} → ber v k ≡ ber_read_strict bytes → (1 ≤ k) × (k ≤ length bytes)
ber-within bytes e = let t = ber-tells bytes (ber-strict-tells bytes e) in (t.some, t.there)

-- ---- in the fewest bytes
-- its value is 128 at least in long form, and its first byte is not 0
pub ber-strict-long : (bytes : List ℕ) {v k : ℕ} → ber v k ≡ ber_read_strict bytes → 1 < k → (128 ≤ v) × (1 ≤ get_or bytes 1 0)
unfolding ber_read_strict
ber-strict-long bytes {v} {k} e h =
    let f : (ltb v 128 || eqb (get_or bytes 1 0) 0) ≡ false = rw (lt-ltb 1 k h) at (kept bytes (ber_read bytes) e).1 in
    by_bool (ltb v 128) (λ t. absurd (true≢false (rw t at f)))
    (λ g. by_bool (eqb (get_or bytes 1 0) 0) (λ t. absurd (true≢false (rw (g, t) at f)))
    (λ n. (ltb-false v 128 g, omega (arith, eqb-false (get_or bytes 1 0) 0 n))))

-- the bytes of length
length-of : (bytes : List ℕ) {v k : ℕ} → Told bytes v k → length (take (k - 1) (drop 1 bytes)) ≡ k - 1
length-of bytes {v} {k} t = length-take-le (k - 1) (drop 1 bytes) (simp length-drop (omega (arith, t.there)))

-- so many bytes hold it
at_most : (bytes : List ℕ) {v k : ℕ} → Told bytes v k → 1 < k → v < 2 ^ (8 * (k - 1))
at_most bytes {v} {k} t h =
    rw (t.long h) (rw (length-of bytes t) at (word_lt (take (k - 1) (drop 1 bytes)) (omega (arith, length-of bytes t, t.nine))))

-- and one fewer does not
at_least : (bytes : List ℕ) {v k : ℕ} → Told bytes v k → 1 < k → 1 ≤ get_or bytes 1 0 → get_or bytes 1 0 < 256 → 2 ^ (8 * (k - 1) - 8) ≤ v
at_least bytes {v} {k} t h o b =
    let l = take (k - 1) (drop 1 bytes) in
    let n = length-of bytes t in
    let g : get_or l 0 0 ≡ get_or bytes 1 0 = get_or-take (k - 1) (drop 1 bytes) 0 0 (omega arith) ∙ get_or-drop 1 bytes 0 0 in
    let f = rw (n, ← (t.long h)) at (first_byte l (omega (arith, n)) (omega (arith, n, t.nine)) (omega (arith, g))) in
    by_contra (2 ^ (8 * (k - 1) - 8)) v (λ below. omega (arith, f, g, div-eq_of_lt below))

-- no fewer bytes are read as the same length
pub ber-fewest : (bytes : List ℕ) → Below 256 bytes → Fewest bytes
ber-fewest bytes b v k j other e f =
    let t = ber-tells bytes (ber-strict-tells bytes e) in
    let u = ber-tells other f in
    by_contra k j (λ less.
    let s = ber-strict-long bytes e (omega (arith, u.some)) in
    let least = at_least bytes t (omega (arith, u.some)) s.1 (b 1) in
    by_bool (ltb 1 j)
    (λ long.
    let grows = pow-le-pow_right {n = 2} (omega arith) {i = 8 * (j - 1)} {j = 8 * (k - 1) - 8} (omega arith) in
    omega (arith, least, grows, at_most other u (ltb-true 1 j long)))
    (λ short. omega (arith, s.0, u.short (omega (arith, u.some, ltb-false 1 j short)))))

-- computed: short form, long form in the fewest bytes and in more, the indefinite form, too many bytes of length, the
-- largest length, too few bytes, and no byte
abbrev Eight : List ℕ
Eight = 0xff ∷ 0xff ∷ 0xff ∷ 0xff ∷ 0xff ∷ 0xff ∷ 0xff ∷ 0xff ∷ []

short-form : ber_read_strict (0x7f ∷ []) ≡ ber 127 1
unfolding ber_read_strict ber_read
short-form = refl

long-form : ber_read_strict (0x81 ∷ 0x80 ∷ []) ≡ ber 128 2
unfolding ber_read_strict ber_read word_of
long-form = refl

needless : (ber_read (0x81 ∷ 0x7f ∷ []) ≡ ber 127 2) × (ber_read_strict (0x81 ∷ 0x7f ∷ []) ≡ None)
unfolding ber_read_strict ber_read word_of
needless = (refl, refl)

leading-zero : (ber_read (0x82 ∷ 0 ∷ 0x80 ∷ []) ≡ ber 128 3) × (ber_read_strict (0x82 ∷ 0 ∷ 0x80 ∷ []) ≡ None)
unfolding ber_read_strict ber_read word_of
leading-zero = (refl, refl)

indefinite : ber_read (0x80 ∷ Eight) ≡ None
unfolding ber_read
indefinite = refl

nine-bytes : ber_read (0x89 ∷ 0xff ∷ Eight) ≡ None
unfolding ber_read
nine-bytes = refl

largest : ber_read_strict (0x88 ∷ Eight) ≡ ber 18446744073709551615 9
unfolding ber_read_strict ber_read word_of
largest = refl

too_few : ber_read (0x82 ∷ 0xff ∷ []) ≡ None
unfolding ber_read
too_few = refl

no_byte : ber_read [] ≡ None
unfolding ber_read
no_byte = refl
