-- The first number of a file's header: it is the size where it is spelled there, and the size is spelled where one is.
-- Assumes nothing.
use mathlib.Core.Path.{◌≡◌, refl, sym, ap, ◌∙◌}
use mathlib.Core.List.{List, [], ◌∷◌, ◌++◌, append_assoc}
use mathlib.Core.Logic.{◌⊎◌, inl, inr, ⊎_elim}
use Prim.Native.Nat.{ℕ, zero, suc, ◌+◌, ◌-◌, ◌*◌, ◌/◌, ◌%◌, ◌^◌, ◌≤◌, ◌<◌}
use native.Mathlib.Nat.{add-zero, zero-add, pow-suc, pow-le-pow_right}
use native.Mathlib.Numerals.{add-one}
use native.Mathlib.Omega.{arith}
use borrow.Author.Tests.{ne_eqb, eqb-true, eqb-false}
use lib.Dec.{eqb}
use lib.ListN.{length, take, drop, get_or, length-append, take-append-drop}
use lib.Seq.{take-suc, take_at, get_or_at, get_or-drop, drop-drop}
use Rattle.std.specs.Prelude.{None, Some}
use Rattle.answers.proofs.Rules.{picked}
use Rattle.text.specs.Text.{ascii, glyph, decimal, named}
use Rattle.text.specs.Numeral.{worth, digit_at, in_decimal}
use Rattle.text.proofs.Figures.{length-decimal, decimal-one, decimal-more}
use Rattle.text.proofs.Line.{digit_or, decimal-digit, decimal-within}
use Rattle.text.proofs.Order.{lt-or-le}
use Rattle.npy_header.specs.Header.{front, described, padding, header, max_size, number_from, size_in}
use Rattle.npy_header.proofs.Digits.{glyph-worth, Spell, Digits, digits_of}

-- where n ends that stands behind the front
abbrev pub end_of : ℕ → ℕ
end_of n = 61 + length (decimal n)

-- the file starts as the header of n does, up to there, and the taking of digits ends there
pub record Spells (file : List ℕ) (n : ℕ) : Type 0 where
  pub same : take (end_of n) file ≡ named front n
  pub ends : (n ≡ 0) ⊎ ((length (decimal n) ≡ 9) ⊎ (in_decimal (digit_at file (end_of n)) ≡ None))

-- ---- a header spells its own
abbrev behind_of : ℕ → List ℕ
behind_of n = named (ascii ", ") n ++ (ascii "), }" ++ padding (length (described n)))

pub header-split : (n : ℕ) → header n ≡ named front n ++ behind_of n
unfolding header
header-split n =
    append_assoc (named front n ++ named (ascii ", ") n) (ascii "), }") (padding (length (described n)))
    ∙ append_assoc (named front n) (named (ascii ", ") n) (ascii "), }" ++ padding (length (described n)))

pub header-spells : (n : ℕ) → Spells (header n) n
unfolding worth
header-spells n =
    let e : length (named front n) ≡ end_of n = length-append front (decimal n) in
    record {
      same = rw (header-split n) (take_at (named front n) (behind_of n) (end_of n) e);
      ends = inr (inr (rw (header-split n, get_or_at (named front n) 0x2c (drop 1 (behind_of n)) 0 (end_of n) e)));
    }

-- ---- what is spelled is the size
-- the taking ends at what is no digit
stops : (left n : ℕ) (file : List ℕ) (at : ℕ) → in_decimal (digit_at file at) ≡ None → number_from left n file at ≡ n
stops zero n file at h = refl
stops (suc left) n file at h = rw h

-- and goes on over digits behind a number that is not 0
goes_on : (m : ℕ) (bs : List ℕ) (n : ℕ) (file : List ℕ) (at left : ℕ) (rest : List ℕ) → 0 < m → Spell m bs n → drop at file ≡ bs ++ rest
    → number_from (length bs + left) m file at ≡ number_from left n file (at + length bs)
goes_on m [] n file at left rest h s e = rw (zero-add, add-zero, s)
goes_on m (b ∷ bs) n file at left rest h (k, w, s) e =
    let d : get_or file at 0 ≡ b = rw add-zero at (sym (get_or-drop at file 0 0)) ∙ ap (λ (l : List ℕ). get_or l 0 0) e in
    let l : suc (length bs) + left ≡ suc (length bs + left) = omega arith in
    let r : at + suc (length bs) ≡ at + 1 + length bs = omega arith in
    rw (l, r, d, w, ne_eqb (m * 10 + k) 0 (omega arith))
    (goes_on (m * 10 + k) bs n file (at + 1) left rest (omega arith) s (sym (drop-drop 1 at file) ∙ ap (λ (l : List ℕ). drop 1 l) e))

module _ (file : List ℕ) (n : ℕ) (h : n ≤ max_size) (p : Spells file n) where
  -- the number's digits stand behind the front
  behind-front : {ds : List ℕ} → decimal n ≡ ds → drop 61 file ≡ ds ++ drop (end_of n) file
  behind-front e =
      ap (λ (l : List ℕ). drop 61 l) (sym (take-append-drop (end_of n) file))
      ∙ ap (λ (l : List ℕ). drop 61 (l ++ drop (end_of n) file)) p.same
      ∙ ap (λ (l : List ℕ). l ++ drop (end_of n) file) e

  first-is : {d : ℕ} {ds : List ℕ} → decimal n ≡ d ∷ ds → get_or file 61 0 ≡ d
  first-is e = sym (get_or-drop 61 file 0 0) ∙ ap (λ (l : List ℕ). get_or l 0 0) (behind-front e)

  none_is : n ≡ 0 → size_in file ≡ n
  unfolding size_in worth
  none_is z = let e : decimal n ≡ glyph 0 ∷ [] = rw z (decimal-one 0 (omega arith)) in rw (first-is e) (sym z)

  module _ (g : 0 < n) (d : Digits n) where
    leads : 0 < d.value
    leads = ⊎_elim (λ l. l) (λ (z : d.value ≤ 0). absurd (omega (arith, d.lead (omega arith)))) (lt-or-le 0 d.value)

    long : length (decimal n) ≡ 1 + length d.rest
    long = rw d.are (omega arith)

    first_step : size_in file ≡ number_from 8 d.value file 62
    unfolding size_in
    first_step = rw (first-is d.are, d.digit, zero-add, ne_eqb d.value 0 (omega (arith, leads)))

    other-steps : (left : ℕ) → number_from (length d.rest + left) d.value file 62 ≡ number_from left n file (end_of n)
    other-steps left =
        let e : drop 62 file ≡ d.rest ++ drop (end_of n) file =
        sym (drop-drop 1 61 file) ∙ ap (λ (l : List ℕ). drop 1 l) (behind-front d.are) in
        let r : 62 + length d.rest ≡ end_of n = omega (arith, long) in
        goes_on d.value d.rest n file 62 left (drop (end_of n) file) leads d.spell e ∙ ap (number_from left n file) r

    last_step : (left : ℕ) → length d.rest + left ≡ 8 → number_from left n file (end_of n) ≡ n
    last_step left e =
        ⊎_elim (λ (z : n ≡ 0). absurd (omega arith))
        (⊎_elim (λ (q : length (decimal n) ≡ 9). let z : left ≡ 0 = omega (arith, long) in rw z) (stops left n file (end_of n)))
        p.ends

    some_is : size_in file ≡ n
    some_is =
        let left = 8 - length d.rest in
        let e : length d.rest + left ≡ 8 = omega (arith, long, length-decimal 8 n (omega arith)) in
        first_step ∙ ap (λ (k : ℕ). number_from k d.value file 62) (sym e) ∙ other-steps left ∙ last_step left e

  pub size-spelled : size_in file ≡ n
  size-spelled = ⊎_elim (λ g. some_is g (digits_of 8 n (omega arith) (omega arith))) (λ (z : n ≤ 0). none_is (omega arith)) (lt-or-le 0 n)

-- ---- where a number is spelled, the size is
-- one digit more behind a number that is not 0
decimal-next : (m d : ℕ) → 0 < m → m < 10 ^ 9 → d < 10 → decimal (m * 10 + d) ≡ decimal m ++ (glyph d ∷ [])
decimal-next m d g f h =
    let a : (m * 10 + d) / 10 ≡ m = omega arith in
    let b : (m * 10 + d) % 10 ≡ d = omega arith in
    rw (a, b) at (decimal-more (m * 10 + d) (omega arith) (omega arith))

module _ (file : List ℕ) where
  digit-more : (at m n : ℕ) {d : ℕ} → take at file ≡ named front m → in_decimal (digit_at file at) ≡ Some d → decimal n ≡ decimal m ++ (glyph d ∷ [])
      → take (at + 1) file ≡ named front n
  digit-more at m n e h q =
      rw (add-one, take-suc file at 0 (decimal-within file at h), e, q, glyph-worth (get_or file at 0) h)
      (append_assoc front (decimal m) (get_or file at 0 ∷ []))

  spelled-on : (left i m : ℕ) → i + left ≡ 9 → 0 < m → m < 10 ^ i → length (decimal m) ≡ i → take (61 + i) file ≡ named front m
      → Spells file (number_from left m file (61 + i))
  spelled-on zero i m e g f l s = record { same = rw l s; ends = inr (inl (omega arith)) }
  spelled-on (suc left) i m e g f l s =
      digit_or (Spells file) (in_decimal (digit_at file (61 + i)))
      (λ d w.
      picked (Spells file) (eqb (m * 10 + d) 0) 0 _ (λ z. absurd (omega (arith, eqb-true (m * 10 + d) 0 z)))
      (λ _.
      let h = (decimal-digit (digit_at file (61 + i)) w).1 in
      let n = m * 10 + d in
      let q = decimal-next m d g (omega (arith, pow-le-pow_right {n = 10} (omega arith) {i = i} {j = 9} (omega arith))) h in
      let r : 61 + (i + 1) ≡ 61 + i + 1 = omega arith in
      rw r at
      (spelled-on left (i + 1) n (omega arith) (omega arith) (rw (add-one, pow-suc) (omega arith)) (rw (q, length-append, l)) (rw r (digit-more (61 + i) m n s w q)))))
      (λ z. record { same = rw l s; ends = inr (inr (rw l z)) })

  module _ (s : take 61 file ≡ front) {d : ℕ} (w : in_decimal (digit_at file 61) ≡ Some d) where
    small : d < 10
    small = (decimal-digit (digit_at file 61) w).1

    one-long : length (decimal d) ≡ 1
    one-long = rw (decimal-one d small)

    first-digit : take 62 file ≡ named front d
    first-digit =
        rw (take-suc file 61 0 (decimal-within file 61 w), s, decimal-one d small, glyph-worth (get_or file 61 0) w)

    -- a zero stands alone
    zero-spelled : d ≡ 0 → Spells file 0
    zero-spelled z =
        let e : take (end_of d) file ≡ named front d = rw one-long first-digit in
        record { same = rw z at e; ends = inl refl }

    pub spelled-size : Spells file (size_in file)
    unfolding size_in
    spelled-size =
        rw (w, zero-add)
        (picked (Spells file) (eqb d 0) 0 _ (λ t. zero-spelled (eqb-true d 0 t))
        (λ f. spelled-on 8 1 d (omega arith) (omega (arith, eqb-false d 0 f)) (omega (arith, small)) one-long first-digit))

-- ---- at most nine digits are taken
numbers-small : (left i n : ℕ) (file : List ℕ) (at : ℕ) → n < 10 ^ i → number_from left n file at < 10 ^ (i + left)
numbers-small zero i n file at h = rw add-zero h
numbers-small (suc left) i n file at h =
    let r : suc i + left ≡ i + suc left = omega arith in
    let k : n < 10 ^ (i + suc left) = omega (arith, pow-le-pow_right {n = 10} (omega arith) {i = i} {j = i + suc left} (omega arith)) in
    digit_or (λ (m : ℕ). m < 10 ^ (i + suc left)) (in_decimal (digit_at file at))
    (λ d w.
    picked (λ (m : ℕ). m < 10 ^ (i + suc left)) (eqb (n * 10 + d) 0) 0 _ (λ _. omega arith)
    (λ _. rw r at (numbers-small left (suc i) (n * 10 + d) file (at + 1) (rw pow-suc (omega (arith, (decimal-digit (digit_at file at) w).1))))))
    (λ _. k)

pub size_small : (file : List ℕ) → size_in file ≤ max_size
unfolding size_in
size_small file = omega (arith, numbers-small 9 0 0 file 61 (omega arith))
