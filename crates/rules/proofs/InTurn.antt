-- Rules h) and j) by their first element: the others can only lack bytes.
-- Assumes nothing.
use mathlib.Core.Path.{◌≡◌, refl, sym, ap, ◌∙◌}
use mathlib.Core.Bool.{false}
use mathlib.Core.List.{List}
use mathlib.Core.Logic.{◌⊎◌, inl, inr}
use Prim.Native.Nat.{ℕ, zero, suc, ◌+◌, ◌-◌, ◌*◌, ◌%◌, ◌≤◌, ◌<◌}
use native.Mathlib.Nat.{add-zero, suc-mul, zero-mul, mul-zero, lt_of_not-le}
use native.Mathlib.Decide.{dec_le}
use native.Mathlib.Omega.{arith}
use borrow.Author.Tests.{lt-ltb, le-ltb}
use lib.Arith.{digits_mod}
use lib.Dec.{eqb, ltb, eqb-suc-zero}
use lib.ListN.{length}
use Rattle.answers.specs.Table.{Answer, short, pick, passes, next}
use Rattle.answers.specs.Outcome.{unless}
use Rattle.rules.specs.Turns.{turns_rule}
use Rattle.elements.specs.Numbers.{refusal_of, element}
use Rattle.rules.specs.Rules.{in_turn}

-- elements of no bytes are never short
pub some_size : (n size : ℕ) {left : ℕ} → left < n * size → 0 < size
some_size n zero h = absurd (omega (arith, rw (mul-zero n) at h))
some_size n (suc size) h = omega arith

-- a format is refused, or passes
abbrev pub Format : Answer → Type 0
Format a = (a ≡ passes) ⊎ (eqb a.number 0 ≡ false)

module _ (bytes : List ℕ) (at size : ℕ) where
  -- where the first is short
  short-first : (format : Answer) (n : ℕ) → length bytes - at < size → in_turn bytes at size (λ _. format) (suc n) ≡ short size (length bytes - at)
  short-first format zero h = rw (zero-mul size, add-zero at, lt-ltb (length bytes - at) size h)
  short-first format (suc n) h = rw (short-first format n h)

  -- where the format is refused
  bad-format : (format : Answer) (n : ℕ) → size ≤ length bytes - at → eqb format.number 0 ≡ false → in_turn bytes at size (λ _. format) (suc n) ≡ format
  bad-format format zero h e =
      let k : size ≤ length bytes - (at + 0 * size) = omega (arith, h, zero-mul size) in
      rw (le-ltb (length bytes - (at + 0 * size)) size k)
  bad-format format (suc n) h e = rw (bad-format format n h e, e)

  -- where only the bytes can be short
  pub all_held : (n : ℕ) → n * size ≤ length bytes - at → in_turn bytes at size (λ _. passes) n ≡ passes
  all_held zero h = refl
  all_held (suc n) h =
      let e = suc-mul n size in
      rw (all_held n (omega arith), le-ltb (length bytes - (at + n * size)) size (omega arith))

  -- what is left behind n elements that are whole, where that is less than one
  left_behind : (n : ℕ) → n * size ≤ length bytes - at → length bytes - (at + n * size) < size
      → length bytes - (at + n * size) ≡ (length bytes - at) % size
  left_behind n k h =
      let e : length bytes - at ≡ n * size + (length bytes - (at + n * size)) = omega arith in
      sym (ap (λ (m : ℕ). m % size) e ∙ digits_mod n h)

  -- the bytes that are left modulo the size are what is left at the one that is short
  short-later : (n : ℕ) → length bytes - at < n * size → in_turn bytes at size (λ _. passes) n ≡ short size ((length bytes - at) % size)
  short-later zero h = absurd (omega (arith, h, zero-mul size))
  short-later (suc n) h =
      let e = suc-mul n size in
      elim (dec_le (n * size) (length bytes - at)) [
        | yes k ↦
            let l : length bytes - (at + n * size) < size = omega arith in
            rw (all_held n k, lt-ltb (length bytes - (at + n * size)) size l) (ap (short size) (left_behind n k l))
        | no k ↦ rw (short-later n (lt_of_not-le k))
      ]

  -- the law, for both rules
  pub in-turn : (format : Answer) → Format format → (n : ℕ) {A : Type 0} (value : A)
      → in_turn bytes at size (λ _. format) n ≡ turns_rule (refusal_of (element bytes at size format value)) n size (length bytes - at)
  in-turn format f zero value = refl
  in-turn format f (suc n) value =
      elim (dec_le size (length bytes - at)) [
        | no h ↦ let k = lt_of_not-le h in rw (short-first format n k, eqb-suc-zero n, lt-ltb (length bytes - at) size k)
        | yes h ↦ rw (eqb-suc-zero n, le-ltb (length bytes - at) size h) (go h f)
      ]
    where
      go : size ≤ length bytes - at → Format format → in_turn bytes at size (λ _. format) (suc n)
          ≡ next (refusal_of (unless format value)) (pick (ltb (length bytes - at) (suc n * size)) (short size ((length bytes - at) % size)) passes)
      go h (inr e) = rw (bad-format format n h e, e, e)
      go h (inl e) =
          rw e
          (elim (dec_le (suc n * size) (length bytes - at)) [
            | yes k ↦ rw (all_held (suc n) k, le-ltb (length bytes - at) (suc n * size) k)
            | no k ↦ let l = lt_of_not-le k in rw (short-later (suc n) l, lt-ltb (length bytes - at) (suc n * size) l)
          ])

-- elements that each have a format: the first that is refused decides
pub turns-stop : (bytes : List ℕ) (at size : ℕ) (format : ℕ → Answer) (k n : ℕ) → k < n → eqb (in_turn bytes at size format (suc k)).number 0 ≡ false
    → in_turn bytes at size format n ≡ in_turn bytes at size format (suc k)
turns-stop bytes at size format k zero h e = absurd (omega arith)
turns-stop bytes at size format k (suc n) h e =
    elim (dec_le n k) [
      | yes l ↦ let p : n ≡ k = omega arith in rw p
      | no l ↦ rw (turns-stop bytes at size format k n (lt_of_not-le l) e, e)
    ]
