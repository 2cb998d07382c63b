-- The rules of a pack's size, as the code tests them.
-- Assumes nothing.
use mathlib.Core.Path.{◌≡◌, sym, ap, ◌∙◌}
use mathlib.Core.Bool.{true, false, ◌&&◌}
use mathlib.Core.List.{List}
use mathlib.Core.Logic.{by_cases}
use Prim.Native.Nat.{ℕ, zero, suc, ◌+◌, ◌*◌, ◌/◌, ◌≤◌, ◌<◌}
use native.Mathlib.Decide.{dec_lt}
use native.Mathlib.Numerals.{add-one}
use native.Mathlib.Omega.{arith}
use lib.Dec.{eqb, leb, ltb}
use lib.ListN.{length, get_or}
use borrow.Author.Tests.{lt-ltb, le-ltb, le-leb, lt-leb, ne_eqb}
use Rattle.std.specs.Prelude.{Err}
use Rattle.answers.specs.Table.{Answer, short, pick, passes}
use Rattle.answers.proofs.Rules.{picked}
use Rattle.numbers.specs.BerOid.{oid, oid_value, oid_read}
use Rattle.numbers.proofs.BerOid.{read-tells}
use Rattle.layout.specs.declared.control.ParseControl.{ParseControl}
use Rattle.layout.specs.declared.header.HeaderError.TheVariants.{Short}
use Rattle.layout.specs.declared.rule.Rule.TheVariants.{E, F, G}
use Rattle.layout.specs.Control.{mode1, mode2}
use Rattle.layout.specs.Triangle.{slots_of, bit_bytes}
use Rattle.layout.specs.Header.{headed, control_at, said_size, header_of}
use Rattle.layout.specs.Ruled.{Ruled, passed, named}
use Rattle.layout.specs.Size.{max_rows, rule_f, rule_g, size_ruled}

-- a) and b), where a number was read
module _ (bytes : List ℕ) {v k : ℕ} (e : oid v k ≡ oid_read bytes) where
  -- the control starts where the number ends
  at : control_at bytes ≡ k
  at = sym (read-tells bytes e).0

  value : v ≡ said_size bytes
  value = (read-tells bytes e).1 ∙ ap (λ (m : ℕ). oid_value m bytes) (read-tells bytes e).0

  abbrev first : ℕ
  first = get_or bytes k 0

  pub no-control : length bytes ≤ k → Err Short ≡ header_of bytes
  no-control h =
      let b =
      picked (λ (n : ℕ). ltb (length bytes) (k + n) ≡ true) (leb 128 first) 2 1
      (λ _. lt-ltb (length bytes) (k + 2) (omega arith)) (λ _. lt-ltb (length bytes) (k + 1) (omega arith)) in
      rw (← e, at, b)

  pub one_byte : k < length bytes → first < 128 → headed v (mode1 first) (k + 1) ≡ header_of bytes
  one_byte h m = rw (value, ← e, at, lt-leb 128 first m, le-ltb (length bytes) (k + 1) (omega arith))

  pub no_second : 128 ≤ first → length bytes < k + 2 → Err Short ≡ header_of bytes
  no_second m h = rw (← e, at, le-leb 128 first m, lt-ltb (length bytes) (k + 2) h)

  pub two_bytes : 128 ≤ first → k + 2 ≤ length bytes → headed v (mode2 first (get_or bytes (k + 1) 0)) (k + 2) ≡ header_of bytes
  two_bytes m h = rw (value, ← e, at, le-leb 128 first m, le-ltb (length bytes) (k + 2) h, add-one)

-- c) two lengths are both 0 where their sum is
pub some-length : (a b : ℕ) → (a + b ≡ 0 → ⊥) → (eqb a 0 && eqb b 0) ≡ false
some-length zero b h = ne_eqb b 0 (λ e. h (omega arith))
some-length (suc a) b h = rw (ne_eqb (suc a) 0 (λ e. omega arith))

-- so many bytes are there, or not
abbrev pub is_held : ℕ → ℕ → Answer
is_held needed left = pick (ltb left needed) (short needed left) passes

-- g) ceil(M/8) bytes are more than R where M is more than 8R
bit-bytes : (R M : ℕ) → ltb (8 * R) M ≡ ltb R (bit_bytes M)
bit-bytes R M =
    by_cases (dec_lt (8 * R) M) (λ h. rw (lt-ltb (8 * R) M h, lt-ltb R ((M + 7) / 8) (omega arith)))
    (λ h. rw (le-ltb (8 * R) M (omega arith), le-ltb R ((M + 7) / 8) (omega arith)))

-- e), and then f) or g), where c) and d) pass
module _ (n R : ℕ) (k : ParseControl) where
  abbrev pub behind_e : Ruled
  behind_e = named F (rule_f n R k) (named G (rule_g n R k) passed)

  pub from-e : (k.slen + k.clen ≡ 0 → ⊥) → n ≤ max_rows → size_ruled n R k ≡ named E (is_held (n * k.slen) R) behind_e
  from-e a b = rw (some-length k.slen k.clen a, le-ltb max_rows n b)

  -- g) with a Bit Vector, f) without
  pub behind-g : k.cs ≡ true → behind_e ≡ named G (is_held (bit_bytes (slots_of n)) R) passed
  behind-g e = rw (e, bit-bytes R (slots_of n))

  pub behind-f : k.cs ≡ false → behind_e ≡ named F (is_held (slots_of n * k.clen) R) passed
  behind-f e = rw e
