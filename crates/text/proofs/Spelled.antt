-- A byte string that is read pair by pair into the front of its own line: what a turn of the loop leaves to read.
-- Assumes nothing.
use mathlib.Core.Path.{◌≡◌, refl, sym, ap, ◌∙◌}
use mathlib.Core.List.{List, [], ◌∷◌}
use Prim.Native.Nat.{ℕ, zero, suc, ◌+◌, ◌-◌, ◌*◌, ◌%◌, ◌≤◌, ◌<◌}
use native.Mathlib.Numerals.{add-one}
use native.Mathlib.Omega.{arith}
use borrow.Author.Tests.{le-ltb}
use lib.Dec.{eqb-suc-zero}
use lib.ListN.{length, drop, set, length-set, length-drop}
use lib.Seq.{sets, drop-set-lt, drop-drop}
use Rattle.answers.specs.Lent.{over}
use Rattle.answers.proofs.Stored.{sets_over}
use Rattle.text.specs.declared.numeral.Numeral.{Numeral}
use Rattle.std.specs.Prelude.{Option, None, Some}
use Rattle.text.specs.Numeral.{worth, hex_from, hex_at}
use Rattle.text.proofs.Line.{digit_or}
use Rattle.text.specs.Strings.{bytes_from, bytes_at, spelled_to, string_at}

-- digits that are read stand there, and the line goes on behind them
hex-place : (k value next : ℕ) (bs : List ℕ) {number : Numeral} → hex_from k value next bs ≡ Some number
    → (number.next ≡ next + k) × (k ≤ length bs)
hex-place zero value next bs {number} = λ q. let e : next ≡ number.next = cc in (omega arith, omega arith)
hex-place (suc k) value next [] = λ q. let z : ◌≡◌ {A = ℕ} 0 1 = cc in absurd (omega arith)
hex-place (suc k) value next (b ∷ bs) {number} =
    digit_or (λ (n : Option Numeral). n ≡ Some number → (number.next ≡ next + suc k) × (suc k ≤ length (b ∷ bs))) (worth b)
    (λ _ _ q. let h = hex-place k _ (next + 1) bs q in (omega (arith, h.0), omega (arith, h.1)))
    (λ _ q. let z : ◌≡◌ {A = ℕ} 0 1 = cc in absurd (omega arith))

-- an empty string leaves the line, and of one that is not the line does not matter
spelled-over : (bytes line : List ℕ) (next : ℕ) → spelled_to (length bytes) (over bytes line) next ≡ spelled_to (length bytes) line next
spelled-over [] line next = refl
spelled-over (b ∷ bytes) line next = rw (eqb-suc-zero (length bytes))

-- ---- the loop, after `count` turns: ahead of what is read the line is as it was
pub record Spelled (at : ℕ) (l₀ l : List ℕ) (next count : ℕ) : Type 0 where
  pub long : length l ≡ length l₀
  pub place : next ≡ at + 2 * count
  pub half : 2 * count ≤ length l₀
  pub ahead : drop next l ≡ drop next l₀
  pub counts : count + length (bytes_from (length l₀ - count) l₀ next) ≡ length (bytes_at l₀ at)
  pub stores : sets l count (bytes_from (length l₀ - count) l₀ next) ≡ sets l₀ 0 (bytes_at l₀ at)

module _ {at : ℕ} {l₀ : List ℕ} where
  pub spelled_none : Spelled at l₀ l₀ at 0
  spelled_none =
      let e : length l₀ - 0 ≡ length l₀ = omega arith in
      record {
        long = refl;
        place = omega arith;
        half = omega arith;
        ahead = refl;
        counts = rw e (omega arith);
        stores = rw e;
      }

  module _ {l : List ℕ} {next count : ℕ} (p : Spelled at l₀ l next count) where
    one_left : count < length l₀ → length l₀ - count ≡ suc (length l₀ - (count + 1))
    one_left h = omega arith

    -- the line at the start has the same pair
    same_pair : hex_at l₀ next 2 ≡ hex_at l next 2
    same_pair = rw p.ahead

    pub spelled-more : count < length l₀ → {pair : Numeral} → hex_at l next 2 ≡ Some pair
        → Spelled at l₀ (set l count (pair.value % 256)) pair.next (count + 1)
    spelled-more h {pair} r =
        let q : hex_at l₀ next 2 ≡ Some pair = same_pair ∙ r in
        let w = hex-place 2 0 next (drop next l₀) q in
        let e = w.0 in
        record {
          long = rw length-set p.long;
          place = omega (arith, e, p.place);
          half = omega (arith, w.1, length-drop next l₀, p.place);
          ahead =
              drop-set-lt pair.next l count (pair.value % 256) (omega (arith, e, p.place))
              ∙ rw e (sym (drop-drop 2 next l) ∙ ap (λ (t : List ℕ). drop 2 t) p.ahead ∙ drop-drop 2 next l₀);
          counts = let t = rw (one_left h, q) at p.counts in omega (arith, t);
          stores = rw (add-one count) (rw (one_left h, q, add-one count) at p.stores);
        }

    -- nothing is left
    done : bytes_from (length l₀ - count) l₀ next ≡ [] → (count ≡ length (bytes_at l₀ at)) × (l ≡ over (bytes_at l₀ at) l₀)
    done e =
        let n : count ≡ length (bytes_at l₀ at) = let t = rw e at p.counts in omega (arith, t) in
        (n, rw e at p.stores ∙ sets_over (bytes_at l₀ at) l₀ (omega (arith, n, p.half)))

    pub spelled-end : count < length l₀ → hex_at l next 2 ≡ None → {r : Option Numeral} → r ≡ spelled_to count l next
        → (r ≡ string_at l₀ at) × (l ≡ over (bytes_at l₀ at) l₀)
    spelled-end h q a =
        let d = done (rw (one_left h, same_pair ∙ q)) in
        (a ∙ rw (p.place, d.0, d.1) (spelled-over (bytes_at l₀ at) l₀ (at + 2 * length (bytes_at l₀ at))), d.1)

    -- only an empty line runs out
    pub spelled_out : length l₀ ≤ count → (None ≡ string_at l₀ at) × (l ≡ over (bytes_at l₀ at) l₀)
    spelled_out h =
        let z : length l₀ - count ≡ 0 = omega arith in
        let d = done (rw z) in
        let n : length (bytes_at l₀ at) ≡ 0 = omega (arith, d.0, p.half) in
        (rw (n, le-ltb (at + 2 * 0) (length l₀) (omega (arith, p.half))), d.1)
