-- A list that is read entry by entry into lent memory: what a turn of the loop leaves to read, and the front of a room.
-- Assumes nothing.
use mathlib.Core.Path.{◌≡◌, refl, sym, ap, ◌∙◌}
use mathlib.Core.List.{List, [], ◌∷◌, ◌++◌, append_assoc}
use Prim.Native.Nat.{ℕ, zero, suc, ◌+◌, ◌-◌, ◌≤◌, ◌<◌}
use native.Mathlib.Numerals.{add-one}
use native.Mathlib.Omega.{arith}
use borrow.Author.Tests.{leb-true}
use lib.Dec.{leb}
use lib.ListN.{length, take, drop, set, length-set, take-append-drop}
use lib.Seq.{sets, length-take-le, drop-append-le}
use Rattle.answers.specs.Lent.{over}
use Rattle.answers.specs.Table.{pick}
use Rattle.answers.proofs.Rules.{picked}
use Rattle.answers.proofs.Stored.{sets_over}
use Rattle.text.specs.declared.numeral.Entry.{Entry}
use Rattle.text.specs.declared.numeral.Numeral.{Numeral}
use Rattle.std.specs.Prelude.{Option, None, Some}
use Rattle.text.specs.Numeral.{numeral, whether, decimal_at, decimal_up_to, spaced_at}
use Rattle.text.specs.Entries.{entries_from, entries_at, numbers_at, list_at, listed_at}

-- no more entries than are asked for
one_more : (n : ℕ) (f : ℕ → List ℕ) → ((next : ℕ) → length (f next) ≤ n) → (number : Option Numeral) → length (whether number (λ value next. value ∷ f next) []) ≤ suc n
one_more n f h (Some number) = omega (arith, h number.next)
one_more n f h None = omega arith

pub length-numbers : (entry : Entry) (n : ℕ) (line : List ℕ) (at : ℕ) → length (numbers_at entry n line at) ≤ n
length-numbers entry zero line at = omega arith
length-numbers entry (suc n) line at =
    one_more n (λ next. numbers_at entry n line next) (λ next. length-numbers entry n line next)
    (spaced_at entry line at)

-- what is stored in the end
kept : (entry : Entry) (line : List ℕ) (at : ℕ) (l₀ : List ℕ) {l : List ℕ}
    → l ≡ sets l₀ 0 (numbers_at entry (length l₀) line at) → l ≡ over (numbers_at entry (length l₀) line at) l₀
kept entry line at l₀ e =
    e ∙ sets_over (numbers_at entry (length l₀) line at) l₀ (length-numbers entry (length l₀) line at)

-- ---- the loop, after i turns
pub record Entered (entry : Entry) (line : List ℕ) (at : ℕ) (l₀ l : List ℕ) (next i : ℕ) : Type 0 where
  pub long : length l ≡ length l₀
  pub within : i ≤ length l₀
  pub answers : entries_from entry (length l₀ - i) (length l₀) line next ≡ entries_at entry (length l₀) line at
  pub stores : sets l i (numbers_at entry (length l₀ - i) line next) ≡ sets l₀ 0 (numbers_at entry (length l₀) line at)

module _ {entry : Entry} {line : List ℕ} {at : ℕ} {l₀ : List ℕ} where
  pub entered-none : Entered entry line at l₀ l₀ at 0
  entered-none =
      let e : length l₀ - 0 ≡ length l₀ = omega arith in
      record { long = refl; within = omega arith; answers = rw e; stores = rw e }

  module _ {l : List ℕ} {next i : ℕ} (p : Entered entry line at l₀ l next i) where
    one_left : i < length l₀ → length l₀ - i ≡ suc (length l₀ - (i + 1))
    one_left h = omega arith

    pub entered-more : i < length l₀ → {number : Numeral} → spaced_at entry line next ≡ Some number
        → Entered entry line at l₀ (set l i number.value) number.next (i + 1)
    entered-more h q =
        record {
          long = rw length-set p.long;
          within = omega arith;
          answers = rw (one_left h, q) at p.answers;
          stores = rw (add-one i) (rw (one_left h, q, add-one i) at p.stores);
        }

    pub entered-bad : i < length l₀ → spaced_at entry line next ≡ None
        → (None ≡ entries_at entry (length l₀) line at) × (l ≡ over (numbers_at entry (length l₀) line at) l₀)
    entered-bad h q = (rw (one_left h, q) at p.answers, kept entry line at l₀ (rw (one_left h, q) at p.stores))

    pub entered_all : length l₀ ≤ i
        → (Some (numeral (length l₀) next) ≡ entries_at entry (length l₀) line at)
        × (l ≡ over (numbers_at entry (length l₀) line at) l₀)
    entered_all h =
        let e : length l₀ - i ≡ 0 = omega arith in
        (rw e at p.answers, kept entry line at l₀ (rw e at p.stores))

-- what is stored over the first entries of a room is stored over the room
pub over-front : (front l : List ℕ) (n : ℕ) → length front ≤ n → n ≤ length l → over front (take n l) ++ drop n l ≡ over front l
over-front front l n h k =
    append_assoc front (drop (length front) (take n l)) (drop n l)
    ∙ ap (λ (t : List ℕ). front ++ t) (sym (drop-append-le (length front) (take n l) (drop n l) (rw (length-take-le n l k) h)) ∙ rw (take-append-drop n l))

-- ---- a list in a room: its count is at most the limit
limited : (limit : ℕ) (number : Option Numeral) {count : Numeral}
    → whether number (λ value after. pick (leb value limit) (Some (numeral value after)) None) None ≡ Some count → count.value ≤ limit
limited limit (Some number) {count} =
    picked (λ (n : Option Numeral). n ≡ Some count → count.value ≤ limit) (leb number.value limit) (Some number) None
    (λ t q. let e : number.value ≡ count.value = cc in omega (arith, leb-true number.value limit t))
    (λ _ q. let z : ◌≡◌ {A = ℕ} 0 1 = cc in absurd (omega arith))
limited limit None = λ e. let z : ◌≡◌ {A = ℕ} 0 1 = cc in absurd (omega arith)

module _ (line room : List ℕ) (at : ℕ) {count : Numeral} (q : decimal_up_to (length room) line at ≡ Some count) where
  pub listed-within : count.value ≤ length room
  listed-within = limited (length room) (decimal_at line at) q

  pub listed-front : length (take count.value room) ≡ count.value
  listed-front = length-take-le count.value room listed-within

  -- what is read into the room's front is the list
  pub listed-all : (entry : Entry) {r : Option Numeral} {m : List ℕ}
      → (r ≡ entries_at entry (length (take count.value room)) line count.next)
      × (m ≡ over (numbers_at entry (length (take count.value room)) line count.next) (take count.value room))
      → (r ≡ list_at entry (length room) line at)
      × (m ++ drop count.value room ≡ over (listed_at entry (length room) line at) room)
  listed-all entry (a, b) = (
    rw q (rw listed-front at a),
    ap (λ (l : List ℕ). l ++ drop count.value room) (rw listed-front at b)
        ∙ over-front (numbers_at entry count.value line count.next) room count.value (length-numbers entry count.value line count.next) listed-within
        ∙ rw q,
  )
