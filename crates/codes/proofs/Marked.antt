-- Mapped codes of one length: where each stands, and the slots that a Bit Vector marks present, eight to its byte.
-- Assumes nothing.
use Rattle.std.proofs.Common.{◌≡◌, ℕ, zero, suc, ◌+◌, ◌-◌, ◌*◌, ◌/◌, ◌%◌, ◌^◌, ◌<◌, ◌≤◌, Bool, true, false, List, [], ◌∷◌, length, get_or, set, sym, refl, ap, ◌∙◌, le_trans, add-zero, mul-le-mul_right, suc-mul, add-mul, zero-mul, add-one, arith, set-set, eq-eqb, ne_eqb}
use lib.Bits.{bit_or}
use lib.Seq.{sets, length-sets}
use Rattle.answers.specs.Lent.{over, tab}
use Rattle.answers.specs.Table.{pick}
use Rattle.answers.proofs.Lent.{length-tab, Front}
use Rattle.answers.proofs.Stored.{sets-tab}
use Rattle.numbers.specs.Words.{word_of}
use Rattle.numbers.proofs.Bits.{or-least}
use Rattle.imapb.specs.declared.code_length.Mapping.{Mapping}
use Rattle.imapb.specs.Special.{reading}
use Rattle.layout.specs.Control.{is_set}
use Rattle.elements.specs.Elements.{part, value_bits, vector_bit, ones_before}
use Rattle.codes.specs.Fill.{Codes, Within, mark_in, marked_in, one_byte}
use Rattle.answers.proofs.Tab.{tab-none, tab-run, tab-done}
use Rattle.elements.proofs.Parts.{ends}
use Rattle.elements.proofs.Vector.{ones-grow}
use Rattle.codes.proofs.Bounds.{within_none, within_more, within-run}

-- ---- codes one behind the other: code k of those that are there, and where the next one starts
pub code-there : {bytes : List ℕ} {codes n : ℕ} {m : Mapping} → Codes bytes codes m n → {k at : ℕ} → k < n → at ≡ codes + k * m.length
    → (8 ≤ at) × (at + m.length ≤ length bytes)
code-there {codes = codes} {m = m} h l e =
    rw e (omega (arith, h.words), omega (arith, h.whole, ends codes m.length l))

pub code-next : (codes L k : ℕ) {at : ℕ} → at ≡ codes + k * L → at + L ≡ codes + (k + 1) * L
code-next codes L k e = rw (e, add-one) (omega (arith, suc-mul k L))

-- ---- the Bit Vector byte by byte: a bit of one byte, and of byte i of a vector
bit-alone : (byte j : ℕ) → j < 8 → vector_bit (byte ∷ []) 0 j ≡ is_set (byte / 2 ^ (7 - j))
bit-alone byte j h =
    let place : j / 8 ≡ 0 = omega arith in
    let bit : j % 8 ≡ j = omega arith in
    rw (place, bit)

bit-of : (v : List ℕ) (at i j : ℕ) → j < 8 → vector_bit v at (8 * i + j) ≡ vector_bit (one_byte v at i) 0 j
bit-of v at i j h =
    let place : (8 * i + j) / 8 ≡ i = omega arith in
    let bit : (8 * i + j) % 8 ≡ j = omega arith in
    rw (place, bit) (sym (bit-alone (get_or v (at + i) 0) j h))

ones-of : (v : List ℕ) (at i j : ℕ) → j ≤ 8 → ones_before v at (8 * i + j) ≡ ones_before v at (8 * i) + ones_before (one_byte v at i) 0 j
ones-of v at i zero h = rw add-zero (omega arith)
ones-of v at i (suc j) h =
    let k : 8 * i + suc j ≡ suc (8 * i + j) = omega arith in
    rw (k, bit-of v at i j (omega arith), ones-of v at i j (omega arith)) (omega arith)

-- ---- the loop over up to eight slots of one byte, after j turns
pub record Group (byte : ℕ) (bytes : List ℕ) (at : ℕ) (m : Mapping) (from count : ℕ) (c₀ p₀ : List ℕ) (met₀ j : ℕ) (c p : List ℕ) (next met : ℕ) : Type 0 where
  pub within : j ≤ count
  pub numbers : c ≡ sets c₀ from (tab j (marked_in (byte ∷ []) 0 bytes at m.length))
  pub marks : p ≡ sets p₀ from (tab j (mark_in (byte ∷ []) 0))
  pub on : next ≡ at + ones_before (byte ∷ []) 0 j * m.length
  pub more : met₀ ≤ met
  pub bound : Within bytes at m.length (ones_before (byte ∷ []) 0 j) met

module _ {byte : ℕ} {bytes : List ℕ} {at : ℕ} {m : Mapping} {from count : ℕ} {c₀ p₀ : List ℕ} {met₀ : ℕ} where
  pub group-none : Group byte bytes at m from count c₀ p₀ met₀ 0 c₀ p₀ at met₀
  group-none = record { within = omega arith; numbers = refl; marks = refl; on = omega (arith, zero-mul m.length); more = omega arith; bound = within_none }

  module _ {j : ℕ} {c p : List ℕ} {next met : ℕ} (g : Group byte bytes at m from count c₀ p₀ met₀ j c p next met) where
    pub group-long : (length c ≡ length c₀) × (length p ≡ length p₀)
    group-long = (rw (g.numbers, length-sets), rw (g.marks, length-sets))

    module _ (h : j < count) (most : count ≤ 8) where
      -- a slot that is present
      module _ (t : byte / 2 ^ (7 - j) % 2 ≡ 1) where
        marked : vector_bit (byte ∷ []) 0 j ≡ true
        marked = bit-alone byte j (omega arith) ∙ eq-eqb (byte / 2 ^ (7 - j) % 2) 1 t

        pub group-code : Codes bytes at m (ones_before (byte ∷ []) 0 count) → (8 ≤ next) × (next + m.length ≤ length bytes)
        group-code k =
            let n : ones_before (byte ∷ []) 0 j < ones_before (byte ∷ []) 0 count =
            omega (arith, ones-grow (byte ∷ []) 0 h, ap (λ (b : Bool). ones_before (byte ∷ []) 0 j + pick b 1 0) marked) in
            code-there k n g.on

        pub group-set : {y r : ℕ} → y ≡ word_of (part bytes next m.length) → r ≡ value_bits (reading m.length y)
            → Group byte bytes at m from count c₀ p₀ met₀ (j + 1) (set (set c (from + j) 0) (from + j) r) (set (set p (from + j) 0) (from + j) 1) (next + m.length) (bit_or met y)
        group-set q e =
            record {
              within = omega arith;
              numbers = rw (set-set, ← (sets-tab c₀ from j (marked_in (byte ∷ []) 0 bytes at m.length)), marked, g.numbers, e, q, g.on);
              marks = rw (set-set, ← (sets-tab p₀ from j (mark_in (byte ∷ []) 0)), marked, g.marks);
              on = rw (add-one, marked) (code-next at m.length (ones_before (byte ∷ []) 0 j) g.on);
              more = le_trans g.more (or-least met _).0;
              bound = rw (add-one, marked) (within_more g.bound (rw g.on at q));
            }

      -- a slot that is absent
      pub group-unset : (byte / 2 ^ (7 - j) % 2 ≡ 1 → ⊥)
          → Group byte bytes at m from count c₀ p₀ met₀ (j + 1) (set c (from + j) 0) (set p (from + j) 0) next met
      group-unset t =
          let b : vector_bit (byte ∷ []) 0 j ≡ false = bit-alone byte j (omega arith) ∙ ne_eqb (byte / 2 ^ (7 - j) % 2) 1 t in
          record {
            within = omega arith;
            numbers = rw (← (sets-tab c₀ from j (marked_in (byte ∷ []) 0 bytes at m.length)), b, g.numbers);
            marks = rw (← (sets-tab p₀ from j (mark_in (byte ∷ []) 0)), b, g.marks);
            on = rw (add-one, b, add-zero) g.on;
            more = g.more;
            bound = rw (add-one, b, add-zero) g.bound;
          }

    pub group-done : count ≤ j
        → (next ≡ at + ones_before (byte ∷ []) 0 count * m.length)
        × (c ≡ sets c₀ from (tab count (marked_in (byte ∷ []) 0 bytes at m.length)))
        × (p ≡ sets p₀ from (tab count (mark_in (byte ∷ []) 0)))
        × (met₀ ≤ met)
        × Within bytes at m.length (ones_before (byte ∷ []) 0 count) met
    group-done h = let e : j ≡ count = omega (arith, g.within) in rw (← e) (g.on, g.numbers, g.marks, g.more, g.bound)

-- ---- the loop over the bytes of a Bit Vector, after k slots
pub record Marked (bytes : List ℕ) (vector codes : ℕ) (m : Mapping) (slots : ℕ) (c₀ p₀ : List ℕ) (k : ℕ) (c p : List ℕ) (next met : ℕ) : Type 0 where
  pub numbers : Front (tab slots (marked_in bytes vector bytes codes m.length)) c₀ k c
  pub marks : Front (tab slots (mark_in bytes vector)) p₀ k p
  pub on : next ≡ codes + ones_before bytes vector k * m.length
  pub bound : Within bytes codes m.length (ones_before bytes vector k) met

module _ {bytes : List ℕ} {vector codes : ℕ} {m : Mapping} {slots : ℕ} {c₀ p₀ : List ℕ} where
  pub marked-none : slots ≤ length c₀ → slots ≤ length p₀ → Marked bytes vector codes m slots c₀ p₀ 0 c₀ p₀ codes 0
  marked-none h k =
      record {
        numbers = tab-none slots (marked_in bytes vector bytes codes m.length) h;
        marks = tab-none slots (mark_in bytes vector) k;
        on = omega (arith, zero-mul m.length);
        bound = within_none;
      }

  -- a turn: count slots of byte i
  module _ (i : ℕ) {c p : List ℕ} {next met : ℕ} (f : Marked bytes vector codes m slots c₀ p₀ (8 * i) c p next met) {count : ℕ} (h : 8 * i + count ≤ slots) (most : count ≤ 8) where
    -- its codes stand behind those of the bytes before it
    behind : (j : ℕ) → j ≤ 8 → next + ones_before (one_byte bytes vector i) 0 j * m.length ≡ codes + ones_before bytes vector (8 * i + j) * m.length
    behind j l =
        rw (f.on, ones-of bytes vector i j l)
        (omega (arith, add-mul (ones_before bytes vector (8 * i)) (ones_before (one_byte bytes vector i) 0 j) m.length))

    pub marked-codes : Codes bytes codes m (ones_before bytes vector slots) → Codes bytes next m (ones_before (one_byte bytes vector i) 0 count)
    marked-codes k =
        record {
          words = omega (arith, k.words, f.on);
          whole = omega (arith, behind count most, k.whole, mul-le-mul_right m.length (ones-grow bytes vector h));
        }

    pub marked-room : (8 * i + count ≤ length c) × (8 * i + count ≤ length p)
    marked-room = (
      omega (arith, f.numbers.room, f.numbers.long, length-tab slots (marked_in bytes vector bytes codes m.length)),
      omega (arith, f.marks.room, f.marks.long, length-tab slots (mark_in bytes vector)),
    )

    pub marked_more : {d q : List ℕ} {x y : ℕ} → x ≡ next + ones_before (one_byte bytes vector i) 0 count * m.length
        → d ≡ sets c (8 * i) (tab count (marked_in (one_byte bytes vector i) 0 bytes next m.length))
        → q ≡ sets p (8 * i) (tab count (mark_in (one_byte bytes vector i) 0))
        → met ≤ y
        → Within bytes next m.length (ones_before (one_byte bytes vector i) 0 count) y
        → Marked bytes vector codes m slots c₀ p₀ (8 * i + count) d q x y
    marked_more e p q l b =
        record {
          numbers = rw p (tab-run slots (marked_in bytes vector bytes codes m.length) f.numbers count h (λ j l. rw (bit-of bytes vector i j (omega arith), behind j (omega arith))));
          marks = rw q (tab-run slots (mark_in bytes vector) f.marks count h (λ j l. rw (bit-of bytes vector i j (omega arith))));
          on = e ∙ behind count most;
          bound = rw (ones-of bytes vector i count most) (within-run f.bound l (rw f.on at b));
        }

  module _ {k : ℕ} {c p : List ℕ} {next met : ℕ} (f : Marked bytes vector codes m slots c₀ p₀ k c p next met) where
    pub marked-done : slots ≤ k → (c ≡ over (tab slots (marked_in bytes vector bytes codes m.length)) c₀)
        × (p ≡ over (tab slots (mark_in bytes vector)) p₀)
        × Within bytes codes m.length (ones_before bytes vector slots) met
    marked-done h =
        let e : k ≡ slots = omega (arith, f.marks.within, length-tab slots (mark_in bytes vector)) in (
          tab-done slots (marked_in bytes vector bytes codes m.length) f.numbers h,
          tab-done slots (mark_in bytes vector) f.marks h,
          rw e at f.bound,
        )
