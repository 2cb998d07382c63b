-- The slots of a pack with mapped codes: as the faster pass has them, and what they were.
-- Assumes nothing.
use Rattle.std.proofs.Common.{◌≡◌, ℕ, ◌+◌, ◌<◌, ◌≤◌, true, false, ◌&&◌, T, eqb, leb, List, length, le_trans, arith, leb→le, ne_eqb}
use lib.Ieee.Bits.{is_true}
use lib.Ieee.Fits.{and_l, and_r}
use Rattle.answers.specs.Lent.{tab}
use Rattle.answers.proofs.Lent.{tab-same}
use Rattle.answers.proofs.Rules.{by_bool}
use Rattle.numbers.specs.Words.{word_of}
use Rattle.imapb.specs.declared.code_length.Mapping.{Mapping}
use Rattle.imapb.specs.Special.{reading}
use Rattle.imapb.specs.Tables.{supported}
use Rattle.imapb.proofs.Law.{reads-value}
use Rattle.layout.specs.declared.control.ParseControl.{ParseControl}
use Rattle.elements.specs.Elements.{part, state_of, vector_bit, ones_before, present_in, present_before, slot_in}
use Rattle.codes.specs.Fill.{Codes, Within, Mapped, mapped_in, mark_in, marked_in, present_as1}
use Rattle.codes.specs.Store.{by_words}
use Rattle.codes.proofs.Filled.{code_at, behind-present, among, code-held}

-- what is read by words has a mapping
pub record ByWords (c : ParseControl) (codes : ℕ) : Type 0 where
  pub supports : supported c.clen ≡ true
  pub words : 8 ≤ codes
  pub cf : c.cf ≡ true

pub by-words : (c : ParseControl) (codes : ℕ) → by_words c codes ≡ true → ByWords c codes
by-words c codes e =
    let t : T (by_words c codes) = rw e tt in
    let l = and_l (supported c.clen && leb 8 codes) c.cf t in
    record {
      supports = is_true (supported c.clen) (and_l (supported c.clen) (leb 8 codes) l);
      words = leb→le 8 codes (and_r (supported c.clen) (leb 8 codes) l);
      cf = is_true c.cf (and_r (supported c.clen && leb 8 codes) c.cf t);
    }

module _ {bytes : List ℕ} {vector codes : ℕ} {c : ParseControl} {m : Mapping} {slots : ℕ} (h : Mapped bytes vector codes c m slots) where
  some : eqb c.clen 0 ≡ false
  some = ne_eqb c.clen 0 (λ z. omega (arith, h.long, m.least))

  -- ---- all of them, marked by a Bit Vector or all present
  module _ (s : c.cs ≡ true) where
    pub marked-is : (tab slots (λ k. (slot_in bytes vector codes c k).bits) ≡ tab slots (marked_in bytes vector bytes codes m.length))
        × (tab slots (present_as1 bytes vector c) ≡ tab slots (mark_in bytes vector))
        × (present_before bytes vector c slots ≡ ones_before bytes vector slots)
    marked-is = (
      tab-same slots (λ k l. rw (some, s, h.cf, h.long) (by_bool (vector_bit bytes vector k) (λ t. rw t) (λ f. rw f))),
      tab-same slots (λ k l. rw (some, s)),
      rw (some, s),
    )

    pub marked-held : Codes bytes codes m (ones_before bytes vector slots)
    marked-held = record { words = h.words; whole = rw h.long (rw (some, s) at h.held.whole) }

  module _ (s : c.cs ≡ false) where
    pub all-is : (tab slots (λ k. (slot_in bytes vector codes c k).bits) ≡ tab slots (mapped_in bytes codes m.length))
        × (tab slots (present_as1 bytes vector c) ≡ tab slots (λ _. 1))
        × (present_before bytes vector c slots ≡ slots)
    all-is = (tab-same slots (λ k l. rw (some, s, h.cf, h.long)), tab-same slots (λ k l. rw (some, s)), rw (some, s))

    pub all_held : Codes bytes codes m slots
    all_held = record { words = h.words; whole = rw h.long (rw (some, s) at h.held.whole) }

  -- ---- one of them, that is present, whose code starts at a place: what it was, and where the next one starts
  module _ (k : ℕ) (t : present_in bytes vector c k ≡ true) {at : ℕ} (e : at ≡ code_at bytes vector codes c k) where
    pub code-there : k < slots → (8 ≤ at) × (at + m.length ≤ length bytes)
    code-there l = (omega (arith, h.words), rw h.long (code-held bytes vector codes c k h.held l t e))

    pub state-is : {r : ℕ} → r ≡ state_of (reading m.length (word_of (part bytes at m.length))) → r ≡ (slot_in bytes vector codes c k).state
    state-is p = rw (t, h.cf) (rw (e, h.long) at p)

    pub code-behind : at + m.length ≡ code_at bytes vector codes c (k + 1)
    code-behind = rw (e, h.long) (behind-present bytes vector codes c k t)

  pub state-absent : (k : ℕ) → present_in bytes vector c k ≡ false → 0 ≡ (slot_in bytes vector codes c k).state
  state-absent k f = rw f

  -- where no code exceeds the top code, all are values
  pub all-values : {x : ℕ} → Within bytes codes m.length (present_before bytes vector c slots) x → x ≤ m.top
      → tab slots (present_as1 bytes vector c) ≡ tab slots (λ k. (slot_in bytes vector codes c k).state)
  all-values b l = tab-same slots (λ k i. by_bool (present_in bytes vector c k) (value k i) (λ f. rw f))
    where
      value : (k : ℕ) → k < slots → present_in bytes vector c k ≡ true → present_as1 bytes vector c k ≡ (slot_in bytes vector codes c k).state
      value k i t =
          let n = present_before bytes vector c k in
          let y = rw h.long at (le_trans (b.each n (among bytes vector codes c k h.held i t)) (rw m.top_is at l)) in
          rw (t, h.cf, reads-value c.clen (word_of (part bytes (code_at bytes vector codes c k) c.clen)) (rw h.long at m.least) y)
