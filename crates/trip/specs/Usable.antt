-- Document 02, K6: what "usable" says of what the reader gives, over a range or none.
use Rattle.std.specs.Prelude.{ℕ, ◌<◌, ◌≡◌, Bool, true, false, List, ◌↔◌, T, length, get_or, Option, None}
use Rattle.std.specs.Float.{binary32, binary64}
use Rattle.std.specs.Float.Ieee.{of_bits, le}
use Rattle.answers.specs.Lent.{over}
use Rattle.numbers.specs.Conversions.{nearest}
use Rattle.layout.specs.Header.{said_size, control_of, body_at}
use Rattle.layout.specs.Triangle.{slots_of}
use Rattle.elements.specs.Elements.{present_in, head_of, codes_at, slot_in, correlations, states}
use Rattle.elements.specs.Listed.{pack_of}
use Rattle.deviations.specs.declared.form.DeviationRange.{DeviationRange}
use Rattle.deviations.specs.Range.{deviations_over}
use Rattle.writer.specs.Pack.{pack_bytes}
use Rattle.matrix.specs.Usable.{zero_value, is_usable}
use Rattle.trip.specs.RoundTrip.{Sendable}

-- of the pack's own counts, with M states, over lists that held ds₀, cs₀ and ss₀ before it was read
abbrev pub usable_read : Option DeviationRange → List ℕ → List ℕ → List ℕ → List ℕ → Bool
usable_read range bytes ds₀ cs₀ ss₀ =
    is_usable (pack_of (head_of bytes)) (slots_of (said_size bytes)) (over (deviations_over range bytes (head_of bytes)) ds₀)
    (over (correlations bytes (head_of bytes)) cs₀) (over (states bytes (head_of bytes)) ss₀)

-- slot k of the pack is present with no value: a special, a reserved pattern or out of range
pub record NoValue (bytes : List ℕ) (k : ℕ) : Type 0 where
  pub within : k < slots_of (said_size bytes)
  pub present : present_in bytes (body_at bytes) (control_of bytes) k ≡ true
  pub other : (slot_in bytes (body_at bytes) (codes_at (head_of bytes)) (control_of bytes) k).state ≡ 1 → ⊥

-- whatever the lent lists held
pub record UsableRead (ds₀ cs₀ ss₀ : List ℕ) : Type 0 where
  -- a pack in which a slot is present with no value is not usable
  pub no_value : (range : Option DeviationRange) (bytes : List ℕ) (k : ℕ) → NoValue bytes k
      → usable_read range bytes ds₀ cs₀ ss₀ ≡ false
  -- what demand 3 sends, written and read, is usable exactly when every deviation's binary32 rounding is at least 0,
  -- which either zero is
  pub sent : (ds cs : List ℕ) (L : ℕ) → Sendable ds cs L
      → (usable_read None (pack_bytes ds cs L) ds₀ cs₀ ss₀ ≡ true)
      ↔ ((i : ℕ) → i < length ds → T (le zero_value (nearest binary32 (of_bits binary64 (get_or ds i 0)))))
