-- The numbers that the reader's definition gives of the bytes of the writer's definition, once over both forms.
use Rattle.std.specs.Prelude.{ℕ, ◌<◌, ◌≡◌, Bool, List, T, length, get_or}
use Rattle.std.specs.Float.{binary32, binary64}
use Rattle.std.specs.Float.Ieee.{of_bits, to_bits}
use Rattle.answers.specs.Table.{pick}
use Rattle.numbers.specs.Conversions.{converted}
use Rattle.imapb.specs.Mapping.{code_of, value_of, in_range}
use Rattle.layout.specs.Header.{control_of, body_at}
use Rattle.elements.specs.Elements.{head_of, deviations_at, codes_at, deviation_in, slot, absent, slot_in}
use Rattle.slots.specs.Slots.{sent}

-- a deviation that went through a binary32, and a correlation that went through its code
abbrev pub deviation_kept : ℕ → ℕ
deviation_kept d = converted binary32 binary64 (converted binary64 binary32 d)

abbrev pub correlation_kept : ℕ → ℕ → ℕ
correlation_kept L c = to_bits binary64 (value_of L (code_of L (of_bits binary64 c)))

pub record ValuesFound (ds cs : List ℕ) (L : ℕ) (sparse : Bool) (bytes : List ℕ) : Type 0 where
  pub deviations : (i : ℕ) → i < length ds
      → deviation_in bytes (deviations_at (head_of bytes)) (control_of bytes) i ≡ deviation_kept (get_or ds i 0)
  -- a correlation within -1 to 1 is a value; one that was not sent is absent
  pub slots : (k : ℕ) → k < length cs → T (in_range (of_bits binary64 (get_or cs k 0)))
      → slot_in bytes (body_at bytes) (codes_at (head_of bytes)) (control_of bytes) k
      ≡ pick (sent sparse cs k) (slot (correlation_kept L (get_or cs k 0)) 1) absent
