-- The deviations of a pack by the form that they are read in: what the pass that stores them may count on.
use Rattle.std.specs.Prelude.{ℕ, ◌+◌, ◌*◌, ◌≤◌, ◌<◌, ◌≡◌, List, length}
use Rattle.layout.specs.declared.control.ParseControl.{ParseControl}
use Rattle.deviations.specs.Range.{row_part}
use Rattle.deviations.specs.Form.{Form, form_format, form_bits}

-- the number of row i
abbrev pub form_in : List ℕ → ℕ → ParseControl → Form → ℕ → ℕ
form_in bytes at c f i = form_bits f c (row_part bytes at c i)

-- the rows are there, and none is refused
pub record RowsHeld (bytes : List ℕ) (at : ℕ) (c : ParseControl) (f : Form) (count : ℕ) : Type 0 where
  pub whole : at + count * c.slen ≤ length bytes
  pub each : (i : ℕ) → i < count → (form_format f c i (row_part bytes at c i)).number ≡ 0
