-- What the reader's definition finds in the bytes of the writer's definition, element by element, once over both forms.
use Rattle.std.specs.Prelude.{ℕ, ◌+◌, ◌*◌, ◌≤◌, ◌<◌, ◌≡◌, Bool, true, false, List, ◌++◌, length, get_or}
use Rattle.std.specs.Float.{binary64}
use Rattle.std.specs.Float.Ieee.{of_bits}
use Rattle.answers.specs.Table.{passes}
use Rattle.answers.specs.Lent.{joined}
use Rattle.numbers.specs.Words.{bytes_of}
use Rattle.imapb.specs.Mapping.{code_of}
use Rattle.layout.specs.declared.control.ParseControl.{ParseControl}
use Rattle.layout.specs.Header.{said_size, control_of, body_at, head_rules}
use Rattle.elements.specs.Elements.{part, present_in, present_before, head_of, deviations_at, codes_at, end_at}
use Rattle.slots.specs.Slots.{element3, element5}
use Rattle.writer.specs.Pack.{element1, element2, element4}
use Rattle.slots.specs.Slots.{sent, code_bytes}
use Rattle.writer.specs.Pack.{deviation_bytes, form_bytes}

-- the control of either form: CS; Cf=1 and Clen; Sf=0 and Slen=4
abbrev pub control_for : Bool → ℕ → ParseControl
control_for sparse L = record { cs = sparse; cf = true; clen = L; sf = false; slen = 4 }

-- elements 1 and 2: rules a) and b) pass, N and the control are found, and element 3 starts at `at`
pub record HeadFound (n L : ℕ) (sparse : Bool) (bytes : List ℕ) (at : ℕ) : Type 0 where
  pub passed : head_rules bytes ≡ passes
  pub size : said_size bytes ≡ n
  pub control : control_of bytes ≡ control_for sparse L
  pub body : body_at bytes ≡ at

module _ (ds cs : List ℕ) (L : ℕ) (sparse : Bool) where
  -- elements 3 to 5 behind any first two
  abbrev pub behind : List ℕ → List ℕ
  behind front = front ++ element3 sparse cs ++ element4 ds ++ element5 sparse cs L

  -- elements 3 to 5, where the head of `bytes` says that they are
  pub record BodyFound (bytes : List ℕ) : Type 0 where
    -- element 3: a slot is present exactly where it was sent; those before it are as many as their codes are long
    pub present : (k : ℕ) → k < length cs → present_in bytes (body_at bytes) (control_of bytes) k ≡ sent sparse cs k
    pub counted : (k : ℕ) → k ≤ length cs
        → present_before bytes (body_at bytes) (control_of bytes) k * (control_of bytes).clen
        ≡ length (joined k (code_bytes sparse cs L))
    -- element 4: each deviation
    pub deviations : (i : ℕ) → i < length ds
        → part bytes (deviations_at (head_of bytes) + i * (control_of bytes).slen) (control_of bytes).slen
        ≡ deviation_bytes ds i
    -- element 5: the code of each correlation that was sent
    pub codes : (k : ℕ) → k < length cs → sent sparse cs k ≡ true
        → part bytes
        (codes_at (head_of bytes) + present_before bytes (body_at bytes) (control_of bytes) k * (control_of bytes).clen)
        (control_of bytes).clen
        ≡ bytes_of L (code_of L (of_bits binary64 (get_or cs k 0)))
    -- nothing follows
    pub whole : end_at bytes (head_of bytes) ≡ length bytes

  -- the five elements of a pack
  pub record Found : Type 0 where
    pub head : HeadFound (length ds) L sparse (form_bytes ds cs L sparse)
        (length (element1 (length ds) ++ element2 sparse L))
    pub body : BodyFound (form_bytes ds cs L sparse)
