-- What the parts of a reader may count on once rules have passed.
use Rattle.std.specs.Prelude.{ℕ, ◌+◌, ◌*◌, ◌≤◌, ◌<◌, ◌≡◌, List, length}
use Rattle.answers.specs.Table.{passes}
use Rattle.layout.specs.declared.control.ParseControl.{ParseControl}
use Rattle.layout.specs.Size.{max_rows}
use Rattle.layout.specs.declared.header.Head.{Head}
use Rattle.elements.specs.declared.head.Places.{Places}
use Rattle.elements.specs.Elements.{present_before, deviations_at, places_of}
use Rattle.elements.specs.Formats.{code_format}

-- rules a) to g)
pub record Within (bytes : List ℕ) (h : Head) : Type 0 where
  pub rows : h.n ≤ max_rows
  pub vector : deviations_at h ≤ length bytes

-- and the places that follow from the head
pub record Placed (bytes : List ℕ) (p : Places) : Type 0 where
  pub within : Within bytes p.head
  pub is : p ≡ places_of p.head

-- rules h) to k): every present slot's code is there, in a format that is read
pub record SlotsHeld (bytes : List ℕ) (vector codes : ℕ) (c : ParseControl) (slots : ℕ) : Type 0 where
  pub whole : codes + present_before bytes vector c slots * c.clen ≤ length bytes
  pub format : 0 < present_before bytes vector c slots → code_format c ≡ passes
