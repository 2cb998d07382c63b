-- The formats that are read, and what the others are refused with: rules h) and j), without the bytes.
use Rattle.std.specs.Prelude.{not, ◌||◌, [], ◌∷◌}
use Rattle.answers.specs.Table.{Answer, answer, wholes, pick, passes}
use Rattle.imapb.specs.Tables.{length_rule}
use Rattle.layout.specs.declared.control.ParseControl.{ParseControl}
use Rattle.elements.specs.Elements.{is_ieee}

-- Sf=1, or Slen not 4 or 8: 2 with 0, Slen
abbrev pub deviation_format : ParseControl → Answer
deviation_format c = pick (c.sf || not (is_ieee c.slen)) (answer 2 (wholes (0 ∷ c.slen ∷ []))) passes

-- Cf=1 and Clen 9 to 15 (or 0, where no slot is present): 4; Cf=0 and Clen not 4 or 8: 2 with 0, Clen
abbrev pub code_format : ParseControl → Answer
code_format c =
    pick c.cf (length_rule c.clen)
    (pick (is_ieee c.clen) passes (answer 2 (wholes (0 ∷ c.clen ∷ []))))
