-- Document 01's limits, the rules that a pack's size decides, c) to g) of the reader's order, and peek.
use Rattle.std.specs.Prelude.{ℕ, ◌-◌, ◌*◌, not, ◌&&◌, List, [], ◌∷◌, eqb, ltb, length, None, Some, Option}
use Rattle.answers.specs.Table.{Answer, answer, short, wholes, pick, passes}
use Rattle.layout.specs.declared.control.ParseControl.{ParseControl}
use Rattle.layout.specs.declared.rule.Rule.TheVariants.{A, B, C, D, E, F, G}
use Rattle.layout.specs.Header.{said_size, control_of, body_at, header_of, rule_a, rule_b}
use Rattle.layout.specs.Ruled.{Ruled, passed, named, unnamed}
use Rattle.layout.specs.Triangle.{slots_of, bit_bytes}

-- the limits of the pack type
abbrev pub max_rows : ℕ
max_rows = 256

abbrev pub max_slots : ℕ
max_slots = 32640

-- N above the limit: 3 with N, 0 and the limit
abbrev pub limit_rule : ℕ → Answer
limit_rule n = pick (ltb max_rows n) (answer 3 (wholes (n ∷ 0 ∷ max_rows ∷ []))) passes

-- c) to g), R being the bytes after Parse Control
module _ (n R : ℕ) (c : ParseControl) where
  -- c) Slen=Clen=0: 2 with 0, 0
  abbrev pub rule_c : Answer
  rule_c = pick (eqb c.slen 0 && eqb c.clen 0) (answer 2 (wholes (0 ∷ 0 ∷ []))) passes

  -- d) N>256: 3 with N, 0, 256
  abbrev pub rule_d : Answer
  rule_d = limit_rule n

  -- e) N·Slen>R: 1 with N·Slen and R
  abbrev pub rule_e : Answer
  rule_e = pick (ltb R (n * c.slen)) (short (n * c.slen) R) passes

  -- f) CS=0 and M·Clen>R: 1 with M·Clen and R
  abbrev pub rule_f : Answer
  rule_f = pick (not c.cs && ltb R (slots_of n * c.clen)) (short (slots_of n * c.clen) R) passes

  -- g) CS=1 and M>8R: 1 with ceil(M/8) and R
  abbrev pub rule_g : Answer
  rule_g = pick (c.cs && ltb (8 * R) (slots_of n)) (short (bit_bytes (slots_of n)) R) passes

  -- in this order, by name
  abbrev pub size_ruled : Ruled
  size_ruled = named C rule_c (named D rule_d (named E rule_e (named F rule_f (named G rule_g passed))))

  -- and without
  abbrev pub size_rules : Answer
  size_rules = unnamed size_ruled

-- a) to g)
abbrev pub fit_ruled : List ℕ → Ruled
fit_ruled bytes =
    named A (rule_a (header_of bytes)) (named B (rule_b (header_of bytes))
    (size_ruled (said_size bytes) (length bytes - body_at bytes) (control_of bytes)))

abbrev pub fit_rules : List ℕ → Answer
fit_rules bytes = unnamed (fit_ruled bytes)

-- N, or nothing where one of a) to g) refuses
abbrev pub peeked : List ℕ → Option ℕ
peeked bytes = pick (eqb (fit_rules bytes).number 0) (Some (said_size bytes)) None
