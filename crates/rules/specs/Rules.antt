-- Document 01, "Reader's order": the rules h) to l), each as it stands there, behind a) to g) of `layout`. A range that
-- is lent comes before them all.
use Rattle.std.specs.Prelude.{ℕ, ◌+◌, ◌-◌, ◌*◌, not, ◌&&◌, List, [], ◌∷◌, eqb, ltb, length, Option}
use Rattle.answers.specs.Table.{Answer, answer, short, wholes, pick, passes, next, each}
use Rattle.layout.specs.declared.control.ParseControl.{ParseControl}
use Rattle.layout.specs.declared.rule.Rule.TheVariants.{H, I, J, K}
use Rattle.layout.specs.Ruled.{Ruled, passed, named, unnamed}
use Rattle.layout.specs.Size.{fit_rules}
use Rattle.layout.specs.Triangle.{slots_of}
use Rattle.layout.specs.declared.header.Head.{Head}
use Rattle.elements.specs.Elements.{head_of, deviations_at, deviation_count, codes_at, present_count, end_at}
use Rattle.elements.specs.Formats.{code_format}
use Rattle.elements.specs.Numbers.{element_rule}
use Rattle.deviations.specs.declared.form.DeviationRange.{DeviationRange}
use Rattle.deviations.specs.Range.{lent_rule, format_over, row_part}

-- each of n elements of `size` bytes from `at` on, in turn, with what its format refuses
abbrev pub in_turn : List ℕ → ℕ → ℕ → (ℕ → Answer) → ℕ → Answer
in_turn bytes at size format n = each n (λ k. element_rule bytes (at + k * size) size (format k))

-- CS=1, Clen>0 and present·Clen exceeds what is left: 1 with present·Clen and what is left
abbrev pub codes_rule : ParseControl → ℕ → ℕ → Answer
codes_rule c present left =
    pick (c.cs && not (eqb c.clen 0) && ltb left (present * c.clen)) (short (present * c.clen) left) passes

-- bytes left over: 2 with bytes used, bytes given
abbrev pub over_rule : ℕ → ℕ → Answer
over_rule used given = pick (ltb used given) (answer 2 (wholes (used ∷ given ∷ []))) passes

-- each deviation in turn: fewer than Slen bytes left: 1 with Slen and what is left there; then its format, over a range
-- or none
abbrev pub rule_h : Option DeviationRange → List ℕ → Head → Answer
rule_h range bytes h =
    in_turn bytes (deviations_at h) h.control.slen
    (λ i. format_over range h.control i (row_part bytes (deviations_at h) h.control i)) (deviation_count h)

module _ (bytes : List ℕ) (h : Head) where
  abbrev pub rule_i : Answer
  rule_i = codes_rule h.control (present_count bytes h) (length bytes - codes_at h)

  -- each present slot in turn: fewer than Clen bytes left: 1 with Clen and what is left there; then its format
  abbrev pub rule_j : Answer
  rule_j = in_turn bytes (codes_at h) h.control.clen (λ _. code_format h.control) (present_count bytes h)

  abbrev pub rule_k : Answer
  rule_k = over_rule (end_at bytes h) (length bytes)

  -- i) to k), by name
  abbrev pub code_ruled : Ruled
  code_ruled = named I rule_i (named J rule_j (named K rule_k passed))

-- h), whose answer is given, and behind it i) to k)
abbrev pub element_ruled : Answer → List ℕ → Head → Ruled
element_ruled a bytes h = named H a (code_ruled bytes h)

-- h) to k), without the names
abbrev pub element_rules : Option DeviationRange → List ℕ → Head → Answer
element_rules range bytes h = unnamed (element_ruled (rule_h range bytes h) bytes h)

-- the range that is lent, and a) to k)
abbrev pub pack_rules : Option DeviationRange → List ℕ → Answer
pack_rules range bytes =
    next (lent_rule range) (next (fit_rules bytes) (element_rules range bytes (head_of bytes)))

-- the first short buffer among deviations, correlations, states, of which so many rows and slots are needed: 5
abbrev pub rooms_rule : ℕ → ℕ → ℕ → ℕ → ℕ → Answer
rooms_rule rows slots ds cs ss =
    pick (ltb ds rows) (answer 5 (wholes (rows ∷ ds ∷ [])))
    (pick (ltb cs slots) (answer 5 (wholes (slots ∷ cs ∷ [])))
    (pick (ltb ss slots) (answer 5 (wholes (slots ∷ ss ∷ [])))
    passes))

-- l) those of a pack
abbrev pub room_rules : Head → ℕ → ℕ → ℕ → Answer
room_rules h ds cs ss = rooms_rule (deviation_count h) (slots_of h.n) ds cs ss
