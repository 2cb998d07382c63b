-- Document 01, "Reader's order": what the rules answer, l) among them, before anything is stored.
use Rattle.std.specs.Prelude.{ℕ, Bool, ◌&&◌, List, nat_le, Option}
use Rattle.answers.specs.Outcome.{Outcome, unless}
use Rattle.answers.specs.Lent.{leaves}
use Rattle.answers.specs.Table.{Answer, pick, next}
use Rattle.imapb.specs.Tables.{supported}
use Rattle.layout.specs.declared.control.ParseControl.{ParseControl}
use Rattle.layout.specs.Header.{control_of}
use Rattle.elements.specs.Elements.{head_of, codes_at}
use Rattle.deviations.specs.declared.form.DeviationRange.{DeviationRange}
use Rattle.rules.specs.Rules.{pack_rules, room_rules}
use Rattle.rules.specs.Decided.{Ready, ready_of}

-- the range that is lent, a) to k), and l), given the rooms
abbrev pub store_rules : Option DeviationRange → List ℕ → ℕ → ℕ → ℕ → Answer
store_rules range bytes ds cs ss = next (pack_rules range bytes) (room_rules (head_of bytes) ds cs ss)

-- and what they decide
abbrev pub store_ready : Option DeviationRange → List ℕ → ℕ → ℕ → ℕ → Outcome Ready
store_ready range bytes ds cs ss = unless (store_rules range bytes ds cs ss) (ready_of range bytes)

-- ---- what is stored by words: codes of a length that has codes, behind at least eight bytes, in mapped form
abbrev pub by_words : ParseControl → ℕ → Bool
by_words c codes = supported c.clen && nat_le 8 codes && c.cf

-- what is then left of a lent list, given what a pack holds of it
abbrev pub left_by_words : Option DeviationRange → List ℕ → ℕ → ℕ → ℕ → List ℕ → List ℕ → List ℕ
left_by_words range bytes ds cs ss front lent =
    pick (by_words (control_of bytes) (codes_at (head_of bytes))) (leaves (store_rules range bytes ds cs ss) front lent) lent
