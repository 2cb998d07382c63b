-- Demand 1, one half: every input of every public function that answers by the table has an answer of it.
use Rattle.std.specs.Prelude.{List, ℕ, Float, Option}
use Rattle.answers.specs.Listed.{InTable}
use Rattle.imapb.specs.Tables.{length_rule, code_rules, range_rule, imapb_written, special_written}
use Rattle.imapb.specs.declared.special.ImapbSpecial.{ImapbSpecial}
use Rattle.ranges.specs.Tables as ranges
use Rattle.layout.specs.declared.control.ParseControl.{ParseControl}
use Rattle.layout.specs.declared.rule.Rule.{Rule}
use Rattle.layout.specs.Header.{head_rules}
use Rattle.layout.specs.Size.{size_rules, fit_rules}
use Rattle.sets.specs.Rules.{set_answer}
use Rattle.layout.specs.declared.header.Head.{Head}
use Rattle.deviations.specs.declared.form.DeviationRange.{DeviationRange}
use Rattle.deviations.specs.Range.{lent_rule}
use Rattle.rules.specs.Named.{rule_of}
use Rattle.rules.specs.Rules.{pack_rules, rooms_rule, room_rules}
use Rattle.codes.specs.Store.{store_rules}
use Rattle.npy_header.specs.Rules.{header_written, header_rule}
use Rattle.npy_export.specs.Rules.{export_answer}
use Rattle.npy.specs.Rules.{import_answer}
use Rattle.plan.specs.Rules.{plan_rules}
use Rattle.slots.specs.Rules.{slots_rules}
use Rattle.layout.specs.declared.pack.SdccFlp.{SdccFlp}
use Rattle.matrix.specs.Lookup.{cell_answer}
use Rattle.numbers.specs.BerOid.{oid_written}
use Rattle.reader.specs.Rules.{read_answer_in, read_answer}
use Rattle.lines.specs.Printed.{print_answer}
use Rattle.writer.specs.Rules.{write_answer}

pub record Answered : Type 0 where
  -- the reader, for every byte string, all rooms and every range or none; the header and the size check within it
  pub reads_in : (range : Option DeviationRange) (bytes : List ℕ) (d c s : ℕ) → InTable (read_answer_in range bytes d c s)
  pub reads : (bytes : List ℕ) (d c s : ℕ) → InTable (read_answer bytes d c s)
  pub heads : (bytes : List ℕ) → InTable (head_rules bytes)
  pub fits : (n R : ℕ) (k : ParseControl) → InTable (size_rules n R k)
  pub opens : (bytes : List ℕ) → InTable (fit_rules bytes)
  pub lent : (range : Option DeviationRange) → InTable (lent_rule range)
  pub decides : (range : Option DeviationRange) (bytes : List ℕ) → InTable (pack_rules range bytes)
  pub rooms : (h : Head) (d c s : ℕ) → InTable (room_rules h d c s)
  pub stores : (range : Option DeviationRange) (bytes : List ℕ) (d c s : ℕ) → InTable (store_rules range bytes d c s)
  pub rooms-for : (rows slots d c s : ℕ) → InTable (rooms_rule rows slots d c s)
  -- a set, for every byte string and every tag list
  pub takes : (set : List ℕ) (room : ℕ) → InTable (set_answer set room)
  -- a .npy file, made of every N and all numbers, and read from every byte string; its header within it
  pub exports : (n ds cs room : ℕ) → InTable (export_answer n ds cs room)
  pub imports : (file : List ℕ) (d c s : ℕ) → InTable (import_answer file d c s)
  pub writes-header : (n room : ℕ) → InTable (header_written n room)
  pub checks-header : (file : List ℕ) → InTable (header_rule file)
  -- the writer, for all numbers and rooms; the plan and the slots within it
  pub writes : (ds cs : List ℕ) (L room : ℕ) → InTable (write_answer ds cs L room)
  pub plans : (n : ℕ) (cs : List ℕ) (L : ℕ) → InTable (plan_rules n cs L)
  pub writes-slots : (n : ℕ) (cs : List ℕ) (L room : ℕ) → InTable (slots_rules n cs L room)
  pub writes-oid : (v room : ℕ) → InTable (oid_written v room)
  -- mapped values and special codes
  pub maps : (L v room : ℕ) → InTable (imapb_written L v room)
  pub checks : (v : ℕ) → InTable (range_rule v)
  pub lengths : (L : ℕ) → InTable (length_rule L)
  pub ranges : (min max : Float) → InTable (ranges.range_rule min max)
  pub codes : (L : ℕ) (bytes : List ℕ) → InTable (code_rules L bytes)
  pub maps-special : (L : ℕ) (s : ImapbSpecial) (room : ℕ) → InTable (special_written L s room)
  -- cell lookup
  pub looks-up : (p : SdccFlp) (ds cs : List ℕ) (i j : ℕ) → InTable (cell_answer p ds cs i j)
  -- the rule that is named, for every byte string
  pub explains : (bytes : List ℕ) (x : Rule) → InTable (rule_of bytes x)
  -- what the programs print, into lent memory
  pub prints : (room : ℕ) (text : List ℕ) (got : ℕ) → InTable (print_answer room text got)
