-- Elements 1 and 2, N and Parse Control behind it: what they say, and rules a) and b) of the reader's order.
use Rattle.std.specs.Prelude.{ℕ, suc, ◌+◌, Bool, List, leb, ltb, length, get_or, Option, Some, None, Result, Ok, Err}
use Rattle.answers.specs.Table.{Answer, short, pick, passes, next}
use Rattle.numbers.specs.declared.ber_oid.BerOid.{BerOid}
use Rattle.numbers.specs.BerOid.{continued, oid_value, oid_read}
use Rattle.layout.specs.declared.control.ParseControl.{ParseControl}
use Rattle.layout.specs.declared.header.Head.{Head}
use Rattle.layout.specs.declared.header.HeaderError.{HeaderError}
use Rattle.layout.specs.declared.header.HeaderError.TheVariants.{Unreadable, Short}
use Rattle.layout.specs.Control.{mode1, mode2}

abbrev pub control_at : List ℕ → ℕ
control_at bytes = suc (continued bytes)

abbrev pub said_size : List ℕ → ℕ
said_size bytes = oid_value (control_at bytes) bytes

-- bit 7 of its first byte tells the mode
abbrev pub is_mode2 : List ℕ → Bool
is_mode2 bytes = leb 128 (get_or bytes (control_at bytes) 0)

abbrev pub control_of : List ℕ → ParseControl
control_of bytes =
    pick (is_mode2 bytes) (mode2 (get_or bytes (control_at bytes) 0) (get_or bytes (suc (control_at bytes)) 0))
    (mode1 (get_or bytes (control_at bytes) 0))

-- the byte after the control
abbrev pub body_at : List ℕ → ℕ
body_at bytes = control_at bytes + pick (is_mode2 bytes) 2 1

-- a header: N, the control and the byte after it
abbrev pub headed : ℕ → ParseControl → ℕ → Result Head HeaderError
headed n control body = Ok (record { n = n; control = control; body = body })

-- what the two say, where N is readable and the control is not short
abbrev pub header_behind : List ℕ → Option BerOid → Result Head HeaderError
header_behind bytes None = Err Unreadable
header_behind bytes (Some oid) =
    pick (ltb (length bytes) (body_at bytes)) (Err Short) (headed (said_size bytes) (control_of bytes) (body_at bytes))

abbrev pub header_of : List ℕ → Result Head HeaderError
header_of bytes = header_behind bytes (oid_read bytes)

-- a) N unreadable: 1 with 0, 0
abbrev pub rule_a : Result Head HeaderError → Answer
rule_a (Err Unreadable) = short 0 0
rule_a (Err Short) = passes
rule_a (Ok header) = passes

-- b) Parse Control short: 1 with 1, 0
abbrev pub rule_b : Result Head HeaderError → Answer
rule_b (Err Unreadable) = passes
rule_b (Err Short) = short 1 0
rule_b (Ok header) = passes

abbrev pub header_refusal : Result Head HeaderError → Answer
header_refusal h = next (rule_a h) (rule_b h)

abbrev pub head_rules : List ℕ → Answer
head_rules bytes = header_refusal (header_of bytes)
