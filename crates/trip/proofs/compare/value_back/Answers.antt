-- `compare::value_back` meets its contract: a correlation in range has a code, and that reads as a value.
use mathlib.Core.Path.{◌≡◌, sym, ap, ◌∙◌}
use mathlib.Core.List.{[], ◌∷◌}
use Prim.Native.Nat.{ℕ}
use lib.ListN.{take}
use lib.Ieee.{Float, binary64, of_bits, to_bits}
use Rattle.std.specs.Prelude.{Ok, Result}
use Rattle.answers.specs.Table.{Answer, answer, wholes}
use Rattle.answers.specs.Listed.{written}
use Rattle.numbers.specs.Words.{bytes_of}
use Rattle.numbers.proofs.Bytes.{length-bytes}
use Rattle.imapb.specs.Mapping.{code_of, value_of}
use Rattle.imapb.specs.Tables.{reads, imapb_listed, imapb_read}
use Rattle.imapb.specs.declared.decode.DecodedImapb.{DecodedImapb}
use Rattle.imapb.specs.declared.decode.DecodedImapb.TheVariants.{Value}
use Rattle.imapb.proofs.NoNan.{value-number}
use Rattle.trip.proofs.Stood.{done-front}
use Rattle.trip.proofs.Coded.{code-written, code_read}
use Rattle.trip.proofs.compare.value_back.Goals as goal
use Rattle.trip.proofs.compare.value_back.Goals.{After-decode_imapb-read, After-encode_imapb, In-Value}
use Rattle.answers.specs.declared.Refusal.{Refusal}

abbrev size : (c : After-encode_imapb) → ℕ
size c = c.args.clen

abbrev number : (c : After-encode_imapb) → ℕ
number c = code_of (size c) (of_bits binary64 c.args.sent)

done-written : (c : After-encode_imapb) → written c.encode_imapb.result ≡ answer 0 (wholes ((size c) ∷ []))
done-written c = c.encode_imapb.ensures.0 ∙ code-written (size c) c.args.sent c.requires.0 c.requires.1 8 c.requires.0.1

code_is : (c : After-encode_imapb) → take (size c) c.encode_imapb.new.out ≡ bytes_of (size c) (number c)
code_is c =
    ap (take (size c)) c.encode_imapb.ensures.1
    ∙ done-front (written c.encode_imapb.result) (bytes_of (size c) (number c)) _ (size c) (ap (λ (a : Answer). a.number) (done-written c)) (length-bytes (size c) (number c))

done-read : (c : After-decode_imapb-read) → imapb_listed c.decode_imapb-read.result ≡ reads (Value (value_of (size c.before.before.before.before) (number c.before.before.before.before)))
done-read c =
    c.decode_imapb-read.ensures ∙ ap (imapb_read (size c.before.before.before.before)) (code_is c.before.before.before.before)
    ∙ code_read (size c.before.before.before.before) c.args.sent c.requires.0 c.requires.1

-- what an answer that reads v tells of the enum
told : {r : Result DecodedImapb Refusal} {v : DecodedImapb} → imapb_listed r ≡ reads v → {d : DecodedImapb} → r ≡ Ok d → d ≡ v
told h e = cc

-- the number that it holds
held : {x y : Float} → Value x ≡ Value y → x ≡ y
held e = cc

is_number : (c : In-Value) → let e = c.before.before.before.before.before.before in c.in-Value.x ≡ value_of (size e) (number e)
is_number c =
    held (sym c.in-Value.is ∙ told (done-read c.before.before) c.in-Ok-read.is)

pub returns-in_default-decoded : goal.returns-in_default-decoded
returns-in_default-decoded c =
    absurd (c.in_default-decoded.not-Value _ (told (done-read (goal.at.returns-in_default-decoded c).After-decode_imapb-read) c.in-Ok-read.is))

pub float_to_bits-result : goal.float_to_bits-result
float_to_bits-result c = let e = (goal.at.float_to_bits-result c).After-encode_imapb in rw (is_number (goal.at.float_to_bits-result c).In-Value, value-number (size e) (number e)) tt

pub returns : goal.returns
returns c = ap (to_bits binary64) (is_number (goal.at.returns c).In-Value)
