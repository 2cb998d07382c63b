-- No second answer meets a contract: two that do are the same, with what they leave in lent memory.
-- Assumes nothing.
use mathlib.Core.HLevel.{is_prop→PathP}
use mathlib.Core.Path.{◌≡◌, sym, ◌∙◌}
use Prim.Native.Nat.{ℕ, ◌≤◌}
use lib.Ieee.{binary64, of_bits}
use Rattle.std.specs.Prelude.{Result}
use Rattle.answers.specs.OneAnswer.{OneResult, OneAnswer}
use Rattle.answers.specs.Lent.{leaves}
use Rattle.std.proofs.Props.{props}
use Rattle.answers.proofs.Outcome.{found-one}
use Rattle.answers.proofs.OneToOne.{listed-one, result-one, writer-one, checked-one}
use Rattle.numbers.specs.Words.{bytes_of}
use Rattle.imapb.specs.Mapping.{code_of}
use Rattle.imapb.specs.Special.{special_code}
use Rattle.imapb.specs.Tables.{imapb_listed, length_listed}
use Rattle.imapb.proofs.code_length.CodeLength.new.Reads as code-length
use Rattle.imapb.proofs.decode.decode_imapb.Reads as decode-imapb
use Rattle.imapb.proofs.decode.unless_special.Reads as unless-special
use Rattle.imapb.proofs.decode.check_length.Reads as check-length
use Rattle.imapb.proofs.decode.check_code.Reads as check-code
use Rattle.imapb.proofs.encode.check_range.Reads as check-range
use Rattle.imapb.proofs.encode.imapb_code.Reads as imapb-code
use Rattle.imapb.proofs.encode.encode_imapb.Reads as encode-imapb
use Rattle.imapb.proofs.mapping.imapb_mapping.Reads as imapb-mapping
use Rattle.imapb.proofs.special.encode_imapb_special.Reads as encode-imapb-special
use Rattle.imapb.specs.declared.code_length.CodeLength.{CodeLength}
use Rattle.imapb.specs.declared.decode.DecodedImapb.{DecodedImapb}
use Rattle.answers.specs.declared.Refusal.{Refusal}

-- what determines the listed answer determines the enum
pub read_one : (r r' : Result DecodedImapb Refusal) → imapb_listed r ≡ imapb_listed r' → r ≡ r'
read_one = result-one imapb_listed (λ x y e. cc) (λ r r' e. listed-one r r' (cc)) (λ x r e. cc)

-- a length is its bytes
pub length-one : (l l' : CodeLength) → l.bytes ≡ l'.bytes → l ≡ l'
length-one l l' e =
    let le : (a b : ℕ) → IsProp (a ≤ b) = λ a b. hlevel props in
    λ i. record {
      bytes = e i;
      least = is_prop→PathP (λ j. 1 ≤ e j) (λ j. le 1 (e j)) l.least l'.least i;
      most = is_prop→PathP (λ j. e j ≤ 8) (λ j. le (e j) 8) l.most l'.most i;
    }

pub lengths-one : (r r' : Result CodeLength Refusal) → length_listed r ≡ length_listed r' → r ≡ r'
lengths-one = result-one length_listed (λ l l' e. length-one l l' (found-one e)) (λ r r' e. listed-one r r' (cc)) (λ l r e. cc)

pub code-length-one : OneResult code-length.Learnt
code-length-one κs a r r' s s' p q = lengths-one r r' (p ∙ sym q)

pub decode-imapb-one : OneResult decode-imapb.Learnt
decode-imapb-one κs a r r' s s' p q = read_one r r' (p ∙ sym q)

pub unless-special-one : OneResult unless-special.Learnt
unless-special-one κs a r r' s s' p q = p ∙ sym q

pub check-length-one : OneResult check-length.Learnt
check-length-one κs a r r' s s' p q = checked-one r r' (p ∙ sym q)

pub check-code-one : OneResult check-code.Learnt
check-code-one κs a r r' s s' p q = checked-one r r' (p ∙ sym q)

pub check-range-one : OneResult check-range.Learnt
check-range-one κs a r r' s s' p q = checked-one r r' (p ∙ sym q)

pub imapb-code-one : OneResult imapb-code.Learnt
imapb-code-one κs a r r' s s' p q = p ∙ sym q

pub encode-imapb-one : OneAnswer encode-imapb.Learnt (λ κs s. s.1.1.0.now)
encode-imapb-one κs a r r' s s' p q =
    writer-one (λ x. leaves x (bytes_of a.0 (code_of a.0 (of_bits binary64 a.1.0))) a.1.1.0.now) r r' p q

pub encode-imapb-special-one : OneAnswer encode-imapb-special.Learnt (λ κs s. s.1.1.0.now)
encode-imapb-special-one κs a r r' s s' p q =
    writer-one (λ x. leaves x (bytes_of a.1.0 (special_code a.1.0 a.0)) a.1.1.0.now) r r' p q

pub imapb-mapping-one : OneResult imapb-mapping.Learnt
imapb-mapping-one κs a r r' s s' p q = p ∙ sym q
