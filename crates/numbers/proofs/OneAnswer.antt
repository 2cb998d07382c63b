-- No second answer meets a contract: two that do are the same, with what they leave in lent memory.
-- Assumes nothing.
use mathlib.Core.Path.{refl, sym, ◌∙◌}
use Rattle.answers.specs.OneAnswer.{OneResult, OneAnswer}
use Rattle.answers.specs.Lent.{leaves}
use Rattle.answers.proofs.OneToOne.{writer-one}
use Rattle.numbers.specs.BerOid.{oid_bytes}
use Rattle.numbers.proofs.words.read_be.Reads as read-be
use Rattle.numbers.proofs.words.write_be.Reads as write-be
use Rattle.numbers.proofs.words.read_le.Reads as read-le
use Rattle.numbers.proofs.words.write_le.Reads as write-le
use Rattle.numbers.proofs.ber_oid.read_ber_oid.Reads as read-ber-oid
use Rattle.numbers.proofs.ber_oid.read_ber_oid_strict.Reads as read-ber-oid-strict
use Rattle.numbers.proofs.ber_oid.ber_oid_len.Reads as ber-oid-len
use Rattle.numbers.proofs.ber_oid.write_ber_oid.Reads as write-ber-oid
use Rattle.numbers.proofs.ber.read_ber.Reads as read-ber
use Rattle.numbers.proofs.ber.read_ber_strict.Reads as read-ber-strict
use Rattle.numbers.proofs.conversions.nearest_binary64.Reads as nearest-binary64
use Rattle.numbers.proofs.conversions.binary64_to_binary32.Reads as binary64-to-binary32
use Rattle.numbers.proofs.conversions.binary32_to_binary64.Reads as binary32-to-binary64
use Rattle.numbers.proofs.conversions.bits_of.Reads as bits-of
use Rattle.numbers.proofs.conversions.whole_part.Reads as whole_part

pub read-be-one : OneResult read-be.Learnt
read-be-one κs a r r' s s' p q = p ∙ sym q

pub read-le-one : OneResult read-le.Learnt
read-le-one κs a r r' s s' p q = p ∙ sym q

pub ber-oid-len-one : OneResult ber-oid-len.Learnt
ber-oid-len-one κs a r r' s s' p q = p ∙ sym q

pub read-ber-oid-one : OneResult read-ber-oid.Learnt
read-ber-oid-one κs a r r' s s' p q = p ∙ sym q

pub read-ber-oid-strict-one : OneResult read-ber-oid-strict.Learnt
read-ber-oid-strict-one κs a r r' s s' p q = p ∙ sym q

pub read-ber-one : OneResult read-ber.Learnt
read-ber-one κs a r r' s s' p q = p ∙ sym q

pub read-ber-strict-one : OneResult read-ber-strict.Learnt
read-ber-strict-one κs a r r' s s' p q = p ∙ sym q

pub write-be-one : OneAnswer write-be.Learnt (λ κs s. s.1.0.now)
write-be-one κs a r r' s s' p q = (refl, p ∙ sym q)

pub write-le-one : OneAnswer write-le.Learnt (λ κs s. s.1.0.now)
write-le-one κs a r r' s s' p q = (refl, p ∙ sym q)

pub write-ber-oid-one : OneAnswer write-ber-oid.Learnt (λ κs s. s.1.0.now)
write-ber-oid-one κs a r r' s s' p q = writer-one (λ x. leaves x (oid_bytes a.0) a.1.0.now) r r' p q

pub nearest-binary64-one : OneResult nearest-binary64.Learnt
nearest-binary64-one κs a r r' s s' p q = p ∙ sym q

pub binary64-to-binary32-one : OneResult binary64-to-binary32.Learnt
binary64-to-binary32-one κs a r r' s s' p q = p ∙ sym q

pub binary32-to-binary64-one : OneResult binary32-to-binary64.Learnt
binary32-to-binary64-one κs a r r' s s' p q = p ∙ sym q

pub bits-of-one : OneResult bits-of.Learnt
bits-of-one κs a r r' s s' p q = p ∙ sym q

pub whole-part-one : OneResult whole_part.Learnt
whole-part-one κs a r r' s s' p q = p ∙ sym q
