-- No second answer meets a contract: two that do are the same.
-- Assumes nothing.
use mathlib.Core.Path.{sym, ◌∙◌}
use Rattle.answers.specs.OneAnswer.{OneResult}
use Rattle.layout.proofs.control.parse_mode1.Reads as parse-mode1
use Rattle.layout.proofs.control.parse_mode2.Reads as parse-mode2
use Rattle.layout.proofs.header.read_header.Reads as read-header
use Rattle.layout.proofs.pack.bounded_slots.Reads as bounded-slots
use Rattle.layout.proofs.rule.RefusalFromBroken.from.Reads as refusal-from-broken
use Rattle.layout.proofs.rule.by.Reads as by
use Rattle.layout.proofs.size.check_matrix_size_fits.Reads as check-matrix-size-fits
use Rattle.layout.proofs.size.peek_matrix_size.Reads as peek-matrix-size
use Rattle.layout.proofs.triangle.corr_slots.Reads as corr-slots
use Rattle.layout.proofs.triangle.triangle_slot.Reads as triangle-slot
use Rattle.layout.proofs.Ruled.{ruling-one}

pub parse-mode1-one : OneResult parse-mode1.Learnt
parse-mode1-one κs a r r' s s' p q = p ∙ sym q

pub parse-mode2-one : OneResult parse-mode2.Learnt
parse-mode2-one κs a r r' s s' p q = p ∙ sym q

pub read-header-one : OneResult read-header.Learnt
read-header-one κs a r r' s s' p q = p ∙ sym q

pub refusal-from-broken-one : OneResult refusal-from-broken.Learnt
refusal-from-broken-one κs a r r' s s' p q = p ∙ sym q

pub by_one : OneResult by.Learnt
by_one κs a r r' s s' p q = ruling-one r r' (p ∙ sym q)

pub check-matrix-size-fits-one : OneResult check-matrix-size-fits.Learnt
check-matrix-size-fits-one κs a r r' s s' p q = ruling-one r r' (p ∙ sym q)

pub peek-matrix-size-one : OneResult peek-matrix-size.Learnt
peek-matrix-size-one κs a r r' s s' p q = p ∙ sym q

pub bounded-slots-one : OneResult bounded-slots.Learnt
bounded-slots-one κs a r r' s s' p q = p ∙ sym q

pub corr-slots-one : OneResult corr-slots.Learnt
corr-slots-one κs a r r' s s' p q = p ∙ sym q

pub triangle-slot-one : OneResult triangle-slot.Learnt
triangle-slot-one κs a r r' s s' p q = p ∙ sym q
