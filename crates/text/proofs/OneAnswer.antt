-- No second answer meets a contract: two that do are the same, with what they leave in lent memory.
-- Assumes nothing.
use mathlib.Core.Path.{◌≡◌, refl, sym, subst, ◌∙◌}
use mathlib.Core.List.{List}
use Prim.Native.Nat.{ℕ, ◌<◌}
use mir.Syntax.{Dict, w64}
use mir.Val.{Fits}
use denote.RattleType.{RattleType}
use denote.Param.Laws.{Laws, IsCopy}
use Rattle.std.specs.declared.clone.Clone as Clone
use Rattle.std.specs.declared.cmp.PartialEq as PartialEq
use Rattle.std.proofs.lemmas.List.{same_lists}
use Rattle.answers.specs.OneAnswer.{OneResult, OneAnswer, OnePart}
use Rattle.text.specs.declared.marks.Marked as Marked
use Rattle.text.specs.declared.page.Page.{Page}
use Rattle.text.specs.Page.{Adds, filled}
use Rattle.text.proofs.list.entries.Reads as entries
use Rattle.text.proofs.list.list.Reads as list
use Rattle.text.proofs.marks.mark.Reads as mark
use Rattle.text.proofs.marks.changed.Reads as changed
use Rattle.text.proofs.part.within.Reads as within
use Rattle.text.proofs.room.room_of.Reads as room-of
use Rattle.text.proofs.table.letter_in.Reads as letter-in
use Rattle.text.proofs.page.Page.new.Reads as page-new
use Rattle.text.proofs.page.Page.place.Reads as page-place
use Rattle.text.proofs.page.Page.byte.Reads as page-byte
use Rattle.text.proofs.page.Page.text.Reads as page-text
use Rattle.text.proofs.page.Page.decimal.Reads as page-decimal
use Rattle.text.proofs.page.Page.named.Reads as page-named
use Rattle.text.proofs.page.Page.hex.Reads as page-hex
use Rattle.text.proofs.page.Page.bits.Reads as page-bits
use Rattle.text.proofs.numeral.digit_at.Reads as digit_at
use Rattle.text.proofs.numeral.decimal_digit_at.Reads as decimal-digit-at
use Rattle.text.proofs.numeral.decimal.Reads as decimal
use Rattle.text.proofs.numeral.hex.Reads as hex
use Rattle.text.proofs.numeral.literal.Reads as literal
use Rattle.text.proofs.numeral.at_end.Reads as at-end
use Rattle.text.proofs.numeral.decimal_up_to.Reads as decimal-up-to
use Rattle.text.proofs.numeral.entry_after_space.Reads as entry-after-space
use Rattle.text.proofs.string.byte_string.Reads as byte-string

-- at any type
pub within-one : (T : RattleType) (l : Laws T) → OneResult (within.Learnt T l)
within-one T l κs a r r' s s' p q = p.1 ∙ sym q.1

-- whatever is added to a page
pub filled_one : {x : List ℕ} {p q q' : Page} → Adds x p q → Adds x p q' → filled q ≡ filled q'
filled_one a b = λ i. ((a.behind ∙ sym b.behind) i, (a.put.stored ∙ sym b.put.stored) i)

-- and nothing else is answered: `r` and `r'` are unit values
pub adds_one : {x : List ℕ} {p q q' : Page} {r r' : Unit {0}} → Adds x p q → Adds x p q' → ◌≡◌ {A = Unit {0}} r r' × (filled q ≡ filled q')
adds_one a b = (refl, filled_one a b)

pub page-new-one : OnePart page-new.Learnt (λ κs r. filled r)
page-new-one κs a r r' s s' p q =
    λ i. ((p.from ∙ sym q.from) i, (p.stored ∙ sym q.stored) i)

pub page-place-one : OneResult page-place.Learnt
page-place-one κs a r r' s s' p q = p ∙ sym q

pub page-byte-one : OneAnswer page-byte.Learnt (λ κs s. filled s.0.now)
page-byte-one κs a r r' s s' p q = adds_one p q

pub page-text-one : OneAnswer page-text.Learnt (λ κs s. filled s.0.now)
page-text-one κs a r r' s s' p q = adds_one p q

pub page-decimal-one : OneAnswer page-decimal.Learnt (λ κs s. filled s.0.now)
page-decimal-one κs a r r' s s' p q = adds_one p q

pub page-named-one : OneAnswer page-named.Learnt (λ κs s. filled s.0.now)
page-named-one κs a r r' s s' p q = adds_one p q

pub page-hex-one : OneAnswer page-hex.Learnt (λ κs s. filled s.0.now)
page-hex-one κs a r r' s s' p q = adds_one p q

pub page-bits-one : OneAnswer page-bits.Learnt (λ κs s. filled s.0.now)
page-bits-one κs a r r' s s' p q = adds_one p q

pub digit-at-one : OneResult digit_at.Learnt
digit-at-one κs a r r' s s' p q = p ∙ sym q

pub decimal-digit-at-one : OneResult decimal-digit-at.Learnt
decimal-digit-at-one κs a r r' s s' p q = p ∙ sym q

pub decimal-one : OneResult decimal.Learnt
decimal-one κs a r r' s s' p q = p ∙ sym q

pub hex-one : OneResult hex.Learnt
hex-one κs a r r' s s' p q = p ∙ sym q

pub literal-one : OneResult literal.Learnt
literal-one κs a r r' s s' p q = p ∙ sym q

pub at-end-one : OneResult at-end.Learnt
at-end-one κs a r r' s s' p q = p ∙ sym q

pub decimal-up-to-one : OneResult decimal-up-to.Learnt
decimal-up-to-one κs a r r' s s' p q = p ∙ sym q

pub entry-after-space-one : OneResult entry-after-space.Learnt
entry-after-space-one κs a r r' s s' p q = p ∙ sym q

-- at any type with a mark
module _ (T : RattleType) (l : Laws T) (copy : IsCopy T) (m : Marked.Ghosts T.Denot) (md : Dict) (k : Clone.Ghosts T.Denot) (kd : Dict) (e : PartialEq.Ghosts T.Denot) (ed : Dict) where
  pub changed-one : OneResult (changed.Learnt T l copy m md k kd e ed)
  changed-one κs a r r' s s' p q = p ∙ sym q

  -- what it leaves is all that it answers
  pub mark-one : OneAnswer (mark.Learnt T l copy m md k kd e ed) (λ κs s. s.0.now)
  mark-one κs a r r' s s' p q = (refl, p ∙ sym q)

pub entries-one : OneAnswer entries.Learnt (λ κs s. s.1.1.1.0.now)
entries-one κs a r r' s s' p q = (p.0 ∙ sym q.0, p.1 ∙ sym q.1)

pub list-one : OneAnswer list.Learnt (λ κs s. s.1.1.1.0.now)
list-one κs a r r' s s' p q = (p.0 ∙ sym q.0, p.1 ∙ sym q.1)

pub byte-string-one : OneAnswer byte-string.Learnt (λ κs s. s.0.now)
byte-string-one κs a r r' s s' p q = (p.0 ∙ sym q.0, p.1 ∙ sym q.1)

pub letter-in-one : OneResult letter-in.Learnt
letter-in-one κs a r r' s s' p q = p ∙ sym q

-- a room of any type and size is what it is by its entry
pub room-of-one : (T : RattleType) (N : ℕ) (l : Laws T) (fits : Fits w64 N) (copy : IsCopy T) (k : Clone.Ghosts T.Denot) (kd : Dict) → OneResult (room-of.Learnt T N l fits copy k kd)
room-of-one T N l fits copy g gd κs a r r' s s' p q =
    let long = sym p.0 ∙ q.0 in
    same_lists r r' long (λ k d h. p.1 k d h ∙ sym (q.1 k d (subst (λ (n : ℕ). k < n) long h)))
