-- No second answer meets a contract: two that do are the same, with what they leave in lent memory.
-- Assumes nothing.
use mathlib.Core.Path.{◌≡◌, refl, sym, ap, ◌∙◌}
use Rattle.std.specs.Prelude.{Ok, Err, Result}
use Rattle.answers.specs.OneAnswer.{OneResult, OneAnswer, OnePart}
use Rattle.answers.specs.Table.{Answer}
use Rattle.answers.specs.declared.Refusal.{Refusal}
use Rattle.answers.proofs.OneToOne.{listed-one, done-not-refused}
use Rattle.sets.specs.declared.set.SetCounts.{SetCounts}
use Rattle.sets.specs.Rules.{counts, set_listed, left_tags}
use Rattle.sets.proofs.tag.is_pushed.Reads as is-pushed
use Rattle.sets.proofs.item.read_item.Reads as read-item
use Rattle.sets.proofs.pack.next_pack.Reads as next-pack
use Rattle.sets.proofs.part.pack_part.Reads as pack-part
use Rattle.sets.proofs.part.tags_part.Reads as tags-part
use Rattle.sets.proofs.set.read_set.Reads as read_set
use Rattle.sets.proofs.handed.pack_at.Reads as pack-at
use Rattle.sets.proofs.handed.pack_of.Reads as pack-of
use Rattle.sets.proofs.handed.tags_of.Reads as tags-of

pub is-pushed-one : OneResult is-pushed.Learnt
is-pushed-one κs a r r' s s' p q = p ∙ sym q

pub read-item-one : OneResult read-item.Learnt
read-item-one κs a r r' s s' p q = p ∙ sym q

pub next-pack-one : OneResult next-pack.Learnt
next-pack-one κs a r r' s s' p q = p ∙ sym q

pub pack-at-one : OneResult pack-at.Learnt
pack-at-one κs a r r' s s' p q = p ∙ sym q

-- what determines the listed answer determines the result
set-one : (r r' : Result SetCounts Refusal) → set_listed r ≡ set_listed r' → r ≡ r'
set-one (Ok s) (Ok t) e =
    let c = ap (λ (a : Answer). a.carries) e in
    let p : s.packs ≡ t.packs = cc in
    let q : s.tags ≡ t.tags = cc in
    λ i. Ok (record { packs = p i; tags = q i })
set-one (Ok s) (Err r) e = absurd (done-not-refused (counts s.packs s.tags) r refl e)
set-one (Err r) (Ok s) e = absurd (done-not-refused (counts s.packs s.tags) r refl (sym e))
set-one (Err r) (Err r') e = ap Err (listed-one r r' e)

pub read-set-one : OneAnswer read_set.Learnt (λ κs s. s.1.0.now)
read-set-one κs a r r' s s' p q =
    let e = p.0 ∙ sym q.0 in
    (set-one r r' e, p.1 ∙ ap (λ (x : Answer). left_tags x a.0.now a.1.0.now) e ∙ sym q.1)

-- of a part that is handed back, the same entries
pub pack-part-one : OnePart pack-part.Learnt (λ κs r. r.now)
pack-part-one κs a r r' s s' p q = p ∙ sym q

pub tags-part-one : OnePart tags-part.Learnt (λ κs r. r.now)
tags-part-one κs a r r' s s' p q = p ∙ sym q

pub pack-of-one : OnePart pack-of.Learnt (λ κs r. r.now)
pack-of-one κs a r r' s s' p q = p ∙ sym q

pub tags-of-one : OnePart tags-of.Learnt (λ κs r. r.now)
tags-of-one κs a r r' s s' p q = p ∙ sym q
