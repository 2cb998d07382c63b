-- No second answer meets a contract: two that do are the same, with what they leave in lent memory.
-- Assumes nothing.
use mathlib.Core.Path.{sym, ◌∙◌}
use mathlib.Core.List.{List}
use Prim.Native.Nat.{ℕ}
use Rattle.answers.specs.OneAnswer.{OneResult, OneAnswer}
use Rattle.text.specs.Page.{filled}
use Rattle.text.proofs.OneAnswer.{adds_one, filled_one}
use Rattle.report.proofs.OneAnswer.{answer-one}
use Rattle.packs.proofs.first.is_too_big.Reads as is-too-big
use Rattle.packs.proofs.first.put_set.Reads as put-set
use Rattle.packs.proofs.first.put_first.Reads as put_first
use Rattle.packs.proofs.tags.put_tags.Reads as put-tags
use Rattle.packs.proofs.pack.put_pack_of.Reads as put-pack-of

pub is-too-big-one : OneResult is-too-big.Learnt
is-too-big-one κs a r r' s s' p q = p ∙ sym q

pub put-set-one : OneAnswer put-set.Learnt (λ κs s. filled s.1.0.now)
put-set-one κs a r r' s s' p q = adds_one p q

pub put-first-one : OneAnswer {L = List ℕ × (ℕ × List ℕ)} put_first.Learnt (λ κs s. (s.1.0.now, filled s.1.1.0.now))
put-first-one κs a r r' s s' p q =
    let o = filled_one p.1 q.1 in
    let t = p.2 ∙ sym q.2 in
    (p.0 ∙ sym q.0, λ i. (t i, o i))

pub put-tags-one : OneAnswer put-tags.Learnt (λ κs s. filled s.1.0.now)
put-tags-one κs a r r' s s' p q = adds_one p q

pub put-pack-of-one : OneAnswer {L = List ℕ × List ℕ × List ℕ × (ℕ × List ℕ)} put-pack-of.Learnt
    (λ κs s. (s.1.1.1.0.now, s.1.1.1.1.0.now, s.1.1.1.1.1.0.now, filled s.1.1.1.1.1.1.0.now))
put-pack-of-one κs a r r' s s' p q = answer-one p q
