-- No second answer meets a contract: two that do are the same, with what they leave in lent memory.
-- Assumes nothing.
use Rattle.std.proofs.Common.{ℕ, List, sym, ◌∙◌}
use Rattle.answers.specs.OneAnswer.{OneResult, OneAnswer}
use Rattle.rules.proofs.OneAnswer.{decided-one}
use Rattle.codes.proofs.store.by_words.Reads as by-words
use Rattle.codes.proofs.store.store_mapped.Reads as store-mapped

pub store-mapped-one : OneAnswer {L = List ℕ × List ℕ} store-mapped.Learnt (λ κs s. (s.1.1.1.0.now, s.1.1.1.1.0.now))
store-mapped-one κs a r r' s s' p q =
    let c = p.1 ∙ sym q.1 in
    let b = p.2 ∙ sym q.2 in
    (decided-one r r' (p.0 ∙ sym q.0), λ i. (c i, b i))

pub by-words-one : OneResult by-words.Learnt
by-words-one κs a r r' s s' p q = p ∙ sym q
