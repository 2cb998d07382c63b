-- What a pack that passes rules tells of its places.
-- Assumes nothing.
use mathlib.Core.Path.{◌≡◌, refl}
use mathlib.Core.List.{List, [], ◌∷◌}
use Prim.Native.Nat.{ℕ, ◌<◌, ◌≤◌}
use native.Mathlib.Omega.{arith}
use borrow.Author.Tests.{ltb-false}
use lib.Dec.{ltb}
use lib.ListN.{length}
use Rattle.std.specs.Prelude.{None}
use Rattle.answers.specs.Table.{answer, wholes, passes}
use Rattle.answers.proofs.Rules.{picked}
use Rattle.layout.specs.declared.rule.Rule.{Rule}
use Rattle.layout.specs.declared.rule.Rule.TheVariants.{A, B, C, D, E, F, G, H, I, J, K}
use Rattle.layout.specs.Header.{head_rules}
use Rattle.layout.specs.Ruled.{passed}
use Rattle.layout.specs.Size.{fit_ruled}
use Rattle.layout.specs.Triangle.{slots_of}
use Rattle.layout.specs.declared.header.Head.{Head}
use Rattle.elements.specs.Elements.{head_of, deviations_at, deviation_count, codes_at, end_at}
use Rattle.elements.specs.Held.{Within, SlotsHeld}
use Rattle.elements.proofs.Opened.{fit-within, passed-fits}
use Rattle.deviations.specs.Range.{format_over, row_part}
use Rattle.rules.specs.Named.{rank, rule_of, pack_ruled}
use Rattle.rules.proofs.Held.{turns-held, count-bytes, held}
use Rattle.rules.proofs.Refused.{none-refuses}

module _ (bytes : List ℕ) where
  -- a) and b)
  pub head-passes : (rule_of bytes A).number ≡ 0 → (rule_of bytes B).number ≡ 0 → (head_rules bytes).number ≡ 0
  head-passes a b = rw (a, b)

  -- a) to g)
  module _ (z : (y : Rule) → rank y < 7 → (rule_of bytes y).number ≡ 0) where
    pub fit-passes : fit_ruled bytes ≡ passed
    fit-passes =
        rw (z A (omega arith), z B (omega arith), z C (omega arith), z D (omega arith), z E (omega arith), z F (omega arith), z G (omega arith))

    pub placed : Within bytes (head_of bytes)
    placed = fit-within bytes (passed-fits bytes fit-passes)

    -- and h): the codes start within the bytes
    pub codes-start : (rule_of bytes H).number ≡ 0 → codes_at (head_of bytes) ≤ length bytes
    codes-start e =
        let h = head_of bytes in
        let t =
        turns-held bytes (deviations_at h) h.control.slen (λ i. format_over None h.control i (row_part bytes (deviations_at h) h.control i)) (deviation_count h) placed.vector e in
        omega (arith, t.0, count-bytes h)

  -- all of them: the codes are there, and reach to the end
  module _ (e : pack_ruled bytes ≡ passed) where
    abbrev h : Head
    h = head_of bytes

    pub slots-held : SlotsHeld bytes h.body (codes_at h) h.control (slots_of h.n)
    slots-held =
        let z = none-refuses bytes e in
        (held None bytes h refl (placed (λ y _. z y)) (rw (z H, z I, z J, z K))).slots

    pub ends : length bytes ≡ end_at bytes h
    ends =
        picked (λ a. a.number ≡ 0 → length bytes ≡ end_at bytes h) (ltb (end_at bytes h) (length bytes))
        (answer 2 (wholes (end_at bytes h ∷ length bytes ∷ []))) passes (λ _ z. absurd (omega arith))
        (λ f _. omega (arith, slots-held.whole, ltb-false (end_at bytes h) (length bytes) f)) (none-refuses bytes e K)
