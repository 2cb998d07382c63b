-- Document 02, K4: what is told of a pack is what the reader does with it, given room enough and no range.
use Rattle.std.specs.Prelude.{ℕ, ◌≡◌, List, ◌↔◌}
use Rattle.answers.specs.Table.{Answer, passes}
use Rattle.layout.specs.declared.rule.Rule.{Rule}
use Rattle.elements.specs.Elements.{head_of}
use Rattle.rules.specs.Named.{rule_of, RefusedBy}
use Rattle.rules.specs.Rules.{room_rules}
use Rattle.reader.specs.Rules.{done, read_answer}
use Rattle.explain.specs.Spans.{elements_of}
use Rattle.explain.specs.Explained.{accepted, refused, place_of, explained}
use Rattle.explain.specs.Joined.{Joined}

module _ (bytes : List ℕ) where
  abbrev pub Accepted : Type 0
  Accepted = explained bytes ≡ accepted (head_of bytes) (elements_of bytes)

  pub record Told : Type 0 where
    -- a rule is named exactly where the reader refuses by it: the rules before it pass, and it refuses
    pub named : (x : Rule) (place : ℕ) (a : Answer)
        → (explained bytes ≡ refused x place a)
        ↔ (RefusedBy bytes x × (place ≡ place_of bytes x) × (a ≡ rule_of bytes x))
    -- and that is the reader's refusal, with its numbers
    pub refuses : (x : Rule) → RefusedBy bytes x → (d c p : ℕ) → read_answer bytes d c p ≡ rule_of bytes x
    -- a pack is accepted exactly where the reader, given room enough, is done
    pub accepts : (d c p : ℕ) → room_rules (head_of bytes) d c p ≡ passes
        → Accepted ↔ (read_answer bytes d c p ≡ done (head_of bytes))
    -- and its places join up from 0 to its length
    pub joins : Accepted → Joined bytes
