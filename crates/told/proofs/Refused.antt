-- The reader's answer where it is lent no range, by the rule that is named.
-- Assumes nothing.
use mathlib.Core.Path.{◌≡◌, sym, ap, ◌∙◌}
use mathlib.Core.List.{List}
use Prim.Native.Nat.{ℕ}
use borrow.Author.Tests.{ne_eqb}
use Rattle.std.specs.Prelude.{None}
use Rattle.answers.specs.Table.{Answer, next}
use Rattle.answers.proofs.Next.{next-next}
use Rattle.layout.specs.declared.rule.Rule.{Rule}
use Rattle.layout.specs.Ruled.{refused_by, unnamed}
use Rattle.elements.specs.Elements.{head_of}
use Rattle.rules.specs.Named.{pack_ruled}
use Rattle.rules.specs.Rules.{pack_rules, room_rules}
use Rattle.rules.proofs.Refused.{refused-by, pack-unnamed}
use Rattle.reader.specs.Rules.{done, read_answer}

module _ (bytes : List ℕ) (d c p : ℕ) where
  abbrev behind : Answer
  behind = next (room_rules (head_of bytes) d c p) (done (head_of bytes))

  -- a) to k), and behind them the rooms
  pub by-rules : read_answer bytes d c p ≡ next (unnamed (pack_ruled bytes)) behind
  by-rules =
      next-next (pack_rules None bytes) (room_rules (head_of bytes) d c p) (done (head_of bytes))
      ∙ ap (λ (a : Answer). next a behind) (sym (pack-unnamed bytes))

  -- the answer of the rule that refuses is the reader's
  pub read-refused : {x : Rule} {a : Answer} → pack_ruled bytes ≡ refused_by x a → read_answer bytes d c p ≡ a
  read-refused {x} {a} e =
      let r = refused-by bytes e in
      by-rules ∙ rw (e, ne_eqb a.number 0 (rw (← r.1) at r.0.refuses))
