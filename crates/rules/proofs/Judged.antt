-- The verdict of rules a) to k), from that of a) to g) and the rules behind them.
-- Assumes nothing.
use mathlib.Core.Path.{◌≡◌, sym, ◌∙◌}
use mathlib.Core.List.{List}
use Prim.Native.Nat.{ℕ}
use Rattle.answers.specs.Table.{Answer}
use Rattle.layout.specs.declared.rule.Rule.{Rule}
use Rattle.layout.specs.Ruled.{Ruled, passed, refused_by}
use Rattle.layout.specs.Size.{fit_ruled}
use Rattle.elements.specs.declared.head.Places.{Places}
use Rattle.elements.specs.Elements.{deviation_count}
use Rattle.elements.specs.Listed.{pack, refused, verdict}
use Rattle.elements.proofs.Opened.{pack-tells, refused-tells}
use Rattle.deviations.specs.Form.{plain}
use Rattle.rules.specs.Decided.{form_rule}
use Rattle.rules.specs.Named.{pack_ruled}
use Rattle.rules.specs.Rules.{element_ruled}
use Rattle.rules.proofs.Named.{pack-early, pack-later}

module _ (bytes : List ℕ) where
  pub judged-early : {x : Rule} {a : Answer} → refused x a ≡ verdict bytes (fit_ruled bytes) → refused x a ≡ verdict bytes (pack_ruled bytes)
  judged-early e = rw (pack-early bytes (refused-tells bytes (fit_ruled bytes) e))

  module _ {p : Places} (o : pack p ≡ verdict bytes (fit_ruled bytes)) where
    -- h) to k), as they are asked of the places
    abbrev asked : Ruled
    asked = element_ruled (form_rule bytes p.deviations p.head.control plain (deviation_count p.head)) bytes p.head

    behind : asked ≡ pack_ruled bytes
    behind = let t = pack-tells bytes (fit_ruled bytes) o in rw t.1 (sym (pack-later bytes t.0))

    pub judged-later : {x : Rule} {a : Answer} → refused_by x a ≡ asked → refused x a ≡ verdict bytes (pack_ruled bytes)
    judged-later e = rw (sym (e ∙ behind))

    pub judged-pack : passed ≡ asked → pack p ≡ verdict bytes (pack_ruled bytes)
    judged-pack e = rw (sym (e ∙ behind), (pack-tells bytes (fit_ruled bytes) o).1)
