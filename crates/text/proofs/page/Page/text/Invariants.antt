use Rattle.std.proofs.Common.{take}
use Rattle.text.specs.Page.{Adds}
use Rattle.text.proofs.page.Page.text.Given as goal

abbrev pub invariant-loop-byte : goal.invariant-loop-byte
invariant-loop-byte l = Adds (take l.byte-index l.text) l.initial.self l.self
