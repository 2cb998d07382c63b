use mathlib.Core.Path.{◌≡◌}
use Rattle.sets.specs.Items.{items_of}
use Rattle.sets.specs.Packs.{packs_of, nth, next_pack}
use Rattle.sets.proofs.handed.pack_at.Given as goal

abbrev pub invariant-loop : goal.invariant-loop
invariant-loop l = next_pack l.set l.before ≡ nth l.counter (packs_of l.set 0 (items_of l.set))
