use mathlib.Core.Path.{◌≡◌}
use Prim.Native.Nat.{◌+◌, ◌-◌}
use Rattle.answers.proofs.Runs.{Run}
use Rattle.layout.specs.Triangle.{slot_of}
use Rattle.npy_export.specs.Parts.{slot_bytes}
use Rattle.npy_export.proofs.write.put_left.Given as goal

abbrev pub invariant-loop : goal.invariant-loop
invariant-loop l = Run l.i (λ k. slot_bytes l.correlations (slot_of l.rows k l.i)) l.at l.initial.out l.counter l.out l.next × (l.behind + l.counter ≡ slot_of l.rows l.counter (l.counter + 1) + l.i)
    × (l.step + l.counter ≡ l.rows - 1)
