use mathlib.Core.Path.{◌≡◌}
use Prim.Native.Nat.{◌+◌, ◌-◌}
use Rattle.answers.specs.Table.{passes, each}
use Rattle.npy.specs.Matrix.{place_of}
use Rattle.npy.specs.Rules.{pair_rule}
use Rattle.npy.proofs.entry.MatrixFile.check_row.Given as goal

abbrev pub invariant-loop-j : goal.invariant-loop-j
invariant-loop-j l = record {
  along : l.along ≡ place_of l.self.rows l.i l.j;
  down : l.down ≡ place_of l.self.rows l.j l.i;
  agree : each (l.j - (l.i + 1)) (λ k. pair_rule l.self.file.now l.self.rows l.i (l.i + 1 + k)) ≡ passes;
}
