-- What the rules tell where they refuse nothing.
-- Assumes nothing.
use mathlib.Core.Path.{◌≡◌}
use Prim.Native.Nat.{ℕ, ◌≤◌}
use borrow.Author.Tests.{eqb-true, ltb-false}
use Rattle.answers.specs.Table.{next, room_rule}
use Rattle.answers.proofs.Next.{Says, rules, next-zero}
use Rattle.layout.specs.Size.{max_rows, limit_rule}
use Rattle.layout.specs.Triangle.{slots_of}
use Rattle.npy_export.specs.File.{file_length}
use Rattle.npy_export.specs.Rules.{count_rule, export_rules}

-- one rule
pub limit-tells : (n : ℕ) → Says (λ _. n ≤ max_rows) (limit_rule n)
limit-tells n = search (rules, ltb-false) depth 4

pub count-tells : (expected got : ℕ) → Says (λ _. expected ≡ got) (count_rule expected got)
count-tells expected got = search (rules, eqb-true) depth 4

pub room-tells : (needed room : ℕ) → Says (λ _. needed ≤ room) (room_rule needed room)
room-tells needed room = search (rules, ltb-false) depth 4

-- those of export
pub record Exports (n ds cs room : ℕ) : Type 0 where
  pub few : n ≤ max_rows
  pub rows : n ≡ ds
  pub slots : slots_of n ≡ cs
  pub fits : file_length n ≤ room

pub exports : (n ds cs room : ℕ) → (export_rules n ds cs room).number ≡ 0 → Exports n ds cs room
exports n ds cs room z =
    let third = room_rule (file_length n) room in
    let second = next (count_rule (slots_of n) cs) third in
    let a = next-zero (limit_rule n) (next (count_rule n ds) second) z in
    let b = next-zero (count_rule n ds) second a.1 in
    let c = next-zero (count_rule (slots_of n) cs) third b.1 in
    record {
      few = (limit-tells n).done a.0;
      rows = (count-tells n ds).done b.0;
      slots = (count-tells (slots_of n) cs).done c.0;
      fits = (room-tells (file_length n) room).done c.1;
    }
