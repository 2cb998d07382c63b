-- What is known of a file whose rules pass: its header is whole, N is within the limit, and its body is as long as N says.
-- Assumes nothing.
use mathlib.Core.Path.{◌≡◌}
use mathlib.Core.List.{List}
use Prim.Native.Nat.{ℕ, ◌-◌, ◌≤◌}
use native.Mathlib.Omega.{arith}
use lib.ListN.{length}
use Rattle.answers.specs.Table.{next}
use Rattle.answers.proofs.Next.{next-zero}
use Rattle.layout.specs.Size.{max_rows, limit_rule}
use Rattle.npy_header.specs.Header.{header_length, size_in}
use Rattle.npy_header.specs.Rules.{header_rule}
use Rattle.npy_header.proofs.Held.{header-held}
use Rattle.npy_export.specs.File.{body_length, file_length}
use Rattle.npy_export.specs.Rules.{count_rule}
use Rattle.npy.specs.Rules.{size_rules, pair_rules, file_rules}
use Rattle.npy_export.proofs.Passed.{limit-tells, count-tells}

module _ (file : List ℕ) where
  pub record Held (n : ℕ) : Type 0 where
    pub few : n ≤ max_rows
    pub whole : length file ≡ file_length n

  pub size-held : (n : ℕ) → (header_rule file).number ≡ 0 → (size_rules file n).number ≡ 0 → Held n
  size-held n h z =
      let p = next-zero (limit_rule n) (count_rule (body_length n) (length file - header_length)) z in
      record {
        few = (limit-tells n).done p.0;
        whole = omega (arith, header-held file h, (count-tells (body_length n) (length file - header_length)).done p.1);
      }

  pub file-held : (file_rules file).number ≡ 0 → Held (size_in file)
  file-held z =
      let p = next-zero (header_rule file) (next (size_rules file (size_in file)) (pair_rules file (size_in file))) z in
      let q = next-zero (size_rules file (size_in file)) (pair_rules file (size_in file)) p.1 in
      size-held (size_in file) p.0 q.0
