-- The two halves of each program: the numbers that the first has read, and what the second makes of them.
-- Assumes nothing.
use mathlib.Core.Path.{◌≡◌, ◌∙◌}
use mathlib.Core.List.{List, [], ◌∷◌}
use Prim.Native.Nat.{ℕ}
use native.Mathlib.Omega.{arith}
use lib.ListN.{length}
use Rattle.std.specs.Prelude.{Result, None}
use Rattle.answers.specs.Table.{Answer, answer, wholes, next, room_rule}
use Rattle.answers.proofs.Lent.{length-tab}
use Rattle.answers.proofs.Next.{next-passed, next-zero}
use Rattle.layout.specs.Header.{said_size}
use Rattle.layout.specs.Triangle.{slots_of}
use Rattle.elements.specs.Elements.{head_of, deviations, correlations}
use Rattle.reader.specs.Listed.{read_listed}
use Rattle.reader.specs.Rules.{read_answer}
use Rattle.reader.proofs.Peeked.{read_done}
use Rattle.reader.proofs.Whole.{Meets}
use Rattle.plan.specs.Rules.{count_rules, range_rules}
use Rattle.writer.specs.Pack.{pack_bytes}
use Rattle.writer.specs.Rules.{write_answer}
use Rattle.npy_header.specs.Header.{size_in}
use Rattle.npy_export.specs.File.{file_length, file_of}
use Rattle.npy.specs.Matrix.{deviations_in, correlations_in}
use Rattle.npy_export.specs.Rules.{export_rules, export_answer}
use Rattle.npy.specs.Rules.{import_rules, import_answer}
use Rattle.npy_export.proofs.Body.{length-file}
use Rattle.npy.proofs.Imported.{Imported}
use Rattle.npy.proofs.Matrix.{length-correlations}
use Rattle.npy_export.proofs.Passed.{exports, room-tells}
use Rattle.packs.specs.Printed.{max_rows, max_slots}
use Rattle.convert.specs.Converted.{npy_answer, npy_of, pack_answer, pack_of}
use Rattle.convert.proofs.Given.{Given}
use Rattle.convert.proofs.Made.{Makes}
use Rattle.layout.specs.declared.pack.SdccFlp.{SdccFlp}
use Rattle.answers.specs.declared.Refusal.{Refusal}

-- ---- what is read, where rooms for so many are lent
module _ (ds₀ cs₀ ss₀ : List ℕ) (d : max_rows ≡ length ds₀) (c : max_slots ≡ length cs₀) (s : max_slots ≡ length ss₀) where
  pub pack-given : (bytes : List ℕ) {r : Result SdccFlp Refusal} {ds cs ss : List ℕ} → Meets None bytes ds₀ cs₀ ss₀ r ds cs ss
      → Given (read_answer bytes max_rows max_slots max_slots) (said_size bytes) (deviations bytes (head_of bytes)) (correlations bytes (head_of bytes)) ds₀ cs₀ r ds cs
  pack-given bytes m =
      record {
        answers = m.0 ∙ rw (← d, ← c, ← s);
        done = λ z. read_done None bytes max_rows max_slots max_slots z ∙ simp length-tab;
        deviations = m.1;
        correlations = m.2;
      }

  pub file-given : (file : List ℕ) {r : Result SdccFlp Refusal} {ds cs ss : List ℕ} → Imported file ds₀ cs₀ ss₀ (read_listed r) ds cs ss
      → Given (import_answer file max_rows max_slots max_slots) (size_in file) (deviations_in file (size_in file)) (correlations_in file (size_in file)) ds₀ cs₀ r ds cs
  file-given file m =
      let n = size_in file in
      let rules = import_rules file max_rows max_slots max_slots in
      let done = answer 0 (wholes (n ∷ n ∷ slots_of n ∷ [])) in
      record {
        answers = m.0 ∙ rw (← d, ← c, ← s);
        done = λ z. next-passed rules done (next-zero rules done z).0 ∙ rw (length-tab, length-correlations);
        deviations = m.1;
        correlations = m.2;
      }

-- ---- what is made of it
export-makes : (n : ℕ) (ds cs : List ℕ) (room : ℕ) → Makes (export_answer n (length ds) (length cs) room) (file_of n ds cs) room
export-makes n ds cs room =
    let rules = export_rules n (length ds) (length cs) room in
    let last = answer 0 (wholes (file_length n ∷ [])) in
    record {
      done =
          λ z. let passed = (next-zero rules last z).0 in
          let held = exports n (length ds) (length cs) room passed in
          let long = length-file n ds cs (omega (arith, held.few)) in
          (next-passed rules last passed ∙ rw long, rw long held.fits);
    }

write-makes : (ds cs : List ℕ) (L room : ℕ) → Makes (write_answer ds cs L room) (pack_bytes ds cs L) room
write-makes ds cs L room =
    let long = length (pack_bytes ds cs L) in
    let last = answer 0 (wholes (long ∷ [])) in
    let third = next (room_rule long room) last in
    let second = next (range_rules cs) third in
    let first = count_rules (length ds) (length cs) L in
    record {
      done =
          λ z. let a = next-zero first second z in
          let b = next-zero (range_rules cs) third a.1 in
          let c = next-zero (room_rule long room) last b.1 in
          (next-passed first second a.0 ∙ next-passed (range_rules cs) third b.0 ∙ next-passed (room_rule long room) last c.0, (room-tells long room).done c.0);
    }

-- behind what is read
behind : (a b : Answer) {bytes : List ℕ} {room : ℕ} → Makes b bytes room → Makes (next a b) bytes room
behind a b m =
    record { done = λ z. let p = next-zero a b z in let h = m.done p.1 in (next-passed a b p.0 ∙ h.0, h.1) }

pub npy-makes : (bytes : List ℕ) (room : ℕ) → Makes (npy_answer bytes room) (npy_of bytes) room
npy-makes bytes room =
    behind (read_answer bytes max_rows max_slots max_slots) _ (export-makes (said_size bytes) (deviations bytes (head_of bytes)) (correlations bytes (head_of bytes)) room)

pub pack-makes : (file : List ℕ) (L room : ℕ) → Makes (pack_answer file L room) (pack_of file L) room
pack-makes file L room =
    behind (import_answer file max_rows max_slots max_slots) _ (write-makes (deviations_in file (size_in file)) (correlations_in file (size_in file)) L room)
