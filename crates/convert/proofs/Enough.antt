-- The programs' rooms are enough: the rules that tell otherwise refuse nothing, and whatever is written fits.
-- Assumes nothing.
use mathlib.Core.Path.{◌≡◌}
use mathlib.Core.Bool.{Bool, false, not}
use mathlib.Core.List.{List, [], ◌∷◌}
use Prim.Native.Nat.{ℕ, zero, suc, ◌≤◌}
use native.Mathlib.Nat.{mul-le-mul}
use native.Mathlib.Omega.{arith}
use borrow.Author.Tests.{eqb-true, lt-ltb, le-ltb}
use lib.Dec.{T, eqb, leb, ltb}
use lib.ListN.{length, length-append}
use Rattle.std.specs.Prelude.{Result, Ok, Err, None}
use Rattle.answers.specs.Table.{Entry, Answer, answer, wholes, pick, next, each, room_rule}
use Rattle.answers.proofs.Next.{next-zero}
use Rattle.answers.proofs.Rules.{picked}
use Rattle.numbers.specs.BerOid.{oid_length}
use Rattle.imapb.specs.Tables.{range_rule}
use Rattle.layout.specs.declared.header.Head.{Head}
use Rattle.layout.specs.declared.header.HeaderError.{HeaderError}
use Rattle.layout.specs.declared.header.HeaderError.TheVariants.{Unreadable, Short}
use Rattle.layout.specs.Header.{said_size, header_refusal}
use Rattle.layout.specs.Size.{fit_rules, limit_rule}
use Rattle.layout.specs.Triangle.{slots_of}
use Rattle.layout.proofs.Peek.{fit-answers, size-answers}
use Rattle.layout.proofs.RowByRow.{few-slots}
use Rattle.elements.specs.Elements.{head_of, deviations, correlations, deviation_count}
use Rattle.elements.proofs.Opened.{fit-within}
use Rattle.rules.specs.Rules.{element_rules, pack_rules, rooms_rule, room_rules}
use Rattle.rules.proofs.Held.{count-le}
use Rattle.rules.proofs.Named.{element-answers}
use Rattle.reader.specs.Rules.{done, read_answer}
use Rattle.plan.specs.Rules.{count_rules, range_rules}
use Rattle.plan.proofs.Counts.{Counts, counts-tell}
use Rattle.writer.specs.Pack.{pack_bytes}
use Rattle.writer.specs.Rules.{write_answer}
use Rattle.writer.proofs.Lengths.{length-form, never-longer}
use Rattle.npy_header.specs.Header.{size_in}
use Rattle.npy_export.specs.File.{file_length}
use Rattle.npy.specs.Matrix.{deviations_in, correlations_in}
use Rattle.npy_export.specs.Rules.{count_rule, export_answer}
use Rattle.npy.specs.Rules.{pair_rules, file_rules, import_answer}
use Rattle.npy.proofs.Held.{file-held}
use Rattle.npy_export.proofs.Passed.{limit-tells}
use Rattle.lines.specs.Lines.{refused_text}
use Rattle.lines.proofs.Fits.{Few, refused-length}
use Rattle.report.proofs.Fits.{few-answer}
use Rattle.packs.specs.Printed.{is_too_big, max_rows, max_slots}
use Rattle.convert.specs.Stream.{Stream, bytes_of, made}
use Rattle.convert.specs.Converted.{unless_too_big, npy_answer, npy_of, pack_answer, pack_of}
use Rattle.convert.specs.Enough.{npy_room, pack_room, Enough, RoomEnough}
use Rattle.convert.proofs.Made.{Makes}
use Rattle.convert.proofs.Makes.{npy-makes, pack-makes}

-- ---- answers that tell of no room, with three numbers at most
record Fine (a : Answer) : Type 0 where
  never : a.number ≡ 5 → ⊥
  few : Few a

fine-answer : (m : ℕ) (es : List Entry) → T (not (eqb m 5)) → T (leb (length es) 3) → Fine (answer m es)
fine-answer m es p q = record { never = λ e. rw e at p; few = few-answer m es q }

fine-pick : (t : Bool) (a b : Answer) → Fine a → Fine b → Fine (pick t a b)
fine-pick t a b p q = picked Fine t a b (λ _. p) (λ _. q)

-- a rule that counts where those before it refuse nothing
fine-after : (a b : Answer) → Fine a → (a.number ≡ 0 → Fine b) → Fine (next a b)
fine-after a b p q = picked Fine (eqb a.number 0) b a (λ t. q (eqb-true a.number 0 t)) (λ _. p)

fine-each : (n : ℕ) (rule : ℕ → Answer) → ((k : ℕ) → Fine (rule k)) → Fine (each n rule)
fine-each zero rule f = fine-answer _ _ tt tt
fine-each (suc n) rule f = fine-after (each n rule) (rule n) (fine-each n rule f) (λ _. f n)

-- ---- rooms that hold what is asked for
fine-room : (needed room : ℕ) → needed ≤ room → Fine (room_rule needed room)
fine-room needed room h = rw (le-ltb room needed h) (fine-answer _ _ tt tt)

fine-rooms : (rows slots : ℕ) → rows ≤ max_rows → slots ≤ max_slots → Fine (rooms_rule rows slots max_rows max_slots max_slots)
fine-rooms rows slots h k = rw (le-ltb max_rows rows h, le-ltb max_slots slots k) (fine-answer _ _ tt tt)

-- ---- the reader
fine-head : (h : Result Head HeaderError) → Fine (header_refusal h)
fine-head (Err Unreadable) = fine-answer _ _ tt tt
fine-head (Err Short) = fine-answer _ _ tt tt
fine-head (Ok head) = fine-answer _ _ tt tt

pack-fine : (bytes : List ℕ) → Fine (pack_rules None bytes)
pack-fine bytes =
    rw (fit-answers bytes, size-answers, element-answers None bytes (head_of bytes)) (search (fine-answer, fine-pick, fine-head, fine-each) depth 20)

read-fine : (bytes : List ℕ) → Fine (read_answer bytes max_rows max_slots max_slots)
read-fine bytes =
    let h = head_of bytes in
    let n = said_size bytes in
    let rooms = room_rules h max_rows max_slots max_slots in
    fine-after (next (pack_rules None bytes) rooms) (done h)
    (fine-after (pack_rules None bytes) rooms (pack-fine bytes)
    (λ z. let few = (fit-within bytes (next-zero (fit_rules bytes) (element_rules None bytes h) z).0).rows in
    fine-rooms (deviation_count h) (slots_of n) (omega (arith, count-le h)) (few-slots n few)))
    (λ _. fine-answer _ _ tt tt)

-- ---- export
file-most : (n : ℕ) → n ≤ max_rows → file_length n ≤ npy_room
file-most n h = omega (arith, mul-le-mul {n₁ = n} {m₁ = n} {n₂ = max_rows} {m₂ = max_rows} h h)

export-fine : (n ds cs : ℕ) → Fine (export_answer n ds cs npy_room)
export-fine n ds cs =
    let room = room_rule (file_length n) npy_room in
    let slots = next (count_rule (slots_of n) cs) room in
    let rows = next (count_rule n ds) slots in
    fine-after (next (limit_rule n) rows) _
    (fine-after (limit_rule n) rows (search (fine-answer, fine-pick))
    (λ z. fine-after (count_rule n ds) slots (search (fine-answer, fine-pick))
    (λ _. fine-after (count_rule (slots_of n) cs) room (search (fine-answer, fine-pick)) (λ _. fine-room (file_length n) npy_room (file-most n ((limit-tells n).done z))))))
    (λ _. fine-answer _ _ tt tt)

-- ---- import
pairs-fine : (file : List ℕ) (n : ℕ) → Fine (pair_rules file n)
unfolding pair_rules
pairs-fine file n = search (fine-answer, fine-pick, fine-each)

file-fine : (file : List ℕ) → Fine (file_rules file)
file-fine file = search (fine-answer, fine-pick, pairs-fine) depth 10

import-fine : (file : List ℕ) → Fine (import_answer file max_rows max_slots max_slots)
import-fine file =
    let n = size_in file in
    let rooms = rooms_rule n (slots_of n) max_rows max_slots max_slots in
    fine-after (next (file_rules file) rooms) _
    (fine-after (file_rules file) rooms (file-fine file)
    (λ z. let few = (file-held file z).few in fine-rooms n (slots_of n) few (few-slots n few)))
    (λ _. fine-answer _ _ tt tt)

-- ---- the writer
range-fine : (c : ℕ) → Fine (range_rule c)
range-fine c = search (fine-answer, fine-pick) depth 10

ranges-fine : (cs : List ℕ) → Fine (range_rules cs)
ranges-fine [] = fine-answer _ _ tt tt
ranges-fine (c ∷ cs) = fine-after (range_rule c) (range_rules cs) (range-fine c) (λ _. ranges-fine cs)

oid-most : (n : ℕ) → n ≤ max_rows → oid_length n ≤ 2
oid-most n h = picked (λ (k : ℕ). k ≤ 2) (ltb n 128) 1 _ (λ _. omega arith) (λ _. rw (lt-ltb n 16384 (omega arith)) (omega arith))

-- in its full form, which is as long as any
pack-most : (ds cs : List ℕ) (L : ℕ) → Counts (length ds) (length cs) L → length (pack_bytes ds cs L) ≤ pack_room
pack-most ds cs L c =
    omega (
      arith,
      never-longer ds cs L (omega (arith, c.rows)),
      length-form ds cs L (omega (arith, c.rows)) false,
      oid-most (length ds) c.rows,
      mul-le-mul {n₁ = length cs} {m₁ = L} {n₂ = max_slots} {m₂ = 8} c.slots c.clen.1,
    )

write-fine : (ds cs : List ℕ) (L : ℕ) → Fine (write_answer ds cs L pack_room)
write-fine ds cs L =
    let long = length (pack_bytes ds cs L) in
    let room = next (room_rule long pack_room) (answer 0 (wholes (long ∷ []))) in
    let counts = count_rules (length ds) (length cs) L in
    fine-after counts (next (range_rules cs) room) (search (fine-answer, fine-pick) depth 10)
    (λ z. fine-after (range_rules cs) room (ranges-fine cs)
    (λ _. fine-after (room_rule long pack_room) _ (fine-room long pack_room (pack-most ds cs L ((counts-tell (length ds) (length cs) L).done z)))
    (λ _. fine-answer _ _ tt tt)))

-- ---- what is written
enough : (input : List ℕ) (a : Answer) (bytes : List ℕ) (room : ℕ) → 92 ≤ room → Fine a → Makes a bytes room
    → Enough a (unless_too_big input (made a bytes)) room
enough input a bytes room h f m =
    record {
      never = f.never;
      whole =
          picked (λ (s : Stream). length (bytes_of s) ≤ room) (is_too_big input) _ _ (λ _. omega arith)
          (λ _. picked (λ (s : Stream). length (bytes_of s) ≤ room) (eqb a.number 0) _ _ (λ t. (m.done (eqb-true a.number 0 t)).1)
          (λ _. rw (length-append (refused_text a)) (omega (arith, refused-length a f.few))));
    }

pub room-enough : RoomEnough
room-enough =
    record {
      npy =
          λ bytes. enough bytes (npy_answer bytes npy_room) (npy_of bytes) npy_room (omega arith)
          (fine-after (read_answer bytes max_rows max_slots max_slots) _ (read-fine bytes)
          (λ _. export-fine (said_size bytes) (length (deviations bytes (head_of bytes))) (length (correlations bytes (head_of bytes)))))
          (npy-makes bytes npy_room);
      pack =
          λ file L. enough file (pack_answer file L pack_room) (pack_of file L) pack_room (omega arith)
          (fine-after (import_answer file max_rows max_slots max_slots) _ (import-fine file)
          (λ _. write-fine (deviations_in file (size_in file)) (correlations_in file (size_in file)) L))
          (pack-makes file L pack_room);
    }
