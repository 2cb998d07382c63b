-- How long the lines of the reader's answer are at most.
-- Assumes nothing.
use mathlib.Core.Path.{sym, ap, ◌∙◌}
use mathlib.Core.Bool.{Bool}
use mathlib.Core.List.{List, ◌++◌}
use Prim.Native.Nat.{ℕ, zero, suc, ◌+◌, ◌-◌, ◌*◌, ◌≤◌, ◌<◌}
use native.Mathlib.Numerals.{add-one}
use native.Mathlib.Omega.{arith}
use lib.Dec.{T, leb, leb→le}
use lib.ListN.{length, get_or, length-append}
use Rattle.std.specs.Prelude.{Result, Ok, Err, None}
use Rattle.answers.specs.Lent.{joined}
use Rattle.answers.specs.Table.{Entry, Answer, answer, pick}
use Rattle.answers.proofs.Joined.{joined-le}
use Rattle.answers.proofs.Rules.{picked}
use Rattle.layout.specs.declared.header.Head.{Head}
use Rattle.layout.specs.declared.header.HeaderError.{HeaderError}
use Rattle.layout.specs.declared.header.HeaderError.TheVariants.{Unreadable, Short}
use Rattle.layout.specs.Header.{header_refusal}
use Rattle.layout.specs.Triangle.{slots_of, slot_of}
use Rattle.layout.proofs.Peek.{fit-answers, size-answers}
use Rattle.layout.proofs.RowByRow.{row_next, row_within, slots-mono}
use Rattle.elements.specs.Elements.{head_of}
use Rattle.reader.specs.Rules.{read_answer}
use Rattle.rules.specs.Rules.{in_turn}
use Rattle.rules.proofs.Named.{element-answers}
use Rattle.lines.specs.Lines.{refused_text, refused_line, n_line, s_line, c_line, deviation_lines}
use Rattle.lines.proofs.Fits.{Few, refused-length}
use Rattle.report.specs.Lines.{row_lines, slot_lines, pack_lines}
use Rattle.text.proofs.Figures.{length-decimal, longest-decimal, length-hex}

-- ---- the lines of a pack whose rows have three digits at most
n-length : (n d m : ℕ) → length (n_line n d m) ≤ 82
n-length n d m = simp length-append (omega (arith, longest-decimal n, longest-decimal d, longest-decimal m))

s-length : (i b : ℕ) → i < 1000 → length (s_line i b) ≤ 23
s-length i b h = simp length-append (omega (arith, length-decimal 2 i h, length-hex b))

c-length : (i j p b : ℕ) → i < 1000 → j < 1000 → p < 10 → length (c_line i j p b) ≤ 29
c-length i j p b h k l = simp length-append (omega (arith, length-decimal 2 i h, length-decimal 2 j k, length-decimal 0 p l, length-hex b))

deviations-length : (ds : List ℕ) → length ds ≤ 1000 → length (deviation_lines ds) ≤ length ds * 23
deviations-length ds h = joined-le (λ i. s_line i (get_or ds i 0)) 23 (length ds) (λ k l. s-length k (get_or ds k 0) (omega arith))

-- row by row
module _ (n : ℕ) (cs ss : List ℕ) (few : n ≤ 1000) (digits : (k : ℕ) → get_or ss k 0 < 10) where
  row-length : (i : ℕ) → i < n → length (row_lines n cs ss i) ≤ (n - 1 - i) * 29
  row-length i h =
      joined-le _ 29 (n - 1 - i)
      (λ k l. c-length i (i + 1 + k) (get_or ss (slot_of n i (i + 1 + k)) 0) (get_or cs (slot_of n i (i + 1 + k)) 0) (omega arith) (omega arith) (digits _))

  rows-length : (i : ℕ) → i ≤ n → length (joined i (row_lines n cs ss)) ≤ slot_of n i (i + 1) * 29
  rows-length zero h = omega arith
  rows-length (suc i) h =
      let e = ap (λ (x : ℕ). slot_of n x (x + 1)) (sym (add-one i)) ∙ row_next n i h in
      rw length-append (omega (arith, rows-length i (omega arith), row-length i h, e))

  slots_length : length (slot_lines n cs ss) ≤ slots_of n * 29
  slots_length = omega (arith, rows-length n (omega arith), row_within n n (omega arith))

-- the most that the lines of an answer take, where a pack that is read has so many rows at most
abbrev pub most_length : ℕ → ℕ
most_length rows = 92 + rows * 23 + slots_of rows * 29

module _ (most : ℕ) (few : most ≤ 1000) where
  pub pack-length : (n : ℕ) (ds cs ss : List ℕ) → n ≤ most → length ds ≤ n → ((k : ℕ) → get_or ss k 0 < 10)
      → length (pack_lines n ds cs ss) ≤ most_length most
  pack-length n ds cs ss rows deviations digits =
      let a = n_line n (length ds) (length cs) in
      omega (
        arith,
        length-append (a ++ deviation_lines ds) (slot_lines n cs ss),
        length-append a (deviation_lines ds),
        n-length n (length ds) (length cs),
        deviations-length ds (omega arith),
        slots_length n cs ss (omega arith) digits,
        slots-mono {m = n} {n = most} rows,
      )

-- ---- a refusal
-- its line is shorter
pub line-length : (most : ℕ) (a : Answer) → Few a → length (refused_line a) ≤ most_length most
line-length most a f = rw (length-append (refused_text a)) (omega (arith, refused-length a f))

-- every rule of the reader's order has such an answer
pub few-answer : (m : ℕ) (es : List Entry) → T (leb (length es) 3) → Few (answer m es)
few-answer m es t = record { most = leb→le (length es) 3 t }

pub few-pick : (t : Bool) (a b : Answer) → Few a → Few b → Few (pick t a b)
few-pick t a b p q = picked Few t a b (λ _. p) (λ _. q)

few_head : (h : Result Head HeaderError) → Few (header_refusal h)
few_head (Err Unreadable) = few-answer _ _ tt
few_head (Err Short) = few-answer _ _ tt
few_head (Ok head) = few-answer _ _ tt

few-turns : (bytes : List ℕ) (at size : ℕ) (format : ℕ → Answer) → ((i : ℕ) → Few (format i)) → (n : ℕ) → Few (in_turn bytes at size format n)
few-turns bytes at size format f zero = record { most = omega arith }
few-turns bytes at size format f (suc n) = let q = few-turns bytes at size format f n in let p = f n in search (few-answer, few-pick)

-- and so is the reader's, whatever it is
pub few-read : (bytes : List ℕ) (ds cs ss : ℕ) → Few (read_answer bytes ds cs ss)
few-read bytes ds cs ss =
    rw (fit-answers bytes, size-answers, element-answers None bytes (head_of bytes))
    (search (few-answer, few-pick, few_head, few-turns) depth 20)
