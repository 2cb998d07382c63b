-- What it tells that a pack was read: its numbers stand at the front of the lent memory, and its lines are few.
-- Assumes nothing.
use mathlib.Core.Path.{◌≡◌, refl, sym, ap, ◌∙◌}
use mathlib.Core.Bool.{Bool, true, false, ◌||◌}
use mathlib.Core.List.{List}
use mathlib.Core.Logic.{by_cases}
use Prim.Native.Nat.{ℕ, ◌≤◌, ◌<◌}
use native.Mathlib.Decide.{dec_lt}
use native.Mathlib.Omega.{arith}
use borrow.Author.Tests.{eqb-true, ltb-false}
use lib.Dec.{eqb, ltb}
use lib.ListN.{length, take, drop, get_or, get_or-eq_default}
use lib.Seq.{take_at}
use Rattle.std.specs.Prelude.{Err, Ok, Result, None}
use Rattle.answers.specs.Lent.{tab, leaves}
use Rattle.answers.specs.Listed.{listed, written}
use Rattle.answers.specs.Table.{Answer}
use Rattle.answers.specs.declared.Refusal.{Refusal}
use Rattle.answers.proofs.Lent.{length-tab, get_or-tab}
use Rattle.answers.proofs.OneToOne.{refused-not-done}
use Rattle.answers.proofs.Rules.{picked}
use Rattle.layout.specs.Header.{said_size}
use Rattle.layout.specs.Size.{peeked, fit_rules}
use Rattle.layout.specs.Triangle.{slots_of}
use Rattle.layout.specs.declared.pack.SdccFlp.{SdccFlp}
use Rattle.elements.specs.Elements.{head_of, deviation_count, deviations as deviations_of, correlations as correlations_of, states as states_of, codes_at}
use Rattle.elements.proofs.States.{state-most}
use Rattle.reader.specs.Listed.{pack_answer, read_listed}
use Rattle.reader.specs.Rules.{done, read_answer}
use Rattle.rules.proofs.Held.{count-le}
use Rattle.reader.proofs.Peeked.{read_done, read-rooms, read_fits}
use Rattle.reader.proofs.Whole.{Meets}
use Rattle.lines.specs.Lines.{refused_line}
use Rattle.lines.specs.Printed.{print_answer}
use Rattle.lines.proofs.Printed.{print-within}
use Rattle.report.specs.Lines.{Held, held_lines}
use Rattle.report.specs.Answer.{answer_lines, answered, Left}
use Rattle.report.specs.Printed.{max_bytes, max_rows, max_slots, room, is_large, is_too_big, read_lines, printed}
use Rattle.report.proofs.Fits.{most_length, pack-length, few-read, line-length}

-- a state has one digit, and is 0 past the last slot
one-digit : (f : ℕ → ℕ) → ((j : ℕ) → f j ≤ 4) → (n k : ℕ) → get_or (tab n f) k 0 < 10
one-digit f most n k =
    by_cases (dec_lt k n) (λ h. rw (get_or-tab n f k h) (omega (arith, most k)))
    (λ h. rw (get_or-eq_default (tab n f) 0 {n = k} (rw (length-tab n f) (omega arith))) (omega arith))

-- ---- how long the lines of an answer are, where a pack whose size fits has so many rows at most
pub answer-length : (most : ℕ) → most ≤ 1000 → (bytes : List ℕ) → ((fit_rules bytes).number ≡ 0 → said_size bytes ≤ most)
    → (d c s : ℕ) → length (answer_lines bytes (read_answer bytes d c s)) ≤ most_length most
answer-length most few bytes rows d c s =
    let h = head_of bytes in
    picked (λ (t : List ℕ). length t ≤ most_length most) (eqb (read_answer bytes d c s).number 0) _ _
    (λ t. let z = eqb-true (read_answer bytes d c s).number 0 t in
    pack-length most few (said_size bytes) (deviations_of bytes h) (correlations_of bytes h) (states_of bytes h) (rows (read_fits None bytes d c s z))
    (rw length-tab (count-le h)) (one-digit _ (state-most bytes h.body (codes_at h) h.control) (slots_of (said_size bytes))))
    (λ _. line-length most (read_answer bytes d c s) (few-read bytes d c s))

-- ---- what stands at the front of lent memory after an answer that is done
pub left-front : (front lent : List ℕ) (a : Answer) {l : List ℕ} {k : ℕ} → a.number ≡ 0 → l ≡ leaves a front lent → k ≡ length front → take k l ≡ front
left-front front lent a z e q = rw (e, z, q) (take_at front (drop (length front) lent) (length front) refl)

-- the numbers that it carries
pack-is : (bytes : List ℕ) (p : SdccFlp) → pack_answer p ≡ done (head_of bytes)
    → (p.matrix_size ≡ said_size bytes) × (p.deviations ≡ deviation_count (head_of bytes)) × (p.slots ≡ slots_of (said_size bytes))
pack-is bytes p e = let c = ap (λ (a : Answer). a.carries) e in ((cc), (cc), (cc))

-- ---- the reader's contract, where it was lent the rooms a, b, c
pub record Lent (bytes a b c : List ℕ) (r : Result SdccFlp Refusal) (ds cs ss : List ℕ) : Type 0 where
  pub meets : Meets None bytes a b c r ds cs ss

module _ {bytes a b c : List ℕ} {r : Result SdccFlp Refusal} {ds cs ss : List ℕ} (m : Lent bytes a b c r ds cs ss) where
  answer-is : read_listed r ≡ answered bytes a b c
  answer-is = m.meets.0

  -- what is left of the rooms, by that answer
  pub left : Left bytes a b c ds cs ss
  left =
      record {
        deviations = rw answer-is at m.meets.1;
        correlations = rw answer-is at m.meets.2;
        states = rw answer-is at m.meets.3;
      }

  -- a refusal is printed as such
  pub refused-lines : {f : Refusal} → r ≡ Err f → refused_line (listed f) ≡ answer_lines bytes (answered bytes a b c)
  refused-lines {f} e = sym (ap (answer_lines bytes) (sym answer-is ∙ ap read_listed e) ∙ rw (refused-not-done f))

  module _ {p : SdccFlp} (e : r ≡ Ok p) where
    -- a pack that was read
    read-zero : (answered bytes a b c).number ≡ 0
    read-zero = sym (ap (λ (x : Answer). x.number) (sym (ap read_listed e) ∙ answer-is))

    read-pack : (p.matrix_size ≡ said_size bytes) × (p.deviations ≡ deviation_count (head_of bytes)) × (p.slots ≡ slots_of (said_size bytes))
    read-pack = pack-is bytes p (sym (ap read_listed e) ∙ answer-is ∙ read_done None bytes (length a) (length b) (length c) read-zero)

    listed-zero : (read_listed r).number ≡ 0
    listed-zero = ap (λ (x : Answer). x.number) answer-is ∙ read-zero

    -- the parts that are lent on hold the numbers of the definitions
    deviations-are : take p.deviations ds ≡ deviations_of bytes (head_of bytes)
    deviations-are =
        left-front (deviations_of bytes (head_of bytes)) a (read_listed r) listed-zero m.meets.1
        (read-pack.1 ∙ sym (length-tab (deviation_count (head_of bytes)) _))

    correlations-are : take p.slots cs ≡ correlations_of bytes (head_of bytes)
    correlations-are =
        left-front (correlations_of bytes (head_of bytes)) b (read_listed r) listed-zero m.meets.2
        (read-pack.2 ∙ sym (length-tab (slots_of (said_size bytes)) _))

    states-are : take p.slots ss ≡ states_of bytes (head_of bytes)
    states-are =
        left-front (states_of bytes (head_of bytes)) c (read_listed r) listed-zero m.meets.3
        (read-pack.2 ∙ sym (length-tab (slots_of (said_size bytes)) _))

    -- the rooms hold them
    pub held : length ds ≡ length a → length cs ≡ length b → length ss ≡ length c → Held p ds cs ss
    held x y z =
        let w = read-rooms None bytes (length a) (length b) (length c) read-zero in
        let s = read-pack.2 in
        (rw read-pack.0 (sym s), omega (arith, read-pack.1, w.deviations), omega (arith, s, w.correlations), omega (arith, s, w.states))

    -- and their lines are what is to be printed
    pub pack-lines : held_lines p ds cs ss ≡ answer_lines bytes (answered bytes a b c)
    pack-lines = rw (read-pack.0, deviations-are, correlations-are, states-are, read-zero)

-- ---- the program's own bounds
-- the slots of the most rows
pub most-slots : slots_of max_rows ≡ max_slots
unfolding slots_of
most-slots = refl

-- what is put where rooms for so many are lent
pub read-lines : (bytes a b c : List ℕ) → max_rows ≡ length a → max_slots ≡ length b → max_slots ≡ length c → answer_lines bytes (answered bytes a b c) ≡ read_lines bytes
read-lines bytes a b c d s p = rw (← d, ← s, ← p)

-- the second of two tests that both fail
second : (a b : Bool) → (a || b) ≡ false → b ≡ false
second true b e = let z : ◌≡◌ {A = ℕ} 0 1 = cc in absurd (omega arith)
second false b e = e

-- peek gives the rows of a pack whose size fits
pub small-rows : (bytes : List ℕ) → is_too_big bytes ≡ false → (fit_rules bytes).number ≡ 0 → said_size bytes ≤ max_rows
small-rows bytes ok f = ltb-false max_rows (said_size bytes) (rw f at (second (ltb max_bytes (length bytes)) (is_large (peeked bytes)) ok))

-- whatever is printed fits
pub printed-fits : (bytes : List ℕ) → length (printed bytes) ≤ room
unfolding printed
printed-fits bytes =
    picked (λ (t : List ℕ). length t ≤ room) (is_too_big bytes) _ _ (λ _. omega arith)
    (λ f. omega (arith, most-slots, answer-length max_rows (omega arith) bytes (small-rows bytes f) max_rows max_slots max_slots))

-- the length that is answered is within the room
pub done-within : (bytes : List ℕ) (got : ℕ) {k : ℕ} → written (Ok k) ≡ print_answer room (printed bytes) got → k ≤ room
done-within bytes got = print-within room (printed bytes) got (printed-fits bytes)
