-- What is made stands in lent memory, and goes to the stream that its answer says.
-- Assumes nothing.
use mathlib.Core.Path.{◌≡◌, sym, ap, ◌∙◌}
use mathlib.Core.List.{List, [], ◌∷◌}
use Prim.Native.Nat.{ℕ, min, ◌≤◌}
use native.Mathlib.Nat.{zero-add}
use native.Mathlib.Omega.{arith}
use lib.ListN.{length}
use Rattle.std.specs.Prelude.{Err, Ok, Result}
use Rattle.answers.specs.declared.Refusal.{Refusal}
use Rattle.answers.specs.Table.{Answer, answer, wholes}
use Rattle.answers.specs.Listed.{listed, written}
use Rattle.answers.specs.Lent.{leaves}
use Rattle.answers.proofs.Lent.{refused-leaves}
use Rattle.answers.proofs.OneToOne.{refused-not-done}
use Rattle.answers.proofs.Stored.{sets_over}
use Rattle.text.specs.Put.{Put}
use Rattle.lines.specs.Lines.{refused_line}
use Rattle.convert.specs.declared.stream.Streamed.{Streamed}
use Rattle.convert.specs.declared.stream.Streamed.TheVariants.{Output, Errors}
use Rattle.convert.specs.Stream.{Stream, output, errors, made, Streams}

-- a text that was put
pub streams-text : {text l : List ℕ} {k : ℕ} {m : List ℕ} → Put text 0 l k m → Streams (errors text) l (Errors k) m
streams-text p = record { told = rw (p.behind, zero-add); stored = p.stored }

-- so many bytes are there
pub output-within : (s : Stream) {l : List ℕ} {r : Streamed} {m : List ℕ} → Streams s l r m → {k : ℕ} → r ≡ Output k → k ≤ length l
output-within (output bytes) {l} p {k} e = let f = p.told in let q : k ≡ min (length bytes) (length l) = cc in omega arith
output-within (errors text) p e = let f = p.told in let z : ◌≡◌ {A = ℕ} 0 1 = cc in absurd (omega arith)

pub errors-within : (s : Stream) {l : List ℕ} {r : Streamed} {m : List ℕ} → Streams s l r m → {k : ℕ} → r ≡ Errors k → k ≤ length l
errors-within (output bytes) p e = let f = p.told in let z : ◌≡◌ {A = ℕ} 0 1 = cc in absurd (omega arith)
errors-within (errors text) {l} p {k} e = let f = p.told in let q : k ≡ min (length text) (length l) = cc in omega arith

-- an answer that is done carries the length of what is made, for which there is room
pub record Makes (a : Answer) (bytes : List ℕ) (room : ℕ) : Type 0 where
  pub done : a.number ≡ 0 → (a ≡ answer 0 (wholes (length bytes ∷ []))) × (length bytes ≤ room)

-- what a writer has answered and left
module _ {a : Answer} (bytes l : List ℕ) {w : Result ℕ Refusal} {l' : List ℕ} (e : written w ≡ a) (left : l' ≡ leaves (written w) bytes l) where
  pub streams-made : Makes a bytes (length l) → {k : ℕ} → w ≡ Ok k → Streams (made a bytes) l (Output k) l'
  streams-made m {k} d =
      let f : written (Ok k) ≡ a = rw d at e in
      let z : a.number ≡ 0 = sym (ap (λ (x : Answer). x.number) f) in
      let h = m.done z in
      let c = ap (λ (x : Answer). x.carries) (f ∙ h.0) in
      let q : k ≡ length bytes = cc in
      let s : min (length bytes) (length l) ≡ length bytes = omega (arith, h.1) in
      rw z record { told = rw (s, q); stored = rw d at left ∙ sym (sets_over bytes l h.1) }

  pub streams-refused : {f : Refusal} → w ≡ Err f → {r : Streamed} {m : List ℕ} → Streams (errors (refused_line (listed f))) l' r m → Streams (made a bytes) l r m
  streams-refused {f} d s =
      let q : listed f ≡ a = rw d at e in
      let same : l' ≡ l = rw d at left ∙ refused-leaves f bytes l in
      rw (← q, refused-not-done f) (rw same at s)
