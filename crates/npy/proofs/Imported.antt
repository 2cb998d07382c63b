-- What import answers and leaves: a refusal leaves all as it was, and what passes is stored.
-- Assumes nothing.
use mathlib.Core.Path.{◌≡◌, sym}
use mathlib.Core.List.{List, [], ◌∷◌}
use Prim.Native.Nat.{ℕ, ◌≤◌}
use native.Mathlib.Omega.{arith}
use lib.ListN.{length}
use Rattle.answers.specs.declared.Refusal.{Refusal}
use Rattle.answers.specs.Table.{Answer, answer, wholes}
use Rattle.answers.specs.Listed.{listed}
use Rattle.answers.specs.Lent.{over}
use Rattle.answers.proofs.Lent.{refused-leaves}
use Rattle.answers.proofs.Next.{next-zero}
use Rattle.answers.proofs.OneToOne.{refused-not-done}
use Rattle.layout.specs.Size.{max_rows}
use Rattle.layout.specs.Triangle.{slots_of}
use Rattle.rules.specs.Rules.{rooms_rule}
use Rattle.rules.proofs.Held.{Rooms, rooms-for}
use Rattle.npy_header.specs.Header.{size_in}
use Rattle.npy_export.specs.File.{file_length}
use Rattle.npy.specs.Matrix.{deviations_in, correlations_in, states_in}
use Rattle.npy.specs.Rules.{file_rules, import_rules, import_answer}
use Rattle.npy.specs.Left.{left_deviations, left_correlations, left_states}
use Rattle.npy.proofs.Held.{file-held}

module _ (file ds cs ss : List ℕ) where
  abbrev rules : Answer
  rules = import_rules file (length ds) (length cs) (length ss)

  abbrev pub Imported : Answer → List ℕ → List ℕ → List ℕ → Type 0
  Imported a ds' cs' ss' =
      (a ≡ import_answer file (length ds) (length cs) (length ss)) × (ds' ≡ left_deviations a file ds)
      × (cs' ≡ left_correlations a file cs) × (ss' ≡ left_states a file ss)

  pub kept : (r : Refusal) → listed r ≡ rules → Imported (listed r) ds cs ss
  kept r e = (
    rw (← e, refused-not-done r),
    sym (refused-leaves r (deviations_in file (size_in file)) ds),
    sym (refused-leaves r (correlations_in file (size_in file)) cs),
    sym (refused-leaves r (states_in file (size_in file)) ss),
  )

  module _ {n : ℕ} (size : n ≡ size_in file) (e : rules.number ≡ 0) where
    -- the file is whole, and its numbers have room
    pub record Ready : Type 0 where
      pub few : n ≤ max_rows
      pub whole : file_length n ≤ length file
      pub rooms : Rooms n (slots_of n) (length ds) (length cs) (length ss)

    pub ready : Ready
    ready =
        let p = next-zero (file_rules file) (rooms_rule (size_in file) (slots_of (size_in file)) (length ds) (length cs) (length ss)) e in
        let h = file-held file p.0 in
        record {
          few = rw size h.few;
          whole = rw size (omega (arith, h.whole));
          rooms = rw size (rooms-for (size_in file) (slots_of (size_in file)) (length ds) (length cs) (length ss) p.1);
        }

    pub stored : {m : ℕ} → m ≡ slots_of n → {ds' cs' ss' : List ℕ} → ds' ≡ over (deviations_in file n) ds
        → cs' ≡ over (correlations_in file n) cs → ss' ≡ over (states_in file n) ss
        → Imported (answer 0 (wholes (n ∷ n ∷ m ∷ []))) ds' cs' ss'
    stored s a b c = (rw (e, s, size), rw size at a, rw size at b, rw size at c)
