-- What a reader gives, of a pack or of a file: its numbers stand at the front of the rooms that it was lent.
-- Assumes nothing.
use mathlib.Core.Path.{◌≡◌, sym, ap, ◌∙◌}
use mathlib.Core.List.{List, [], ◌∷◌}
use Prim.Native.Nat.{ℕ, ◌≤◌}
use native.Mathlib.Omega.{arith}
use lib.ListN.{length, take, length-take}
use Rattle.std.specs.Prelude.{Err, Ok, Result}
use Rattle.answers.specs.declared.Refusal.{Refusal}
use Rattle.answers.specs.Table.{Answer, answer, wholes, next}
use Rattle.answers.specs.Listed.{listed}
use Rattle.answers.specs.Lent.{leaves}
use Rattle.answers.proofs.Lent.{refused-leaves}
use Rattle.answers.proofs.Next.{next-passed}
use Rattle.answers.proofs.OneToOne.{refused-not-done}
use Rattle.layout.specs.declared.pack.SdccFlp.{SdccFlp}
use Rattle.reader.specs.Listed.{read_listed}
use Rattle.report.proofs.Done.{left-front}

-- the answer a, which carries N and the two counts where it is done, with ds over ds₀ and cs over cs₀
pub record Given (a : Answer) (n : ℕ) (ds cs ds₀ cs₀ : List ℕ) (r : Result SdccFlp Refusal) (ds' cs' : List ℕ) : Type 0 where
  pub answers : read_listed r ≡ a
  pub done : a.number ≡ 0 → a ≡ answer 0 (wholes (n ∷ length ds ∷ length cs ∷ []))
  pub deviations : ds' ≡ leaves (read_listed r) ds ds₀
  pub correlations : cs' ≡ leaves (read_listed r) cs cs₀

module _ {a : Answer} {n : ℕ} {ds cs ds₀ cs₀ : List ℕ} {r : Result SdccFlp Refusal} {ds' cs' : List ℕ} (g : Given a n ds cs ds₀ cs₀ r ds' cs') where
  -- a refusal ends the order, and leaves what is lent as it was
  pub stays : {f : Refusal} → r ≡ Err f → (b : Answer) (made l : List ℕ) → (listed f ≡ next a b) × (l ≡ leaves (listed f) made l)
  stays {f} e b made l =
      let q : listed f ≡ a = rw e at g.answers in
      (rw (← q, refused-not-done f), sym (refused-leaves f made l))

  module _ {p : SdccFlp} (e : r ≡ Ok p) where
    zero : a.number ≡ 0
    zero = sym (ap (λ (x : Answer). x.number) (rw e at g.answers))

    pub goes : (b : Answer) → next a b ≡ b
    goes b = next-passed a b zero

    counts : (p.matrix_size ≡ n) × (p.deviations ≡ length ds) × (p.slots ≡ length cs)
    counts = let c = ap (λ (x : Answer). x.carries) (rw e at g.answers ∙ g.done zero) in ((cc), (cc), (cc))

    pub size : p.matrix_size ≡ n
    size = counts.0

    listed-zero : (read_listed r).number ≡ 0
    listed-zero = ap (λ (x : Answer). x.number) g.answers ∙ zero

    pub deviations-are : take p.deviations ds' ≡ ds
    deviations-are = left-front ds ds₀ (read_listed r) listed-zero g.deviations counts.1

    pub correlations-are : take p.slots cs' ≡ cs
    correlations-are = left-front cs cs₀ (read_listed r) listed-zero g.correlations counts.2

    pub deviations-held : p.deviations ≤ length ds'
    deviations-held = omega (arith, length-take p.deviations ds', ap length deviations-are, counts.1)

    pub correlations-held : p.slots ≤ length cs'
    correlations-held = omega (arith, length-take p.slots cs', ap length correlations-are, counts.2)
