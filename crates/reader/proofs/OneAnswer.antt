-- No second answer meets the contract of a reader: two that do are the same, with what they leave in lent memory.
-- Assumes nothing.
use mathlib.Core.Path.{◌≡◌, refl, sym, ap, ◌∙◌}
use mathlib.Core.List.{List}
use Prim.Native.Nat.{ℕ}
use Rattle.std.specs.Prelude.{Result, Option, None}
use Rattle.answers.specs.OneAnswer.{OneAnswer}
use Rattle.answers.specs.Lent.{leaves}
use Rattle.answers.specs.Table.{Answer}
use Rattle.answers.proofs.OneToOne.{listed-one, result-one, done-not-refused}
use Rattle.layout.specs.declared.pack.SdccFlp.{SdccFlp}
use Rattle.elements.specs.Elements.{head_of, correlations, states}
use Rattle.deviations.specs.declared.form.DeviationRange.{DeviationRange}
use Rattle.deviations.specs.Range.{known, deviations_over}
use Rattle.reader.specs.Listed.{pack_answer, read_listed}
use Rattle.reader.proofs.Whole.{Meets}
use Rattle.reader.proofs.read.decode_sdcc_flp.Reads as decode-sdcc-flp
use Rattle.reader.proofs.read.decode_sdcc_flp_in.Reads as decode-sdcc-flp-in
use Rattle.answers.specs.declared.Refusal.{Refusal}

-- what determines the listed answer determines the enum
pub pack_one : (p p' : SdccFlp) → pack_answer p ≡ pack_answer p' → p ≡ p'
pack_one p p' e =
    let c = ap (λ (a : Answer). a.carries) e in
    let n : p.matrix_size ≡ p'.matrix_size = cc in
    let d : p.deviations ≡ p'.deviations = cc in
    let m : p.slots ≡ p'.slots = cc in
    λ i. record { matrix_size = n i; deviations = d i; slots = m i }

read_one : (r r' : Result SdccFlp Refusal) → read_listed r ≡ read_listed r' → r ≡ r'
read_one = result-one read_listed pack_one listed-one (λ p r. done-not-refused (pack_answer p) r refl)

left_one : (front lent : List ℕ) {x y : Answer} {l m : List ℕ} → x ≡ y → l ≡ leaves x front lent → m ≡ leaves y front lent → l ≡ m
left_one front lent e p q = p ∙ ap (λ (a : Answer). leaves a front lent) e ∙ sym q

-- two answers to what has one, over the fronts of three lent lists, are one answer and leave the same
module _ (fd fc fs ds cs ss : List ℕ) where
  abbrev pub Answers : Answer → Result SdccFlp Refusal → List ℕ → List ℕ → List ℕ → Type 0
  Answers a r l m n =
      (read_listed r ≡ a) × (l ≡ leaves (read_listed r) fd ds) × (m ≡ leaves (read_listed r) fc cs) × (n ≡ leaves (read_listed r) fs ss)

  pub reads-one : {a : Answer} {r r' : Result SdccFlp Refusal} {l l' m m' n n' : List ℕ} → Answers a r l m n → Answers a r' l' m' n'
      → (r ≡ r') × (◌≡◌ {A = List ℕ × List ℕ × List ℕ} (l, m, n) (l', m', n'))
  reads-one {r = r} {r'} p q =
      let e = p.0 ∙ sym q.0 in
      let d = left_one fd ds e p.1 q.1 in
      let c = left_one fc cs e p.2 q.2 in
      let b = left_one fs ss e p.3 q.3 in
      (read_one r r' e, λ i. (d i, c i, b i))

-- of a pack's bytes, over a range or none
module _ (range : Option DeviationRange) (bytes ds cs ss : List ℕ) {r r' : Result SdccFlp Refusal} {l l' m m' n n' : List ℕ} where
  both_one : Meets range bytes ds cs ss r l m n → Meets range bytes ds cs ss r' l' m' n' → (r ≡ r') × (◌≡◌ {A = List ℕ × List ℕ × List ℕ} (l, m, n) (l', m', n'))
  both_one = reads-one (deviations_over range bytes (head_of bytes)) (correlations bytes (head_of bytes)) (states bytes (head_of bytes)) ds cs ss

pub decode-sdcc-flp-one : OneAnswer {L = List ℕ × List ℕ × List ℕ} decode-sdcc-flp.Learnt (λ κs s. (s.1.0.now, s.1.1.0.now, s.1.1.1.0.now))
decode-sdcc-flp-one κs a r r' s s' p q = both_one None a.0.now a.1.0.now a.1.1.0.now a.1.1.1.0.now p q

pub decode-sdcc-flp-in-one : OneAnswer {L = List ℕ × List ℕ × List ℕ} decode-sdcc-flp-in.Learnt (λ κs s. (s.1.1.1.0.now, s.1.1.1.1.0.now, s.1.1.1.1.1.0.now))
decode-sdcc-flp-in-one κs a r r' s s' p q =
    both_one (known a.1.0 a.1.1.0) a.0.now a.1.1.1.0.now a.1.1.1.1.0.now a.1.1.1.1.1.0.now p q
