-- The size of a step is a power of two, exactly: 1 over the scale.
-- Assumes nothing.
use Rattle.std.proofs.Common.{◌≡◌, ℕ, ◌+◌, ◌-◌, ◌*◌, ◌<◌, ◌≤◌, false, List, get_or, ℤ, sym, refl, ap, ◌∙◌, zero-add, arith}
use lib.Ieee.{Float, fin, binary64, minus, div}
use Rattle.imapb.specs.Mapping.{one}
use Rattle.imapb.proofs.Table.{ruled, ruled-at}
use Rattle.ranges.specs.Range.{power_of, span_of, scale_in, step_in}
use Rattle.ranges.proofs.Spanned.{Spanned}
use Rattle.ranges.proofs.Field.{same-minus}

-- two rules that give the same list give the same at each place of it: antt computes the lists
pub same-rule : {A : Type 0} (rule answer : ℕ → A) (n : ℕ) → ruled rule n 0 ≡ ruled answer n 0 → (i : ℕ) → i < n → rule i ≡ answer i
same-rule rule answer n e i h =
    rw zero-add at (sym (ruled-at rule (rule 0) n 0 i h) ∙ ap (λ (l : List _). get_or l i (rule 0)) e ∙ ruled-at answer (rule 0) n 0 i h)

-- 1 / 2^(i - 53) is 2^(53 - i), for every scale
inverse-is : (i : ℕ) → i < 177 → div binary64 one (fin false 1 (minus i 53)) ≡ fin false 1 (minus 53 i)
unfolding div
inverse-is = same-rule (λ i. div binary64 one (fin false 1 (minus i 53))) (λ i. fin false 1 (minus 53 i)) 177 refl

pub step_is : {min max : Float} (sp : Spanned min max) {L : ℕ} (least : 1 ≤ L) (most : L ≤ 8) → step_in min max L ≡ fin false 1 (minus (power_of (span_of min max)) (8 * L + 60))
unfolding step_in scale_in
step_is {min} {max} sp {L} least most =
    let k = power_of (span_of min max) in
    let i = 8 * L + 113 - k in
    let l = sp.least in
    let m = sp.most in
    ap (λ (e : ℤ). div binary64 one (fin false 1 e)) (same-minus (8 * L + 60) k i 53 (omega arith))
    ∙ inverse-is i (omega arith)
    ∙ ap (λ (e : ℤ). fin false 1 e) (same-minus 53 i k (8 * L + 60) (omega arith))
