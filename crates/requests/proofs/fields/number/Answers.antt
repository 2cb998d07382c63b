-- `fields::number` meets its contract, by the letter.
use mathlib.Core.Path.{◌≡◌}
use mathlib.Core.Bool.{false, ◌&&◌, ◌||◌}
use mathlib.Core.Logic.{◌⊎◌, inl, inr, ⊎_elim}
use Prim.Native.Nat.{ℕ, ◌<◌}
use native.Mathlib.Omega.{arith}
use lib.Dec.{eqb, leb}
use borrow.Author.Tests.{ne_eqb, le-leb, lt-leb}
use Rattle.requests.specs.Fields.{number_at}
use Rattle.requests.proofs.Letters.{one_of_two}
use Rattle.requests.proofs.fields.number.Goals as goal
use Rattle.requests.proofs.fields.number.Goals.{in_default-via-then-letter-lt65, in_default-via-else-letter-lt65+else-letter-lt87+else-letter-lt90}

-- a letter that is neither `X` or `Y` nor in decimal
no_number : (l : ℕ) → (l < 0x41) ⊎ (0x59 < l) → (eqb l 0x58 || eqb l 0x59 ≡ false) × (leb 0x41 l && leb l 0x56 ≡ false)
no_number l (inl h) = (rw (ne_eqb l 0x58 (omega arith), ne_eqb l 0x59 (omega arith)), rw (lt-leb 0x41 l h))
no_number l (inr h) =
    (rw (ne_eqb l 0x58 (omega arith), ne_eqb l 0x59 (omega arith)), rw (le-leb 0x41 l (omega arith), lt-leb l 0x56 (omega arith)))

pub returns-in-87 : goal.returns-in-87
unfolding number_at
returns-in-87 c = rw c.in-87.is c.hex.ensures

pub returns-in-46 : goal.returns-in-46
unfolding number_at
returns-in-46 c = rw c.in-46.is c.at_end.ensures

pub returns-in-44 : goal.returns-in-44
unfolding number_at
returns-in-44 c = rw c.in-44.is

pub returns-in-65-to-86 : goal.returns-in-65-to-86
unfolding number_at
returns-in-65-to-86 c =
    let l = c.args.letter in
    rw (
      ne_eqb l 0x57 (omega arith),
      ne_eqb l 0x58 (omega arith),
      ne_eqb l 0x59 (omega arith),
      le-leb 0x41 l (omega arith),
      le-leb l 0x56 (omega arith),
      ← c.most.ensures,
    )
    c.decimal_up_to.ensures

pub returns-in-88 : goal.returns-in-88
unfolding number_at
returns-in-88 c =
    let l = c.args.letter in
    let h = c.hex-in-88.ensures in
    ⊎_elim (λ e. rw e h) (λ e. rw e h) (one_of_two 0x58 l (omega arith) (omega arith))

pub returns-in_default : goal.returns-in_default
unfolding number_at
returns-in_default c =
    let l = c.args.letter in
    let n : (l < 0x41) ⊎ (0x59 < l) = elim c.in_default.branch [
      | in_default-via-then-letter-lt65 w ↦ inl (omega arith)
      | in_default-via-else-letter-lt65+else-letter-lt87+else-letter-lt90 w ↦ inr (omega arith)
    ] in
    let m = no_number l n in
    rw (ne_eqb l 0x57 (λ e. omega arith), m.0, m.1, ne_eqb l 0x2e (λ e. omega arith), ne_eqb l 0x2c (λ e. omega arith))
    c.literal.ensures
