-- `fields::field` meets its contract, by the letter.
use mathlib.Core.Path.{◌≡◌}
use mathlib.Core.Bool.{true, false}
use mathlib.Core.Logic.{◌⊎◌, inl, inr, ⊎_elim}
use Prim.Native.Nat.{ℕ}
use native.Mathlib.Omega.{arith}
use borrow.Author.Tests.{ne_eqb}
use Rattle.requests.specs.Fields.{is_string, is_list, field_at, line_after_field, words_after_field}
use Rattle.requests.proofs.Letters.{one_of_two}
use Rattle.requests.proofs.fields.field.Goals as goal
use Rattle.requests.proofs.fields.field.Goals.{In_default, In-67-2, in_default-via-then-letter-lt83, in_default-via-else-letter-lt83+else-letter-lt85, in-67-1, in_default+else-letter-lt83+then-letter-lt85}

-- a letter that is neither
neither-is : (l : ℕ) → (l ≡ 0x48 → ⊥) → (l ≡ 0x43 → ⊥) → (l ≡ 0x53 → ⊥) → (l ≡ 0x54 → ⊥)
    → (is_string l ≡ false) × (is_list l ≡ false)
neither-is l h c s t = (ne_eqb l 0x48 h, rw (ne_eqb l 0x43 c, ne_eqb l 0x53 s, ne_eqb l 0x54 t))

number : (c : In_default) → let l = c.args.letter in (is_string l ≡ false) × (is_list l ≡ false)
number c =
    let l = c.args.letter in
    elim c.in_default.branch [
      | in_default-via-then-letter-lt83 w ↦ neither-is l (λ e. omega arith) (λ e. omega arith) (λ e. omega arith) (λ e. omega arith)
      | in_default-via-else-letter-lt83+else-letter-lt85 w ↦ neither-is l (λ e. omega arith) (λ e. omega arith) (λ e. omega arith) (λ e. omega arith)
    ]

-- a letter of a list
list-is : (l : ℕ) → (l ≡ 0x43) ⊎ ((l ≡ 0x53) ⊎ (l ≡ 0x54)) → (is_string l ≡ false) × (is_list l ≡ true)
list-is l t = ⊎_elim (λ e. (rw e, rw e)) (λ t. ⊎_elim (λ e. (rw e, rw e)) (λ e. (rw e, rw e)) t) t

listed : (c : In-67-2) → let l = c.args.letter in (is_string l ≡ false) × (is_list l ≡ true)
listed c =
    let l = c.args.letter in
    elim c.in-67-1.branch [
      | in-67-1 w ↦ list-is l (inl (omega arith))
      | in_default+else-letter-lt83+then-letter-lt85 w ↦ list-is l (inr (one_of_two 0x53 l (omega arith) (omega arith)))
    ]

pub returns-in-72-clause-value : goal.returns-in-72-clause-value
unfolding field_at line_after_field words_after_field
returns-in-72-clause-value c = let e = c.in-72.is in rw e c.byte_string.ensures.value

pub returns-in-72-clause-line_after : goal.returns-in-72-clause-line_after
unfolding field_at line_after_field words_after_field
returns-in-72-clause-line_after c = let e = c.in-72.is in rw e c.byte_string.ensures.line_after

pub returns-in-72-clause-words_after : goal.returns-in-72-clause-words_after
unfolding field_at line_after_field words_after_field
returns-in-72-clause-words_after c = let e = c.in-72.is in rw e

pub returns-in_default-clause-value : goal.returns-in_default-clause-value
unfolding field_at line_after_field words_after_field
returns-in_default-clause-value c =
    let n = number (goal.at.returns-in_default-clause-value c).In_default in
    rw (n.0, n.1) c.number.ensures

pub returns-in_default-clause-line_after : goal.returns-in_default-clause-line_after
unfolding field_at line_after_field words_after_field
returns-in_default-clause-line_after c =
    let n = number (goal.at.returns-in_default-clause-line_after c).In_default in
    rw n.0

pub returns-in_default-clause-words_after : goal.returns-in_default-clause-words_after
unfolding field_at line_after_field words_after_field
returns-in_default-clause-words_after c =
    let n = number (goal.at.returns-in_default-clause-words_after c).In_default in
    rw n.1

pub returns-in-67-clause-value : goal.returns-in-67-clause-value
unfolding field_at line_after_field words_after_field
returns-in-67-clause-value c =
    let n = listed (goal.at.returns-in-67-clause-value c).In-67-2 in
    rw (n.0, n.1) c.list_of.ensures.value

pub returns-in-67-clause-line_after : goal.returns-in-67-clause-line_after
unfolding field_at line_after_field words_after_field
returns-in-67-clause-line_after c =
    let n = listed (goal.at.returns-in-67-clause-line_after c).In-67-2 in
    rw n.0

pub returns-in-67-clause-words_after : goal.returns-in-67-clause-words_after
unfolding field_at line_after_field words_after_field
returns-in-67-clause-words_after c =
    let n = listed (goal.at.returns-in-67-clause-words_after c).In-67-2 in
    rw n.1 c.list_of.ensures.words_after
