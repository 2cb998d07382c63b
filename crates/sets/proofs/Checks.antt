-- The rules of an item that was read, one after the other.
-- Assumes nothing.
use mathlib.Core.Path.{◌≡◌, refl}
use mathlib.Core.Bool.{true, false, and-false}
use mathlib.Core.List.{List, [], ◌∷◌}
use Prim.Native.Nat.{ℕ, ◌+◌, ◌<◌}
use native.Mathlib.Numerals.{add-one}
use native.Mathlib.Omega.{arith}
use lib.Dec.{leb}
use borrow.Author.Tests.{ne_eqb, le-leb, lt-leb}
use Rattle.std.specs.Prelude.{None, Some, Option}
use Rattle.answers.specs.Table.{Answer, answer, wholes, passes, next}
use Rattle.layout.specs.Size.{peeked}
use Rattle.sets.specs.Tags.{pack_tag, is_pushed}
use Rattle.sets.specs.Parts.{part_of}
use Rattle.sets.specs.Rules.{peek_rule, pack_rule, room_rule}

-- a pack needs no room
unpushed : (room seen : ℕ) → room_rule room seen pack_tag ≡ passes
unpushed room seen = rw (and-false (leb room seen))

peek-alone : (r : Option ℕ) → peek_rule r ≡ next (peek_rule r) passes
peek-alone (Some n) = refl
peek-alone None = refl

module _ (set : List ℕ) (tag start end room seen : ℕ) where
  abbrev Rules : Answer
  Rules = next (pack_rule set tag start end) (room_rule room seen tag)

  pub checks-pack : tag ≡ pack_tag → peek_rule (peeked (part_of start end set)) ≡ Rules
  checks-pack e = rw (e, unpushed) (peek-alone (peeked (part_of start end set)))

  module _ (other : tag ≡ pack_tag → ⊥) where
    pub checks-room : seen < room → passes ≡ Rules
    checks-room h = rw (ne_eqb tag pack_tag other, lt-leb room seen h)

    pub checks-full : seen ≡ room → is_pushed tag ≡ true → answer 5 (wholes ((seen + 1) ∷ room ∷ [])) ≡ Rules
    checks-full e p = rw (p, ne_eqb tag pack_tag other, e, le-leb room room (omega arith), add-one)

    pub checks-skip : is_pushed tag ≡ false → passes ≡ Rules
    checks-skip p = rw (p, ne_eqb tag pack_tag other, and-false (leb room seen))
