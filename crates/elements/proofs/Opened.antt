-- Opening a pack: what its header tells, and what each refusal comes to.
-- Assumes nothing.
use mathlib.Core.Path.{◌≡◌, refl, ap}
use mathlib.Core.List.{List}
use Prim.Native.Nat.{ℕ, ◌+◌, ◌-◌, ◌≤◌}
use native.Mathlib.Omega.{arith}
use lib.ListN.{length}
use Rattle.std.specs.Prelude.{Err}
use Rattle.answers.specs.Table.{Answer, short}
use Rattle.answers.proofs.Next.{next-zero}
use Rattle.answers.proofs.Rules.{picked}
use Rattle.layout.specs.declared.control.ParseControl.{ParseControl}
use Rattle.layout.specs.declared.header.HeaderError.TheVariants.{Unreadable, Short}
use Rattle.layout.specs.declared.rule.Rule.{Rule}
use Rattle.layout.specs.declared.rule.Rule.TheVariants.{A, B}
use Rattle.layout.specs.Ruled.{Ruled, passed, refused_by, unnamed}
use Rattle.layout.specs.Header.{headed, said_size, control_of, body_at, header_of, head_rules}
use Rattle.layout.specs.Size.{size_rules, fit_rules, fit_ruled}
use Rattle.layout.specs.Triangle.{slots_of, bit_bytes}
use Rattle.layout.proofs.Fits.{fits-tells}
use Rattle.layout.proofs.Peek.{fit-answers, head-tells, opened}
use Rattle.layout.specs.declared.header.Head.{Head}
use Rattle.elements.specs.declared.head.Places.{Places}
use Rattle.elements.specs.Elements.{head_of, places_of}
use Rattle.elements.specs.Held.{Within, Placed}
use Rattle.elements.specs.Listed.{pack, refused, verdict}

-- ---- a header that was not read
pub unreadable-refused : (bytes : List ℕ) → Err Unreadable ≡ header_of bytes → refused A (short 0 0) ≡ verdict bytes (fit_ruled bytes)
unreadable-refused bytes e = rw (← e)

pub short-refused : (bytes : List ℕ) → Err Short ≡ header_of bytes → refused B (short 1 0) ≡ verdict bytes (fit_ruled bytes)
short-refused bytes e = rw (← e)

-- ---- a header that was read
module _ (bytes : List ℕ) {n : ℕ} {k : ParseControl} {b : ℕ} (o : headed n k b ≡ header_of bytes) where
  abbrev pub head : Head
  head = record { n = n; control = k; body = b }

  pub head-is : head ≡ head_of bytes
  head-is = let p = opened bytes o in λ i. record { n = p.size i; control = p.control i; body = p.body i }

-- ---- what rules a) to g) tell of the elements
pub fit-within : (bytes : List ℕ) → (fit_rules bytes).number ≡ 0 → Within bytes (head_of bytes)
fit-within bytes z =
    let n = said_size bytes in
    let k = control_of bytes in
    let p = next-zero (head_rules bytes) (size_rules n (length bytes - body_at bytes) k) (rw (fit-answers bytes) at z) in
    let f = fits-tells n (length bytes - body_at bytes) k p.1 in
    let w = (head-tells bytes).done p.0 in
    record {
      rows = f.rows;
      vector =
          picked (λ (m : ℕ). body_at bytes + m ≤ length bytes) k.cs (bit_bytes (slots_of n)) 0
          (λ t. omega (arith, f.bits t, w)) (λ _. omega (arith, w));
    }

-- none of them refuses
pub passed-fits : (bytes : List ℕ) → fit_ruled bytes ≡ passed → (fit_rules bytes).number ≡ 0
passed-fits bytes e = ap (λ (u : Ruled). (unnamed u).number) e

-- ---- what a verdict tells of the rules
module _ (bytes : List ℕ) where
  pub pack-tells : (u : Ruled) {p : Places} → pack p ≡ verdict bytes u → (u ≡ passed) × (p ≡ places_of (head_of bytes))
  pack-tells passed e = (refl, (cc))
  pack-tells (refused_by x a) e = let z : ◌≡◌ {A = ℕ} 0 1 = cc in absurd (omega arith)

  pub refused-tells : (u : Ruled) {x : Rule} {a : Answer} → refused x a ≡ verdict bytes u → u ≡ refused_by x a
  refused-tells passed e = let z : ◌≡◌ {A = ℕ} 0 1 = cc in absurd (omega arith)
  refused-tells (refused_by y b) e = cc

  -- the places of a pack that was opened, whose rules a) to g) pass
  module _ {p : Places} (o : pack p ≡ verdict bytes (fit_ruled bytes)) where
    pub opened-fits : (fit_rules bytes).number ≡ 0
    opened-fits = passed-fits bytes (pack-tells (fit_ruled bytes) o).0

    pub opened-placed : Placed bytes p
    opened-placed = rw (pack-tells (fit_ruled bytes) o).1 (record { within = fit-within bytes opened-fits; is = refl })
