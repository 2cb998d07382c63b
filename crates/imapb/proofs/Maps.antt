-- A mapping is known by its length.
-- Assumes nothing.
use mathlib.Core.HLevel.{is_prop→PathP}
use mathlib.Core.Path.{◌≡◌, sym, ap}
use mathlib.Core.Bool.{Bool, true, false}
use Prim.Native.Nat.{ℕ, ◌≤◌}
use lib.Dec.{T}
use lib.Ieee.{Float}
use native.Mathlib.Omega.{arith}
use Rattle.std.specs.Prelude.{None, Some}
use Rattle.std.proofs.Common.{true≢false}
use Rattle.std.proofs.Props.{props}
use Rattle.imapb.specs.declared.code_length.Mapping.{Mapping}
use Rattle.imapb.specs.Mapping.{scale_of, top_of}
use Rattle.imapb.specs.Tables.{supported, mapping_of, mapping_if, imapb_mapping}
use Rattle.imapb.proofs.Length.{is-supported}

same : (m : Mapping) (p : 1 ≤ m.length) (q : m.length ≤ 8) → mapping_of m.length p q ≡ m
same m p q =
    let le : (a b : ℕ) → IsProp (a ≤ b) = λ a b. hlevel props in
    let number : (x : ℕ) → IsProp (x ≡ top_of m.length) = λ x. hlevel props in
    let float : (x : Float) → IsProp (x ≡ scale_of m.length) = λ x. hlevel props in
    λ i. record {
      length = m.length;
      scale = sym m.scale_is i;
      top = sym m.top_is i;
      least = le 1 m.length p m.least i;
      most = le m.length 8 q m.most i;
      scale_is = is_prop→PathP (λ j. sym m.scale_is j ≡ scale_of m.length) (λ j. float (sym m.scale_is j)) (λ _. scale_of m.length) m.scale_is i;
      top_is = is_prop→PathP (λ j. sym m.top_is j ≡ top_of m.length) (λ j. number (sym m.top_is j)) (λ _. top_of m.length) m.top_is i;
    }

where-true : {m : Mapping} (b : Bool) (f : T b → Mapping) → T b → ((t : T b) → f t ≡ m) → Some m ≡ mapping_if b f
where-true true f t s = ap Some (sym (s tt))
where-true false f t s = absurd t

pub mapping-is : (m : Mapping) {L : ℕ} → m.length ≡ L → Some m ≡ imapb_mapping L
mapping-is m e = rw (← e) (where-true (supported m.length) _ (rw (is-supported m.length m.least m.most) tt) (λ t. same m _ _))

-- and one that is there is of its length
tells : {m : Mapping} (b : Bool) (f : T b → Mapping) → mapping_if b f ≡ Some m → (t : T b) × (f t ≡ m)
tells true f e = (tt, (cc))
tells false f e = absurd (let z : ◌≡◌ {A = ℕ} 0 1 = cc in omega arith)

pub mapping-tells : (L : ℕ) {m : Mapping} → imapb_mapping L ≡ Some m → m.length ≡ L
mapping-tells L e = sym (ap (λ (x : Mapping). x.length) (tells (supported L) _ e).1)

-- none of a length that has codes is missing
there : (b : Bool) (f : T b → Mapping) → b ≡ true → mapping_if b f ≡ None → ⊥
there true f t e = let z : ◌≡◌ {A = ℕ} 0 1 = cc in omega arith
there false f t e = true≢false (sym t)

pub mapping-there : (L : ℕ) → supported L ≡ true → imapb_mapping L ≡ None → ⊥
mapping-there L s e = there (supported L) _ s e
