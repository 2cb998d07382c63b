-- What an explanation tells of the rules that it goes by.
-- Assumes nothing.
use mathlib.Core.Path.{◌≡◌, refl, ap}
use mathlib.Core.List.{List}
use Prim.Native.Nat.{ℕ}
use native.Mathlib.Omega.{arith}
use Rattle.answers.specs.Table.{Answer}
use Rattle.layout.specs.declared.rule.Rule.{Rule}
use Rattle.layout.specs.Ruled.{Ruled, passed, refused_by}
use Rattle.layout.specs.declared.header.Head.{Head}
use Rattle.elements.specs.Elements.{head_of}
use Rattle.rules.specs.Named.{pack_ruled}
use Rattle.explain.specs.declared.spans.Elements.{Elements}
use Rattle.explain.specs.Spans.{elements_of}
use Rattle.explain.specs.Explained.{accepted, refused, place_of, explained_by, explained}

module _ (bytes : List ℕ) where
  -- none refuses
  accepts : (u : Ruled) {h : Head} {e : Elements} → accepted h e ≡ explained_by bytes u
      → (u ≡ passed) × (h ≡ head_of bytes) × (e ≡ elements_of bytes)
  accepts passed q = (refl, (cc), (cc))
  accepts (refused_by x a) q = let z : ◌≡◌ {A = ℕ} 0 1 = cc in absurd (omega arith)

  pub accepted-tells : {h : Head} {e : Elements} → accepted h e ≡ explained bytes
      → (pack_ruled bytes ≡ passed) × (h ≡ head_of bytes) × (e ≡ elements_of bytes)
  unfolding explained
  accepted-tells = accepts (pack_ruled bytes)

  -- or one does
  refuses : (u : Ruled) {x : Rule} {place : ℕ} {a : Answer} → refused x place a ≡ explained_by bytes u
      → (u ≡ refused_by x a) × (place ≡ place_of bytes x)
  refuses passed q = let z : ◌≡◌ {A = ℕ} 0 1 = cc in absurd (omega arith)
  refuses (refused_by y b) {x} q = let p : x ≡ y = cc in ((cc), rw p (cc))

  pub refused-tells : {x : Rule} {place : ℕ} {a : Answer} → refused x place a ≡ explained bytes
      → (pack_ruled bytes ≡ refused_by x a) × (place ≡ place_of bytes x)
  unfolding explained
  refused-tells = refuses (pack_ruled bytes)

  -- and the rules tell how it is explained
  pub explained-as : {u : Ruled} → pack_ruled bytes ≡ u → explained bytes ≡ explained_by bytes u
  unfolding explained
  explained-as e = ap (explained_by bytes) e
