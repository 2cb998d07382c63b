-- The bytes of a pack, from ST 1010.3: elements 1 to 5 in their order, in the form that Appendix A's rule chooses.
use Rattle.std.specs.Prelude.{ℕ, ◌+◌, Bool, List, [], ◌∷◌, ◌++◌, length, get_or}
use Rattle.std.proofs.lemmas.List.Edits.{sets}
use Rattle.std.specs.Float.{binary32, binary64}
use Rattle.answers.specs.Table.{pick}
use Rattle.answers.specs.Lent.{joined}
use Rattle.numbers.specs.BerOid.{oid_bytes}
use Rattle.numbers.specs.Words.{bytes_of}
use Rattle.numbers.specs.Conversions.{converted}
use Rattle.plan.specs.declared.places.Plan.{Plan}
use Rattle.plan.specs.Zero.{zeros_before}
use Rattle.plan.specs.Places.{sparse_rule}
use Rattle.slots.specs.Slots.{element3, element5}

-- ---- elements 1, 2 and 4
-- element 1: N
abbrev pub element1 : ℕ → List ℕ
element1 n = oid_bytes n

-- element 2: Mode 2, CS, Cf=1 and Clen; Sf=0 and Slen=4
abbrev pub control_byte : Bool → ℕ → ℕ
control_byte sparse L = 128 + pick sparse 32 0 + 16 + L

abbrev pub element2 : Bool → ℕ → List ℕ
element2 sparse L = control_byte sparse L ∷ 4 ∷ []

-- element 4: each deviation as a binary32
abbrev pub deviation_bytes : List ℕ → ℕ → List ℕ
deviation_bytes ds i = bytes_of 4 (converted binary64 binary32 (get_or ds i 0))

abbrev pub element4 : List ℕ → List ℕ
element4 ds = joined (length ds) (deviation_bytes ds)

-- at their places
abbrev pub others_over : List ℕ → Plan → List ℕ → List ℕ
others_over ds p lent =
    sets (sets lent 0 (element1 (length ds) ++ element2 p.sparse p.clen)) p.deviations (element4 ds)

-- ---- the pack of the deviations ds and the correlations cs
module _ (ds cs : List ℕ) (L : ℕ) where
  unfoldable pub form_bytes : Bool → List ℕ
  form_bytes sparse =
      element1 (length ds) ++ element2 sparse L ++ element3 sparse cs ++ element4 ds ++ element5 sparse cs L

  abbrev pub is_sparse : Bool
  is_sparse = sparse_rule (length cs) (zeros_before cs (length cs)) L

  abbrev pub pack_bytes : List ℕ
  pack_bytes = form_bytes is_sparse
