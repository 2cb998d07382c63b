-- The form of a pack of N rows and M slots, Z of them 0, by Appendix A of ST 1010.3, and the places of its elements.
use Rattle.std.specs.Prelude.{ℕ, ◌+◌, ◌-◌, ◌*◌, Bool, List, ltb, length}
use Rattle.answers.specs.Table.{pick}
use Rattle.numbers.specs.BerOid.{oid_length}
use Rattle.layout.specs.Triangle.{bit_bytes}
use Rattle.plan.specs.declared.places.Plan.{Plan}
use Rattle.plan.specs.Zero.{zeros_before}

-- sparse exactly when 8·Z·Clen > M
abbrev pub sparse_rule : ℕ → ℕ → ℕ → Bool
sparse_rule M Z L = ltb M (8 * Z * L)

-- ---- in either form
module _ (sparse : Bool) where
  -- the bytes of element 3
  abbrev pub vector_length : ℕ → ℕ
  vector_length M = pick sparse (bit_bytes M) 0

  -- the codes of element 5
  abbrev pub sent_count : ℕ → ℕ → ℕ
  sent_count M Z = pick sparse (M - Z) M

module _ (sparse : Bool) (n M Z L : ℕ) where
  abbrev pub vector_at : ℕ
  vector_at = oid_length n + 2

  abbrev pub deviations_at : ℕ
  deviations_at = vector_at + vector_length sparse M

  abbrev pub codes_at : ℕ
  codes_at = deviations_at + 4 * n

  abbrev pub end_at : ℕ
  end_at = codes_at + sent_count sparse M Z * L

  abbrev pub form_plan : Plan
  form_plan =
      record {
        clen = L;
        sparse = sparse;
        vector = vector_at;
        deviations = deviations_at;
        codes = codes_at;
        end = end_at;
      }

-- ---- in the form that the rule chooses
abbrev pub plan_of : ℕ → ℕ → ℕ → ℕ → Plan
plan_of n M Z L = form_plan (sparse_rule M Z L) n M Z L

-- of n rows and the correlations cs
abbrev pub pack_plan : ℕ → List ℕ → ℕ → Plan
pack_plan n cs L = plan_of n (length cs) (zeros_before cs (length cs)) L
