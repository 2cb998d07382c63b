-- The text of a pack: the tags that it refines, and its pieces one behind the other.
-- Assumes nothing.
use mathlib.Core.Path.{◌≡◌, refl, subst}
use mathlib.Core.List.{List, [], ◌∷◌, ◌++◌}
use Prim.Native.Nat.{ℕ}
use native.Mathlib.Omega.{arith}
use lib.ListN.{length}
use Rattle.sets.specs.declared.pack.PackPlace.{PackPlace}
use Rattle.sets.specs.Parts.{part_of}
use Rattle.text.specs.Text.{ascii, newline}
use Rattle.text.specs.declared.page.Page.{Page}
use Rattle.text.specs.Page.{Adds}
use Rattle.text.proofs.Adding.{adds_then}
use Rattle.lines.specs.Lines.{numbers}
use Rattle.report.specs.Answer.{answer_lines, answered, Left}
use Rattle.packs.specs.Lines.{place_line, listed_tags, tags_text, bytes_of, pack_text}

pub listed-none : (ts : List ℕ) → length ts ≡ 0 → listed_tags ts ≡ ascii " -"
listed-none [] e = refl
listed-none (t ∷ ts) e = absurd (omega arith)

pub listed-some : (ts : List ℕ) → (length ts ≡ 0 → ⊥) → listed_tags ts ≡ numbers ts
listed-some [] n = absurd (n refl)
listed-some (t ∷ ts) n = refl

-- ---- a pack's pieces; its bytes and its tags are parts of what was lent
module _ (set tags : List ℕ) (p : PackPlace) {ds cs ss ds' cs' ss' : List ℕ} {page page' : Page} where
  pub pack-put : {bytes : List ℕ} → bytes ≡ bytes_of set p → {ts : List ℕ} → ts ≡ part_of p.from p.to tags
      → {placed : Page} → Adds (place_line p) page placed
      → {refined : Page} → Adds (tags_text ts) placed refined
      → {lined : Page} → Adds newline refined lined
      → Adds (answer_lines bytes (answered bytes ds cs ss)) lined page' × Left bytes ds cs ss ds' cs' ss'
      → Adds (pack_text set tags p (answered (bytes_of set p) ds cs ss)) page page' × Left (bytes_of set p) ds cs ss ds' cs' ss'
  pack-put e {ts} g a b c d =
      let whole = adds_then (adds_then (adds_then a b) c) d.0 in (
        subst (λ (x : List ℕ). Adds (place_line p ++ tags_text x ++ newline ++ answer_lines (bytes_of set p) (answered (bytes_of set p) ds cs ss)) page page') g
            (subst (λ (x : List ℕ). Adds (place_line p ++ tags_text ts ++ newline ++ answer_lines x (answered x ds cs ss)) page page') e whole),
        subst (λ (x : List ℕ). Left x ds cs ss ds' cs' ss') e d.1,
      )
