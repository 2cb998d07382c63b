-- `compare::same_deviations` meets its contract: all pairs agree where each deviation came back.
use mathlib.Core.Path.{◌≡◌, refl, sym, ap, ◌∙◌}
use mathlib.Core.Bool.{Bool, ◌&&◌}
use mathlib.Core.List.{List, [], ◌∷◌}
use Prim.Native.Nat.{ℕ, ◌≤◌}
use native.Mathlib.Omega.{arith}
use borrow.Author.Rules.{rules}
use borrow.Author.Tests.{tests}
use lib.ListN.{length, get_or}
use Rattle.std.specs.List.{list_all, zip}
use Rattle.std.proofs.lemmas.Iterator.{YieldsList-from_slice, YieldsList-from_zip}
use Rattle.std.proofs.lemmas.Iterator.Search.{all_from_yields_List}
use Rattle.answers.specs.Every.{every}
use Rattle.answers.proofs.Every.{every_front}
use Rattle.trip.specs.Compared.{deviation_agrees}
use Rattle.trip.proofs.compare.same_deviations.Goals as goal

abbrev agrees : ℕ × ℕ → Bool
agrees p = deviation_agrees p.0 p.1

all-every : (sent back : List ℕ) → length sent ≤ length back
    → list_all agrees (zip sent back) ≡ every (length sent) (λ i. deviation_agrees (get_or sent i 0) (get_or back i 0))
all-every [] back h = refl
all-every (d ∷ sent) [] h = absurd (omega arith)
all-every (d ∷ sent) (r ∷ back) h =
    ap (λ (b : Bool). agrees (d, r) && b) (all-every sent back (omega arith))
    ∙ sym (every_front (length sent) (λ i. deviation_agrees (get_or (d ∷ sent) i 0) (get_or (r ∷ back) i 0)))

pub returns : goal.returns
returns c =
    let a = c.args in
    all_from_yields_List agrees c.all.new.self _ c.all.result c.all.ensures.ran
    (YieldsList-from_zip (YieldsList-from_slice a.sent.now cc) (YieldsList-from_slice a.back.now cc))
    (λ x b q k. search (rules, tests))
    ∙ all-every a.sent.now a.back.now c.requires
