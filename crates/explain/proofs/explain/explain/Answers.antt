-- `explain::explain` meets its contract.
use mathlib.Core.Path.{◌≡◌}
use Rattle.elements.specs.Elements.{head_of, places_of}
use Rattle.elements.proofs.Opened.{pack-tells, refused-tells}
use Rattle.layout.specs.Ruled.{passed, refused_by}
use Rattle.answers.specs.Listed.{listed}
use Rattle.rules.specs.Named.{pack_ruled}
use Rattle.explain.specs.Explained.{explained}
use Rattle.explain.proofs.explain.explain.Goals as goal
use Rattle.explain.proofs.explain.explain.Goals.{In-Err, In-Ok}

-- the rule that refuses
by : (c : In-Err) → pack_ruled c.args.bytes.now ≡ refused_by c.in-Err.broken.rule (listed c.in-Err.broken.refusal)
by c = let b = c.args.bytes.now in refused-tells b (pack_ruled b) c.in-Err.ensures

-- or the places of a pack that none does
is : (c : In-Ok) → let b = c.args.bytes.now in
    (pack_ruled b ≡ passed) × (c.in-Ok.places ≡ places_of (head_of b))
is c = let b = c.args.bytes.now in pack-tells b (pack_ruled b) c.in-Ok.ensures

pub returns-in-Err : goal.returns-in-Err
unfolding explained
returns-in-Err c = rw (by (goal.at.returns-in-Err c).In-Err, c.place_of.ensures)

pub returns-in-Ok : goal.returns-in-Ok
unfolding explained
returns-in-Ok c = let k = is (goal.at.returns-in-Ok c).In-Ok in rw (k.0, c.elements_of.ensures, k.1)

pub place_of-requires : goal.place_of-requires
place_of-requires c = by c
