-- `pack::put_pack` meets its contract: what was read stands at the front of the rooms, and goes on from there.
use Rattle.npy_header.specs.Header.{size_in}
use Rattle.npy.specs.Matrix.{deviations_in, correlations_in}
use Rattle.npy.specs.Rules.{import_answer}
use Rattle.packs.specs.Printed.{max_rows, max_slots}
use Rattle.convert.proofs.Given.{Given, goes, deviations-are, correlations-are}
use Rattle.convert.proofs.Makes.{file-given}
use Rattle.convert.proofs.pack.put_pack.Goals as goal
use Rattle.convert.proofs.pack.put_pack.Goals.{After-import_npy}

given : (c : After-import_npy) → let file = c.args.file.now in
    Given (import_answer file max_rows max_slots max_slots) (size_in file) (deviations_in file (size_in file)) (correlations_in file (size_in file))
    c.room_of-deviations.result c.room_of-correlations.result
    c.import_npy.result c.import_npy.new.deviations c.import_npy.new.correlations
given c =
    let d = c.room_of-deviations in
    let k = c.room_of-correlations in
    let s = c.room_of-states in
    file-given d.result k.result s.result d.ensures.long k.ensures.long s.ensures.long
    c.args.file.now c.import_npy.ensures

pub returns : goal.returns
returns c =
    let g = given (goal.at.returns c).After-import_npy in
    let e = c.in_ok-pack.was in
    rw (goes g e) (rw (deviations-are g e, correlations-are g e) at c.write_with.ensures)
