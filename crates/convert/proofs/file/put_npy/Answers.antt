-- `file::put_npy` meets its contract: what was read stands at the front of the rooms, and goes on from there.
use mathlib.Core.Path.{sym}
use native.Mathlib.Omega.{arith}
use lib.Seq.{length-take-le}
use Rattle.std.proofs.lemmas.Result.{err_from_is_err_and}
use Rattle.layout.specs.Header.{said_size}
use Rattle.elements.specs.Elements.{head_of, deviations, correlations}
use Rattle.reader.specs.Rules.{read_answer}
use Rattle.packs.specs.Printed.{max_rows, max_slots}
use Rattle.convert.specs.Converted.{npy_of}
use Rattle.convert.proofs.Given.{Given, stays, goes, size, deviations-are, correlations-are, deviations-held, correlations-held}
use Rattle.convert.proofs.Makes.{pack-given}
use Rattle.convert.proofs.file.put_npy.Goals as goal
use Rattle.convert.proofs.file.put_npy.Goals.{After-decode_sdcc_flp}

given : (c : After-decode_sdcc_flp) → let bytes = c.args.bytes.now in
    Given (read_answer bytes max_rows max_slots max_slots) (said_size bytes) (deviations bytes (head_of bytes)) (correlations bytes (head_of bytes))
    c.room_of-deviations.result c.room_of-correlations.result
    c.decode_sdcc_flp.result c.decode_sdcc_flp.new.deviations c.decode_sdcc_flp.new.correlations
given c =
    let d = c.room_of-deviations in
    let k = c.room_of-correlations in
    let s = c.room_of-states in
    pack-given d.result k.result s.result d.ensures.long k.ensures.long s.ensures.long
    c.args.bytes.now c.decode_sdcc_flp.ensures

pub slice_bounds-deviations-end : goal.slice_bounds-deviations-end
slice_bounds-deviations-end c =
    omega (arith, deviations-held (given (goal.at.slice_bounds-deviations-end c).After-decode_sdcc_flp) c.in_ok-pack.was)

pub slice_bounds-export_npy-end : goal.slice_bounds-export_npy-end
slice_bounds-export_npy-end c =
    sym (length-take-le c.in_ok-pack.pack.deviations c.decode_sdcc_flp.new.deviations (omega (arith, deviations-held (given (goal.at.slice_bounds-export_npy-end c).After-decode_sdcc_flp) c.in_ok-pack.was)))

pub slice_bounds-correlations-end : goal.slice_bounds-correlations-end
slice_bounds-correlations-end c =
    omega (arith, correlations-held (given (goal.at.slice_bounds-correlations-end c).After-decode_sdcc_flp) c.in_ok-pack.was)

pub slice_bounds-export_npy-end-2 : goal.slice_bounds-export_npy-end-2
slice_bounds-export_npy-end-2 c =
    sym (length-take-le c.in_ok-pack.pack.slots c.decode_sdcc_flp.new.correlations (omega (arith, correlations-held (given (goal.at.slice_bounds-export_npy-end-2 c).After-decode_sdcc_flp) c.in_ok-pack.was)))

pub returns : goal.returns
returns c =
    let g = given (goal.at.returns c).After-decode_sdcc_flp in
    let e = c.in_ok-pack.was in
    rw (goes g e) (rw (size g e, deviations-are g e, correlations-are g e) at c.export_npy.ensures)

pub returns-in_err-pack : goal.returns-in_err-pack
returns-in_err-pack c =
    let d = (goal.at.returns-in_err-pack c).After-decode_sdcc_flp in let a = d.args in
    let e = err_from_is_err_and c.from_residual.result c.from_residual.ensures.1 in
    rw (e.1, e.2) (stays (given d) c.in_err-pack.was _ (npy_of a.bytes.now) a.out.now)
