-- `main` needs no contract: what goes to either stream lies within the room for it.
use mathlib.Core.Path.{sym}
use native.Mathlib.Omega.{arith}
use lib.Seq.{length-take-le}
use Rattle.convert.proofs.Made.{output-within, errors-within}
use Rattle.to_npy.proofs.main.Goals as goal

pub slice_bounds-out-end : goal.slice_bounds-out-end
slice_bounds-out-end c = omega (arith, output-within _ c.npy_of_pack-streamed.ensures c.in-Output.is)

pub slice_bounds-write_all-end : goal.slice_bounds-write_all-end
slice_bounds-write_all-end c =
    sym (length-take-le c.in-Output.length c.npy_of_pack-streamed.new.out (omega (arith, output-within _ c.npy_of_pack-streamed.ensures c.in-Output.is)))

pub slice_bounds-out-end-in-Errors : goal.slice_bounds-out-end-in-Errors
slice_bounds-out-end-in-Errors c = omega (arith, errors-within _ c.npy_of_pack-streamed.ensures c.in-Errors.is)

pub slice_bounds-write_all-end-in-Errors : goal.slice_bounds-write_all-end-in-Errors
slice_bounds-write_all-end-in-Errors c =
    sym (length-take-le c.in-Errors.length c.npy_of_pack-streamed.new.out (omega (arith, errors-within _ c.npy_of_pack-streamed.ensures c.in-Errors.is)))
