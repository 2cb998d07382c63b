-- `import::check_file` meets its contract: the rules in their order.
use native.Mathlib.Omega.{arith}
use Rattle.answers.proofs.Next.{check-passed}
use Rattle.npy_header.proofs.Held.{header-held}
use Rattle.npy.proofs.Held.{size-held}
use Rattle.npy.proofs.import.check_file.Goals as goal

pub check_size-requires : goal.check_size-requires
check_size-requires c = header-held c.args.file.now (check-passed c.in_ok-check_header.was c.check_header.ensures)

pub invariant_of-matrix : goal.invariant_of-matrix
invariant_of-matrix c =
    let k = size-held c.args.file.now c.args.n (check-passed c.in_ok-check_header.was c.check_header.ensures)
    (check-passed c.in_ok-check_size.was c.check_size.ensures) in
    record { few = k.few; whole = omega (arith, k.whole) }
