-- `import::import_npy` meets its contract: all is decided, and then stored.
use mathlib.Core.Path.{◌≡◌, sym, ap}
use Rattle.answers.specs.Table.{Answer}
use lib.ListN.{length}
use Rattle.npy.specs.Rules.{import_rules}
use Rattle.npy.proofs.Imported.{Ready, ready}
use Rattle.npy.proofs.import.import_npy.Goals as goal
use Rattle.npy.proofs.import.import_npy.Goals.{In_ok-check_import}

-- no rule refuses
passed : (c : In_ok-check_import) → let a = c.args in
    (import_rules a.file.now (length a.deviations.now) (length a.correlations.now) (length a.states.now)).number ≡ 0
passed c = sym (ap (λ (x : Answer). x.number) c.in_ok-check_import.ensures)

-- what passes is ready to be stored
opened : (c : In_ok-check_import) → let a = c.args in
    Ready a.file.now a.deviations.now a.correlations.now a.states.now c.size_in-n.ensures.0
    (passed c)
opened c =
    let a = c.args in
    ready a.file.now a.deviations.now a.correlations.now a.states.now c.size_in-n.ensures.0
    (passed c)

pub invariant_of-matrix : goal.invariant_of-matrix
invariant_of-matrix c = let o = opened (goal.at.invariant_of-matrix c).In_ok-check_import in record { few = o.few; whole = o.whole }

pub store_deviations-requires : goal.store_deviations-requires
store_deviations-requires c = (opened (goal.at.store_deviations-requires c).In_ok-check_import).rooms.deviations

pub store_correlations-requires : goal.store_correlations-requires
store_correlations-requires c = (opened (goal.at.store_correlations-requires c).In_ok-check_import).rooms.correlations
