-- `store::store_states` meets its contract.
use native.Mathlib.Omega.{arith}
use mathlib.Core.Path.{◌∙◌}
use Rattle.answers.specs.Lent.{tab}
use Rattle.answers.proofs.Lent.{length-tab}
use Rattle.answers.proofs.Stored.{sets_over}
use Rattle.npy_header.proofs.Filled.{filled}
use Rattle.npy.proofs.store.store_states.Goals as goal

pub returns : goal.returns
returns c =
    let n = c.args.slots in let l = c.args.states.now in
    filled 0 n 1 l (omega arith) (c.fill.ensures.after (λ y h. h)) ∙ sets_over (tab n (λ _. 1)) l (omega (arith, length-tab n (λ _. 1)))
