-- `account::put_account` meets its contract, by what the pack is explained as.
use Rattle.explain.proofs.Tells.{accepted-tells}
use Rattle.accounts.specs.Account.{account_text}
use Rattle.accounts.proofs.account.put_account.Goals as goal

pub put_accepted-requires : goal.put_accepted-requires
put_accepted-requires c = accepted-tells c.args.bytes.now c.in-Ok.ensures

pub returns-in-Ok : goal.returns-in-Ok
unfolding account_text
returns-in-Ok c = rw (← c.in-Ok.ensures) c.put_accepted.ensures

pub returns-in-Err : goal.returns-in-Err
unfolding account_text
returns-in-Err c = rw (← c.in-Err.ensures) c.put_reason.ensures
