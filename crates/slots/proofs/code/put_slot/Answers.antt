-- `code::put_slot` meets its contract: a number from -1 to 1 has a code, whose bytes come back with the lent part.
use Rattle.slots.proofs.Coded.{code-value}
use Rattle.slots.proofs.Runs.{part-written}
use Rattle.slots.proofs.code.put_slot.Goals as goal

pub returns : goal.returns
returns c =
    let v = code-value c.args.clen c.args.value c.requires.0 c.requires.1 c.imapb_code.ensures c.in-Some.is in
    part-written c.args.out.now c.args.at c.args.clen c.requires.2 v c.write_be.ensures
