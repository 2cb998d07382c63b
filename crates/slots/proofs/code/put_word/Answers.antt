-- `code::put_word` meets its contract: the word's bytes come back with the lent part.
use Rattle.slots.proofs.Runs.{part-written}
use Rattle.slots.proofs.code.put_word.Goals as goal

pub returns : goal.returns
returns c =
    part-written c.args.out.now c.args.at 8 c.requires.1 c.word_of.ensures c.write_be.ensures
