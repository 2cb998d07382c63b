-- `mapped::code_at` meets its contract: the low bits of the word that a code ends are the code.
use Rattle.codes.proofs.CodesRead.{code-last}
use Rattle.codes.proofs.mapped.code_at.Goals as goal

pub returns : goal.returns
returns c =
    let m = c.args.mapping in
    rw (c.read_be.ensures, m.top_is)
    (code-last m.length m.least m.most c.args.bytes.now c.args.at c.requires.0 c.requires.1)
