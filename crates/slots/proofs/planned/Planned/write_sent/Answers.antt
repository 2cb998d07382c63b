-- `Planned::write_sent` meets its contract: what the words leave behind the last code is covered by the codes that are
-- written each.
use mathlib.Core.Bool.{true}
use native.Mathlib.Omega.{arith}
use lib.Seq.{length-sets}
use Rattle.slots.proofs.Lengths.{length-3}
use Rattle.slots.proofs.SentWords.{rest-room, sent-whole}
use Rattle.slots.proofs.planned.Planned.write_sent.Goals as goal

pub write_sent_each-requires : goal.write_sent_each-requires
write_sent_each-requires c =
    let f = rw c.requires.0 at c.args.self.now.fits in
    let e = c.write_sent_words-first.ensures in
    record {
      codable = f.codable;
      slots = f.slots;
      begun = e.begun;
      behind = omega (arith, length-3 true c.args.self.now.correlations.now, f.behind, e.on);
      within = rw (rest-room e f.ends, e.is, length-sets, length-sets) c.requires.1;
    }

pub returns : goal.returns
returns c =
    let f = rw c.requires.0 at c.args.self.now.fits in
    sent-whole c.write_sent_words-first.ensures f.ends f.behind c.write_sent_each.ensures
