-- `mapped::state_at` meets its contract: a code up to the top code is a value, and any other is told by decoding it.
use Rattle.std.proofs.Common.{◌≡◌, ap, ◌∙◌}
use native.Mathlib.Nat.{add-sub_cancel_left}
use Rattle.elements.specs.Elements.{part, state_of}
use Rattle.imapb.specs.Tables.{imapb_listed, imapb_read}
use Rattle.imapb.proofs.Law.{reads-value}
use Rattle.codes.proofs.CodesRead.{read_as}
use Rattle.codes.proofs.mapped.state_at.Goals as goal
use Rattle.codes.proofs.mapped.state_at.Goals.{After-decode_imapb-read}

-- what the code is decoded as
read : (c : After-decode_imapb-read)
    → let a = c.args in
    imapb_listed c.decode_imapb-read.result ≡ imapb_read a.mapping.length (part a.bytes.now a.at a.mapping.length)
read c =
    let a = c.args in
    rw (add-sub_cancel_left a.at a.mapping.length) at c.decode_imapb-read.ensures

pub returns-then-code_at-mapping : goal.returns-then-code_at-mapping
returns-then-code_at-mapping c =
    let m = c.args.mapping in
    let e = c.code_at.ensures in
    let l = rw (e, m.top_is) at c.if-code_at-mapping.true in
    rw (reads-value m.length _ m.least l)

pub returns : goal.returns
returns c =
    let d = (goal.at.returns c).After-decode_imapb-read in let m = d.args.mapping in
    c.state_of.ensures
    ∙ ap state_of (read_as m.length m.least m.most d.args.bytes.now d.args.at d.requires.1 c.in-Ok.is (read d))
