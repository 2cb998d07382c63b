-- `round_trip::round_trip` meets its contract.
use mathlib.Core.Path.{sym, ap, ◌∙◌}
use Rattle.answers.specs.Listed.{written}
use Rattle.answers.proofs.OneToOne.{refused-not-done}
use Rattle.reader.specs.Listed.{read_listed}
use Rattle.trip.specs.Tripped.{Lent}
use Rattle.trip.proofs.Tripped.{Ran, comparable, write-refused, read-refused, compared}
use Rattle.trip.proofs.Wrote.{Wrote}
use Rattle.trip.proofs.round_trip.round_trip.Goals as goal
use Rattle.trip.proofs.round_trip.round_trip.Goals.{After-decode_sdcc_flp-read}

-- what is known once it is written
is-written : (c : After-decode_sdcc_flp-read)
    → Wrote c.args.deviations.now c.args.correlations.now c.args.clen c.args.pack.now c.encode_sdcc_flp_mode2-written.new.out c.in-Ok.n
is-written c =
    let h = ap written c.in-Ok.is in
    let e = c.encode_sdcc_flp_mode2-written.ensures in
    record { answers = sym h ∙ e.0; leaves = rw h at e.1 }

-- and read
abbrev lent : After-decode_sdcc_flp-read → Lent
lent c =
    record {
      pack = c.args.pack.now;
      deviations = c.args.deviations_back.now;
      correlations = c.args.correlations_back.now;
      states = c.args.states.now;
    }

abbrev left : After-decode_sdcc_flp-read → Lent
left c =
    record {
      pack = c.encode_sdcc_flp_mode2-written.new.out;
      deviations = c.decode_sdcc_flp-read.new.deviations;
      correlations = c.decode_sdcc_flp-read.new.correlations;
      states = c.decode_sdcc_flp-read.new.states;
    }

ran : (c : After-decode_sdcc_flp-read)
    → Ran c.args.deviations.now c.args.correlations.now c.args.clen (lent c) (left c) c.in-Ok.n (read_listed c.decode_sdcc_flp-read.result)
ran c =
    let e = c.decode_sdcc_flp-read.ensures in
    record { wrote = is-written c; read = e.0; deviations = e.1; correlations = e.2; states = e.3 }

pub returns-in_default : goal.returns-in_default
returns-in_default c =
    let h = ap written c.in_default.is in
    write-refused _ _ _ _ c.in_default.field-0 (sym h ∙ c.encode_sdcc_flp_mode2-written.ensures.0) (rw h at c.encode_sdcc_flp_mode2-written.ensures.1)

pub returns-in_default-read : goal.returns-in_default-read
returns-in_default-read c =
    let r = (goal.at.returns-in_default-read c).After-decode_sdcc_flp-read in read-refused (ran r) (rw c.in_default-read.is (refused-not-done c.in_default-read.field-0))

pub same_numbers-requires : goal.same_numbers-requires
same_numbers-requires c = comparable (ran (goal.at.same_numbers-requires c).After-decode_sdcc_flp-read) (rw c.in-Ok-read.is)

pub returns : goal.returns
returns c =
    compared (ran (goal.at.returns c).After-decode_sdcc_flp-read) (rw c.in-Ok-read.is) c.same_numbers.ensures
