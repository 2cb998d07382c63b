-- P1 to P12, packs that end too early, slots of every state, and packs over a range: what the reader's and the writer's definitions give of each, computed.
-- Assumes nothing.
use mathlib.Core.Path.{◌≡◌, refl}
use lib.Ieee.{of_bits, to_bits, of_int, to_unsigned, add, sub, mul, div, lt, le, round, nan_bits, fits}
use Rattle.numbers.specs.BerOid.{oid_read, oid_bytes}
use Rattle.numbers.specs.Words.{word_of, bytes_of}
use Rattle.numbers.specs.Conversions.{nearest, converted}
use Rattle.imapb.specs.Mapping.{code, value}
use Rattle.ranges.specs.Floor.{floor_of}
use Rattle.ranges.specs.Range.{power_of, span_of, good_range, scale_in, step_in, offset_in, top_in, value_in, epsilon_in, number_in}
use Rattle.layout.specs.Triangle.{slots_of}
use Rattle.writer.specs.Pack.{form_bytes}
use Rattle.trip.specs.Packs.{p_table, short_table, state_table, range_table, outcomes, expected}

pub packs-right : outcomes p_table ≡ expected p_table
unfolding oid_read oid_bytes word_of bytes_of slots_of converted nearest code value form_bytes of_bits to_bits of_int to_unsigned add sub mul div le round nan_bits
packs-right = refl

pub shorts-right : outcomes short_table ≡ expected short_table
unfolding oid_read slots_of
shorts-right = refl

pub states-right : outcomes state_table ≡ expected state_table
unfolding oid_read word_of slots_of converted nearest value of_bits to_bits of_int sub div le round nan_bits
states-right = refl

pub ranges-right : outcomes range_table ≡ expected range_table
unfolding oid_read word_of slots_of converted nearest value good_range number_in value_in top_in epsilon_in step_in offset_in scale_in power_of span_of floor_of of_bits to_bits of_int to_unsigned add sub mul div lt le round nan_bits fits
ranges-right = refl
