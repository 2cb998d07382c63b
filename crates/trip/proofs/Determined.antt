-- Demand 1, the other half: of every public function, that the same input gives the same answer and leaves the same in
-- lent memory.
-- Assumes nothing.
use mathlib.Core.List.{List}
use Prim.Native.Nat.{ℕ}
use mir.Syntax.{Dict, w64}
use mir.Val.{Fits}
use denote.RattleType.{RattleType}
use denote.Param.Laws.{Laws, IsCopy}
use Rattle.std.specs.declared.clone.Clone as Clone
use Rattle.std.specs.declared.cmp.PartialEq as PartialEq
use Rattle.text.specs.declared.marks.Marked as Marked
use Rattle.answers.specs.OneAnswer.{OneResult, OneAnswer, OnePart}
use Rattle.text.specs.Page.{filled}
use Rattle.trip.specs.Tripped.{Lent, lent_of}
use Rattle.answers.proofs.OneAnswer.{row-of-one}
use Rattle.answers.proofs.row.row_of.Reads as row_of
use Rattle.text.proofs.OneAnswer.{within-one, page-new-one, page-place-one, page-byte-one, page-text-one, page-decimal-one, page-named-one, page-hex-one, page-bits-one, digit-at-one, decimal-digit-at-one, decimal-one, hex-one, literal-one, at-end-one, decimal-up-to-one, entry-after-space-one, entries-one, list-one, byte-string-one, mark-one, changed-one, letter-in-one, room-of-one}
use Rattle.text.proofs.part.within.Reads as within
use Rattle.text.proofs.page.Page.new.Reads as page-new
use Rattle.text.proofs.page.Page.place.Reads as page-place
use Rattle.text.proofs.page.Page.byte.Reads as page-byte
use Rattle.text.proofs.page.Page.text.Reads as page-text
use Rattle.text.proofs.page.Page.decimal.Reads as page-decimal
use Rattle.text.proofs.page.Page.named.Reads as page-named
use Rattle.text.proofs.page.Page.hex.Reads as page-hex
use Rattle.text.proofs.page.Page.bits.Reads as page-bits
use Rattle.text.proofs.numeral.digit_at.Reads as digit_at
use Rattle.text.proofs.numeral.decimal_digit_at.Reads as decimal-digit-at
use Rattle.text.proofs.numeral.decimal.Reads as decimal
use Rattle.text.proofs.numeral.hex.Reads as hex
use Rattle.text.proofs.numeral.literal.Reads as literal
use Rattle.text.proofs.numeral.at_end.Reads as at-end
use Rattle.text.proofs.numeral.decimal_up_to.Reads as decimal-up-to
use Rattle.text.proofs.numeral.entry_after_space.Reads as entry-after-space
use Rattle.text.proofs.list.entries.Reads as entries
use Rattle.text.proofs.list.list.Reads as list
use Rattle.text.proofs.string.byte_string.Reads as byte-string
use Rattle.text.proofs.marks.mark.Reads as mark
use Rattle.text.proofs.marks.changed.Reads as changed
use Rattle.text.proofs.room.room_of.Reads as room-of
use Rattle.text.proofs.table.letter_in.Reads as letter-in
use Rattle.numbers.proofs.OneAnswer.{read-be-one, read-le-one, write-le-one, ber-oid-len-one, read-ber-oid-one, read-ber-oid-strict-one, read-ber-one, read-ber-strict-one, write-be-one, write-ber-oid-one, nearest-binary64-one, binary64-to-binary32-one, binary32-to-binary64-one, bits-of-one, whole-part-one}
use Rattle.numbers.proofs.words.read_be.Reads as read-be
use Rattle.numbers.proofs.words.read_le.Reads as read-le
use Rattle.numbers.proofs.words.write_le.Reads as write-le
use Rattle.numbers.proofs.ber_oid.ber_oid_len.Reads as ber-oid-len
use Rattle.numbers.proofs.ber_oid.read_ber_oid.Reads as read-ber-oid
use Rattle.numbers.proofs.ber_oid.read_ber_oid_strict.Reads as read-ber-oid-strict
use Rattle.numbers.proofs.ber.read_ber.Reads as read-ber
use Rattle.numbers.proofs.ber.read_ber_strict.Reads as read-ber-strict
use Rattle.numbers.proofs.words.write_be.Reads as write-be
use Rattle.numbers.proofs.ber_oid.write_ber_oid.Reads as write-ber-oid
use Rattle.numbers.proofs.conversions.nearest_binary64.Reads as nearest-binary64
use Rattle.numbers.proofs.conversions.binary64_to_binary32.Reads as binary64-to-binary32
use Rattle.numbers.proofs.conversions.binary32_to_binary64.Reads as binary32-to-binary64
use Rattle.numbers.proofs.conversions.bits_of.Reads as bits-of
use Rattle.numbers.proofs.conversions.whole_part.Reads as whole_part
use Rattle.imapb.proofs.OneAnswer.{code-length-one, decode-imapb-one, unless-special-one, check-length-one, check-code-one, check-range-one, imapb-code-one, imapb-mapping-one, encode-imapb-one, encode-imapb-special-one}
use Rattle.imapb.proofs.code_length.CodeLength.new.Reads as code-length
use Rattle.imapb.proofs.decode.decode_imapb.Reads as decode-imapb
use Rattle.imapb.proofs.decode.unless_special.Reads as unless-special
use Rattle.imapb.proofs.decode.check_length.Reads as check-length
use Rattle.imapb.proofs.decode.check_code.Reads as check-code
use Rattle.imapb.proofs.encode.check_range.Reads as check-range
use Rattle.imapb.proofs.encode.imapb_code.Reads as imapb-code
use Rattle.imapb.proofs.mapping.imapb_mapping.Reads as imapb-mapping
use Rattle.imapb.proofs.encode.encode_imapb.Reads as encode-imapb
use Rattle.imapb.proofs.special.encode_imapb_special.Reads as encode-imapb-special
use Rattle.ranges.proofs.OneAnswer.{check-range-one as range-check-one, range-mapping-one, decode-worked-out-one, decode-imapb-in-one}
use Rattle.ranges.proofs.range.check_range.Reads as range-check
use Rattle.ranges.proofs.mapping.range_mapping.Reads as range-mapping
use Rattle.ranges.proofs.decode.decode_worked_out.Reads as decode-worked-out
use Rattle.ranges.proofs.decode.decode_imapb_in.Reads as decode-imapb-in
use Rattle.layout.proofs.OneAnswer.{parse-mode1-one, parse-mode2-one, read-header-one, check-matrix-size-fits-one, peek-matrix-size-one, corr-slots-one, triangle-slot-one, bounded-slots-one, refusal-from-broken-one, by_one}
use Rattle.layout.proofs.control.parse_mode1.Reads as parse-mode1
use Rattle.layout.proofs.control.parse_mode2.Reads as parse-mode2
use Rattle.layout.proofs.header.read_header.Reads as read-header
use Rattle.layout.proofs.size.check_matrix_size_fits.Reads as check-matrix-size-fits
use Rattle.layout.proofs.size.peek_matrix_size.Reads as peek-matrix-size
use Rattle.layout.proofs.triangle.corr_slots.Reads as corr-slots
use Rattle.layout.proofs.triangle.triangle_slot.Reads as triangle-slot
use Rattle.layout.proofs.pack.bounded_slots.Reads as bounded-slots
use Rattle.layout.proofs.rule.RefusalFromBroken.from.Reads as refusal-from-broken
use Rattle.layout.proofs.rule.by.Reads as by
use Rattle.sets.proofs.OneAnswer.{is-pushed-one, read-item-one, next-pack-one, pack-part-one, tags-part-one, read-set-one, pack-at-one, pack-of-one as set-pack-one, tags-of-one}
use Rattle.sets.proofs.tag.is_pushed.Reads as is-pushed
use Rattle.sets.proofs.item.read_item.Reads as read-item
use Rattle.sets.proofs.pack.next_pack.Reads as next-pack
use Rattle.sets.proofs.part.pack_part.Reads as pack-part
use Rattle.sets.proofs.part.tags_part.Reads as tags-part
use Rattle.sets.proofs.set.read_set.Reads as read_set
use Rattle.sets.proofs.handed.pack_at.Reads as pack-at
use Rattle.sets.proofs.handed.pack_of.Reads as set-pack
use Rattle.sets.proofs.handed.tags_of.Reads as tags-of
use Rattle.elements.proofs.OneAnswer.{open-pack-one, deviation-count-one, pack-of-one, left_one, check-number-one, value-bits-one, deviation-at-one, check-slot-one, state-of-one, slot-of-one, correlation-at-one, slot-at-one, is-present-one, present-count-one}
use Rattle.elements.proofs.head.open_pack.Reads as open-pack
use Rattle.elements.proofs.head.deviation_count.Reads as deviation-count
use Rattle.elements.proofs.head.pack_of.Reads as pack-of
use Rattle.elements.proofs.number.left.Reads as left
use Rattle.elements.proofs.number.check_number.Reads as check-number
use Rattle.elements.proofs.number.value_bits.Reads as value-bits
use Rattle.elements.proofs.number.deviation_at.Reads as deviation-at
use Rattle.elements.proofs.slot.check_slot.Reads as check-slot
use Rattle.elements.proofs.slot.state_of.Reads as state-of
use Rattle.elements.proofs.slot.slot_of.Reads as slot_of
use Rattle.elements.proofs.slot.correlation_at.Reads as correlation-at
use Rattle.elements.proofs.slot.slot_at.Reads as slot_at
use Rattle.elements.proofs.present.is_present.Reads as is-present
use Rattle.elements.proofs.present.present_count.Reads as present-count
use Rattle.deviations.proofs.OneAnswer.{check-deviation-range-one, deviation-form-one, deviation-in-one}
use Rattle.deviations.proofs.form.check_deviation_range.Reads as check-deviation-range
use Rattle.deviations.proofs.form.deviation_form.Reads as deviation-form
use Rattle.deviations.proofs.number.deviation_in.Reads as deviation-in
use Rattle.rules.proofs.OneAnswer.{decide-one, judge-one, check-rooms-one, check-rooms-for-one}
use Rattle.rules.proofs.decide.decide.Reads as decide
use Rattle.rules.proofs.judge.judge.Reads as judge
use Rattle.rules.proofs.rooms.check_rooms.Reads as check-rooms
use Rattle.rules.proofs.rooms.check_rooms_for.Reads as check-rooms-for
use Rattle.explain.proofs.OneAnswer.{explain-one, slot-code-one, behind-one}
use Rattle.explain.proofs.explain.explain.Reads as explain
use Rattle.explain.proofs.slot.slot_code.Reads as slot-code
use Rattle.explain.proofs.slot.behind.Reads as behind
use Rattle.codes.proofs.OneAnswer.{by-words-one, store-mapped-one}
use Rattle.codes.proofs.store.by_words.Reads as by-words
use Rattle.codes.proofs.store.store_mapped.Reads as store-mapped
use Rattle.reader.proofs.OneAnswer.{decode-sdcc-flp-one, decode-sdcc-flp-in-one}
use Rattle.reader.proofs.read.decode_sdcc_flp.Reads as decode-sdcc-flp
use Rattle.reader.proofs.read.decode_sdcc_flp_in.Reads as decode-sdcc-flp-in
use Rattle.plan.proofs.OneAnswer.{plan-pack-one, zero-of-one}
use Rattle.plan.proofs.pack.plan_pack.Reads as plan-pack
use Rattle.plan.proofs.zero.zero_of.Reads as zero_of
use Rattle.slots.proofs.OneAnswer.{write-slots-one}
use Rattle.slots.proofs.write.write_slots.Reads as write-slots
use Rattle.writer.proofs.OneAnswer.{encode-sdcc-flp-mode2-one, encode-sdcc-flp-one}
use Rattle.writer.proofs.write.encode_sdcc_flp_mode2.Reads as encode-sdcc-flp-mode2
use Rattle.writer.proofs.write.encode_sdcc_flp.Reads as encode-sdcc-flp
use Rattle.npy_header.proofs.OneAnswer.{write-header-one, size-in-one, check-header-one}
use Rattle.npy_header.proofs.header.write_header.Reads as write-header
use Rattle.npy_header.proofs.check.size_in.Reads as size_in
use Rattle.npy_header.proofs.check.check_header.Reads as check-header
use Rattle.npy_export.proofs.OneAnswer.{export-npy-one}
use Rattle.npy.proofs.OneAnswer.{import-npy-one}
use Rattle.npy_export.proofs.export.export_npy.Reads as export-npy
use Rattle.npy.proofs.import.import_npy.Reads as import-npy
use Rattle.matrix.proofs.OneAnswer.{correlation-one, usable-one}
use Rattle.matrix.proofs.lookup.correlation.Reads as correlation
use Rattle.matrix.proofs.usable.usable.Reads as usable
use Rattle.lines.proofs.OneAnswer.{put-entries-one, put-values-one, put-refused-one, put-refusal-one, put-counts-one, put-line-one, put-rows-one}
use Rattle.lines.proofs.values.put_entries.Reads as put_entries
use Rattle.lines.proofs.values.put_values.Reads as put-values
use Rattle.lines.proofs.refusal.put_refused.Reads as Put-refused
use Rattle.lines.proofs.refusal.put_refusal.Reads as put-refusal
use Rattle.lines.proofs.line.put_counts.Reads as put-counts
use Rattle.lines.proofs.line.put_line.Reads as put-line
use Rattle.lines.proofs.line.put_rows.Reads as put-rows
use Rattle.reasons.proofs.OneAnswer.{put-reason-one}
use Rattle.reasons.proofs.reason.put_reason.Reads as put-reason
use Rattle.parts.proofs.OneAnswer.{put-gap-one, put-elements-one, put-slot-one}
use Rattle.parts.proofs.element.put_gap.Reads as put-gap
use Rattle.parts.proofs.element.put_elements.Reads as put-elements
use Rattle.parts.proofs.slot.put_slot.Reads as put-slot
use Rattle.accounts.proofs.OneAnswer.{put-account-one}
use Rattle.accounts.proofs.account.put_account.Reads as put-account
use Rattle.told.proofs.OneAnswer.{print-why-one}
use Rattle.told.proofs.print.print_why.Reads as print-why
use Rattle.report.proofs.OneAnswer.{put-answer-one, is-too-big-one, print-pack-one}
use Rattle.report.proofs.answer.put_answer.Reads as put-answer
use Rattle.report.proofs.print.is_too_big.Reads as is-too-big
use Rattle.report.proofs.print.print_pack.Reads as print-pack
use Rattle.packs.proofs.OneAnswer.{is-too-big-one as set-too-big-one, put-set-one, put-first-one, put-tags-one, put-pack-of-one}
use Rattle.packs.proofs.first.is_too_big.Reads as set-too-big
use Rattle.packs.proofs.first.put_set.Reads as put-set
use Rattle.packs.proofs.first.put_first.Reads as put_first
use Rattle.packs.proofs.tags.put_tags.Reads as put-tags
use Rattle.packs.proofs.pack.put_pack_of.Reads as put-pack-of
use Rattle.convert.proofs.OneAnswer.{npy-of-pack-one, pack-of-npy-one}
use Rattle.convert.proofs.file.npy_of_pack.Reads as npy-of-pack
use Rattle.convert.proofs.pack.pack_of_npy.Reads as pack-of-npy
use Rattle.replies.proofs.OneAnswer.{letter-one, is-field-one, one-one, words-one, refused-one, special-of-one, special-one, of-mapped-one, widen-one, narrow_one, float-of-one, of-oid-one, of-strict-oid-one, of-ber-one, of-written-one, of-peek-one, of-read-one, of-cell-one, of-usable-one, of-set-one, of-place-one, put-reply-one}
use Rattle.replies.proofs.forms.letter.Reads as letter
use Rattle.replies.proofs.forms.is_field.Reads as is_field
use Rattle.replies.proofs.reply.one.Reads as one
use Rattle.replies.proofs.reply.words.Reads as words
use Rattle.replies.proofs.refusal.refused.Reads as refused
use Rattle.replies.proofs.kind.special_of.Reads as special-of
use Rattle.replies.proofs.kind.special.Reads as special
use Rattle.replies.proofs.mapped.of_mapped.Reads as of-mapped
use Rattle.replies.proofs.numeric.widen.Reads as widen
use Rattle.replies.proofs.numeric.narrow.Reads as narrow
use Rattle.replies.proofs.numeric.float_of.Reads as float_of
use Rattle.replies.proofs.numeric.of_oid.Reads as of-oid
use Rattle.replies.proofs.numeric.of_strict_oid.Reads as of-strict-oid
use Rattle.replies.proofs.numeric.of_ber.Reads as of-ber
use Rattle.replies.proofs.outcome.of_written.Reads as of-written
use Rattle.replies.proofs.pack.of_peek.Reads as of-peek
use Rattle.replies.proofs.pack.of_read.Reads as of-read
use Rattle.replies.proofs.pack.of_cell.Reads as of-cell
use Rattle.replies.proofs.pack.of_usable.Reads as of-usable
use Rattle.replies.proofs.set.of_set.Reads as of-set
use Rattle.replies.proofs.set.of_place.Reads as of-place
use Rattle.replies.proofs.put.put_reply.Reads as put-reply
use Rattle.shown.proofs.OneAnswer.{put-bytes-one, put-deviations-one, put-slots-one, put-touched-one, put-written-one, put-pack-one}
use Rattle.shown.proofs.bytes.put_bytes.Reads as put-bytes
use Rattle.shown.proofs.lines.put_deviations.Reads as put-deviations
use Rattle.shown.proofs.lines.put_slots.Reads as put-slots
use Rattle.shown.proofs.touched.put_touched.Reads as put-touched
use Rattle.shown.proofs.written.put_written.Reads as Put-written
use Rattle.shown.proofs.pack.put_pack.Reads as put-pack
use Rattle.requests.proofs.OneAnswer.{read-request-one, states-of-one}
use Rattle.requests.proofs.request.read_request.Reads as read-request
use Rattle.requests.proofs.states.states_of.Reads as states-of
use Rattle.trip.proofs.OneAnswer.{round-trip-one}
use Rattle.trip.proofs.round_trip.round_trip.Reads as round_trip

pub record Determined : Type 2 where
  -- the table
  pub row-of-determined : OneResult row_of.Learnt
  -- text
  pub within-determined : (T : RattleType) (l : Laws T) → OneResult (within.Learnt T l)
  pub page-new-determined : OnePart page-new.Learnt (λ κs r. filled r)
  pub page-place-determined : OneResult page-place.Learnt
  pub page-byte-determined : OneAnswer page-byte.Learnt (λ κs s. filled s.0.now)
  pub page-text-determined : OneAnswer page-text.Learnt (λ κs s. filled s.0.now)
  pub page-decimal-determined : OneAnswer page-decimal.Learnt (λ κs s. filled s.0.now)
  pub page-named-determined : OneAnswer page-named.Learnt (λ κs s. filled s.0.now)
  pub page-hex-determined : OneAnswer page-hex.Learnt (λ κs s. filled s.0.now)
  pub page-bits-determined : OneAnswer page-bits.Learnt (λ κs s. filled s.0.now)
  pub digit-at-determined : OneResult digit_at.Learnt
  pub decimal-digit-at-determined : OneResult decimal-digit-at.Learnt
  pub decimal-determined : OneResult decimal.Learnt
  pub hex-determined : OneResult hex.Learnt
  pub literal-determined : OneResult literal.Learnt
  pub at-end-determined : OneResult at-end.Learnt
  pub decimal-up-to-determined : OneResult decimal-up-to.Learnt
  pub entry-after-space-determined : OneResult entry-after-space.Learnt
  pub entries-determined : OneAnswer entries.Learnt (λ κs s. s.1.1.1.0.now)
  pub list-determined : OneAnswer list.Learnt (λ κs s. s.1.1.1.0.now)
  pub byte-string-determined : OneAnswer byte-string.Learnt (λ κs s. s.0.now)
  pub mark-determined : (T : RattleType) (l : Laws T) (copy : IsCopy T) (m : Marked.Ghosts T.Denot) (md : Dict) (k : Clone.Ghosts T.Denot) (kd : Dict) (e : PartialEq.Ghosts T.Denot) (ed : Dict)
      → OneAnswer (mark.Learnt T l copy m md k kd e ed) (λ κs s. s.0.now)
  pub changed-determined : (T : RattleType) (l : Laws T) (copy : IsCopy T) (m : Marked.Ghosts T.Denot) (md : Dict) (k : Clone.Ghosts T.Denot) (kd : Dict) (e : PartialEq.Ghosts T.Denot) (ed : Dict)
      → OneResult (changed.Learnt T l copy m md k kd e ed)
  pub letter-in-determined : OneResult letter-in.Learnt
  pub room-of-determined : (T : RattleType) (N : ℕ) (l : Laws T) (fits : Fits w64 N) (copy : IsCopy T) (k : Clone.Ghosts T.Denot) (kd : Dict) → OneResult (room-of.Learnt T N l fits copy k kd)
  -- numbers
  pub read-be-determined : OneResult read-be.Learnt
  pub read-le-determined : OneResult read-le.Learnt
  pub ber-oid-len-determined : OneResult ber-oid-len.Learnt
  pub read-ber-oid-determined : OneResult read-ber-oid.Learnt
  pub read-ber-oid-strict-determined : OneResult read-ber-oid-strict.Learnt
  pub read-ber-determined : OneResult read-ber.Learnt
  pub read-ber-strict-determined : OneResult read-ber-strict.Learnt
  pub write-be-determined : OneAnswer write-be.Learnt (λ κs s. s.1.0.now)
  pub write-le-determined : OneAnswer write-le.Learnt (λ κs s. s.1.0.now)
  pub write-ber-oid-determined : OneAnswer write-ber-oid.Learnt (λ κs s. s.1.0.now)
  pub nearest-binary64-determined : OneResult nearest-binary64.Learnt
  pub binary64-to-binary32-determined : OneResult binary64-to-binary32.Learnt
  pub binary32-to-binary64-determined : OneResult binary32-to-binary64.Learnt
  pub bits-of-determined : OneResult bits-of.Learnt
  pub whole-part-determined : OneResult whole_part.Learnt
  -- mapped values and special codes
  pub code-length-determined : OneResult code-length.Learnt
  pub decode-imapb-determined : OneResult decode-imapb.Learnt
  pub unless-special-determined : OneResult unless-special.Learnt
  pub check-length-determined : OneResult check-length.Learnt
  pub check-code-determined : OneResult check-code.Learnt
  pub check-range-determined : OneResult check-range.Learnt
  pub imapb-code-determined : OneResult imapb-code.Learnt
  pub imapb-mapping-determined : OneResult imapb-mapping.Learnt
  pub encode-imapb-determined : OneAnswer encode-imapb.Learnt (λ κs s. s.1.1.0.now)
  pub encode-imapb-special-determined : OneAnswer encode-imapb-special.Learnt (λ κs s. s.1.1.0.now)
  -- mapped values over a range
  pub range-check-determined : OneResult range-check.Learnt
  pub range-mapping-determined : OneResult range-mapping.Learnt
  pub decode-worked-out-determined : OneResult decode-worked-out.Learnt
  pub decode-imapb-in-determined : OneResult decode-imapb-in.Learnt
  -- layout
  pub parse-mode1-determined : OneResult parse-mode1.Learnt
  pub parse-mode2-determined : OneResult parse-mode2.Learnt
  pub read-header-determined : OneResult read-header.Learnt
  pub check-matrix-size-fits-determined : OneResult check-matrix-size-fits.Learnt
  pub peek-matrix-size-determined : OneResult peek-matrix-size.Learnt
  pub corr-slots-determined : OneResult corr-slots.Learnt
  pub triangle-slot-determined : OneResult triangle-slot.Learnt
  pub bounded-slots-determined : OneResult bounded-slots.Learnt
  pub refusal-from-broken-determined : OneResult refusal-from-broken.Learnt
  pub by-determined : OneResult by.Learnt
  -- the packs of a set
  pub is-pushed-determined : OneResult is-pushed.Learnt
  pub read-item-determined : OneResult read-item.Learnt
  pub next-pack-determined : OneResult next-pack.Learnt
  pub pack-part-determined : OnePart pack-part.Learnt (λ κs r. r.now)
  pub tags-part-determined : OnePart tags-part.Learnt (λ κs r. r.now)
  pub read-set-determined : OneAnswer read_set.Learnt (λ κs s. s.1.0.now)
  pub pack-at-determined : OneResult pack-at.Learnt
  pub set-pack-determined : OnePart set-pack.Learnt (λ κs r. r.now)
  pub tags-of-determined : OnePart tags-of.Learnt (λ κs r. r.now)
  -- the elements of a pack
  pub open-pack-determined : OneResult open-pack.Learnt
  pub deviation-count-determined : OneResult deviation-count.Learnt
  pub pack-of-determined : OneResult pack-of.Learnt
  pub left-determined : OneResult left.Learnt
  pub check-number-determined : OneResult check-number.Learnt
  pub value-bits-determined : OneResult value-bits.Learnt
  pub deviation-at-determined : OneResult deviation-at.Learnt
  pub check-slot-determined : OneResult check-slot.Learnt
  pub state-of-determined : OneResult state-of.Learnt
  pub slot-of-determined : OneResult slot_of.Learnt
  pub correlation-at-determined : OneResult correlation-at.Learnt
  pub slot-at-determined : OneResult slot_at.Learnt
  pub is-present-determined : OneResult is-present.Learnt
  pub present-count-determined : OneResult present-count.Learnt
  -- the deviations, over a range or none
  pub check-deviation-range-determined : OneResult check-deviation-range.Learnt
  pub deviation-form-determined : OneResult deviation-form.Learnt
  pub deviation-in-determined : OneResult deviation-in.Learnt
  -- the rules
  pub decide-determined : OneResult decide.Learnt
  pub judge-determined : OneResult judge.Learnt
  pub check-rooms-determined : OneResult check-rooms.Learnt
  pub check-rooms-for-determined : OneResult check-rooms-for.Learnt
  -- why a pack is refused, and its places
  pub explain-determined : OneResult explain.Learnt
  pub slot-code-determined : OneResult slot-code.Learnt
  pub behind-determined : OneResult behind.Learnt
  -- the reader
  pub by-words-determined : OneResult by-words.Learnt
  pub store-mapped-determined : OneAnswer {L = List ℕ × List ℕ} store-mapped.Learnt (λ κs s. (s.1.1.1.0.now, s.1.1.1.1.0.now))
  pub decode-sdcc-flp-determined : OneAnswer {L = List ℕ × List ℕ × List ℕ} decode-sdcc-flp.Learnt (λ κs s. (s.1.0.now, s.1.1.0.now, s.1.1.1.0.now))
  pub decode-sdcc-flp-in-determined : OneAnswer {L = List ℕ × List ℕ × List ℕ} decode-sdcc-flp-in.Learnt (λ κs s. (s.1.1.1.0.now, s.1.1.1.1.0.now, s.1.1.1.1.1.0.now))
  -- the writer
  pub plan-pack-determined : OneResult plan-pack.Learnt
  pub zero-of-determined : OneResult zero_of.Learnt
  pub write-slots-determined : OneAnswer write-slots.Learnt (λ κs s. s.1.1.1.0.now)
  pub encode-sdcc-flp-mode2-determined : OneAnswer encode-sdcc-flp-mode2.Learnt (λ κs s. s.1.1.1.0.now)
  pub encode-sdcc-flp-determined : OneAnswer encode-sdcc-flp.Learnt (λ κs s. s.1.1.0.now)
  -- .npy files
  pub write-header-determined : OneAnswer write-header.Learnt (λ κs s. s.1.0.now)
  pub size-in-determined : OneResult size_in.Learnt
  pub check-header-determined : OneResult check-header.Learnt
  pub export-npy-determined : OneAnswer export-npy.Learnt (λ κs s. s.1.1.1.0.now)
  pub import-npy-determined : OneAnswer {L = List ℕ × List ℕ × List ℕ} import-npy.Learnt (λ κs s. (s.1.0.now, s.1.1.0.now, s.1.1.1.0.now))
  -- lookup and usable
  pub correlation-determined : OneResult correlation.Learnt
  pub usable-determined : OneResult usable.Learnt
  -- what the programs print
  pub put-entries-determined : OneAnswer put_entries.Learnt (λ κs s. filled s.1.1.1.0.now)
  pub put-values-determined : OneAnswer put-values.Learnt (λ κs s. filled s.1.1.0.now)
  pub put-refused-determined : OneAnswer Put-refused.Learnt (λ κs s. filled s.1.0.now)
  pub put-refusal-determined : OneAnswer put-refusal.Learnt (λ κs s. filled s.1.0.now)
  pub put-counts-determined : OneAnswer put-counts.Learnt (λ κs s. filled s.1.1.1.0.now)
  pub put-line-determined : OneAnswer put-line.Learnt (λ κs s. filled s.1.1.1.1.0.now)
  pub put-rows-determined : OneAnswer put-rows.Learnt (λ κs s. filled s.1.0.now)
  pub put-answer-determined : OneAnswer {L = List ℕ × List ℕ × List ℕ × (ℕ × List ℕ)} put-answer.Learnt
      (λ κs s. (s.1.0.now, s.1.1.0.now, s.1.1.1.0.now, filled s.1.1.1.1.0.now))
  pub is-too-big-determined : OneResult is-too-big.Learnt
  pub print-pack-determined : OneAnswer print-pack.Learnt (λ κs s. s.1.0.now)
  pub set-too-big-determined : OneResult set-too-big.Learnt
  pub put-set-determined : OneAnswer put-set.Learnt (λ κs s. filled s.1.0.now)
  pub put-first-determined : OneAnswer {L = List ℕ × (ℕ × List ℕ)} put_first.Learnt (λ κs s. (s.1.0.now, filled s.1.1.0.now))
  pub put-tags-determined : OneAnswer put-tags.Learnt (λ κs s. filled s.1.0.now)
  pub put-pack-of-determined : OneAnswer {L = List ℕ × List ℕ × List ℕ × (ℕ × List ℕ)} put-pack-of.Learnt
      (λ κs s. (s.1.1.1.0.now, s.1.1.1.1.0.now, s.1.1.1.1.1.0.now, filled s.1.1.1.1.1.1.0.now))
  pub npy-of-pack-determined : OneAnswer npy-of-pack.Learnt (λ κs s. s.1.0.now)
  pub pack-of-npy-determined : OneAnswer pack-of-npy.Learnt (λ κs s. s.1.1.0.now)
  pub put-reason-determined : OneAnswer put-reason.Learnt (λ κs s. filled s.1.1.1.1.1.0.now)
  pub put-gap-determined : OneAnswer put-gap.Learnt (λ κs s. filled s.1.0.now)
  pub put-elements-determined : OneAnswer put-elements.Learnt (λ κs s. filled s.1.1.0.now)
  pub put-slot-determined : OneAnswer put-slot.Learnt (λ κs s. filled s.1.1.1.1.1.0.now)
  pub put-account-determined : OneAnswer put-account.Learnt (λ κs s. filled s.1.1.0.now)
  pub print-why-determined : OneAnswer print-why.Learnt (λ κs s. s.1.0.now)
  -- what replay is asked, and what it answers
  pub read-request-determined : OneAnswer {L = List ℕ × List ℕ} read-request.Learnt (λ κs s. (s.0.now, s.1.0.now))
  pub states-of-determined : OneAnswer states-of.Learnt (λ κs s. s.1.0.now)
  pub letter-determined : OneResult letter.Learnt
  pub is-field-determined : OneResult is_field.Learnt
  pub one-determined : OneResult one.Learnt
  pub words-determined : OneResult words.Learnt
  pub refused-determined : OneResult refused.Learnt
  pub special-of-determined : OneResult special-of.Learnt
  pub special-determined : OneResult special.Learnt
  pub of-mapped-determined : OneResult of-mapped.Learnt
  pub widen-determined : OneResult widen.Learnt
  pub narrow-determined : OneResult narrow.Learnt
  pub float-of-determined : OneResult float_of.Learnt
  pub of-oid-determined : OneResult of-oid.Learnt
  pub of-strict-oid-determined : OneResult of-strict-oid.Learnt
  pub of-ber-determined : OneResult of-ber.Learnt
  pub of-written-determined : OneResult of-written.Learnt
  pub of-peek-determined : OneResult of-peek.Learnt
  pub of-read-determined : OneResult of-read.Learnt
  pub of-cell-determined : OneResult of-cell.Learnt
  pub of-usable-determined : OneResult of-usable.Learnt
  pub of-set-determined : OneResult of-set.Learnt
  pub of-place-determined : OneResult of-place.Learnt
  pub put-reply-determined : OneAnswer put-reply.Learnt (λ κs s. filled s.1.0.now)
  pub put-bytes-determined : OneAnswer put-bytes.Learnt (λ κs s. filled s.1.1.0.now)
  pub put-deviations-determined : OneAnswer put-deviations.Learnt (λ κs s. filled s.1.1.0.now)
  pub put-slots-determined : OneAnswer put-slots.Learnt (λ κs s. filled s.1.1.1.1.0.now)
  pub put-touched-determined : OneAnswer put-touched.Learnt (λ κs s. filled s.1.0.now)
  pub put-written-determined : OneAnswer Put-written.Learnt (λ κs s. filled s.1.1.1.0.now)
  pub put-pack-determined : OneAnswer put-pack.Learnt (λ κs s. filled s.1.1.1.1.1.0.now)
  -- written, read and compared
  pub round-trip-determined : OneAnswer {L = Lent} round_trip.Learnt (λ κs s. lent_of s.1.1.1.0.now s.1.1.1.1.0.now s.1.1.1.1.1.0.now s.1.1.1.1.1.1.0.now)

pub determined : Determined
determined =
    record {
      row-of-determined = row-of-one;
      within-determined = within-one;
      page-new-determined = page-new-one;
      page-place-determined = page-place-one;
      page-byte-determined = page-byte-one;
      page-text-determined = page-text-one;
      page-decimal-determined = page-decimal-one;
      page-named-determined = page-named-one;
      page-hex-determined = page-hex-one;
      page-bits-determined = page-bits-one;
      digit-at-determined = digit-at-one;
      decimal-digit-at-determined = decimal-digit-at-one;
      decimal-determined = decimal-one;
      hex-determined = hex-one;
      literal-determined = literal-one;
      at-end-determined = at-end-one;
      decimal-up-to-determined = decimal-up-to-one;
      entry-after-space-determined = entry-after-space-one;
      entries-determined = entries-one;
      list-determined = list-one;
      byte-string-determined = byte-string-one;
      mark-determined = mark-one;
      changed-determined = changed-one;
      letter-in-determined = letter-in-one;
      room-of-determined = room-of-one;
      read-be-determined = read-be-one;
      read-le-determined = read-le-one;
      ber-oid-len-determined = ber-oid-len-one;
      read-ber-oid-determined = read-ber-oid-one;
      read-ber-oid-strict-determined = read-ber-oid-strict-one;
      read-ber-determined = read-ber-one;
      read-ber-strict-determined = read-ber-strict-one;
      write-be-determined = write-be-one;
      write-le-determined = write-le-one;
      write-ber-oid-determined = write-ber-oid-one;
      nearest-binary64-determined = nearest-binary64-one;
      binary64-to-binary32-determined = binary64-to-binary32-one;
      binary32-to-binary64-determined = binary32-to-binary64-one;
      bits-of-determined = bits-of-one;
      whole-part-determined = whole-part-one;
      code-length-determined = code-length-one;
      decode-imapb-determined = decode-imapb-one;
      unless-special-determined = unless-special-one;
      check-length-determined = check-length-one;
      check-code-determined = check-code-one;
      check-range-determined = check-range-one;
      imapb-code-determined = imapb-code-one;
      imapb-mapping-determined = imapb-mapping-one;
      encode-imapb-determined = encode-imapb-one;
      encode-imapb-special-determined = encode-imapb-special-one;
      range-check-determined = range-check-one;
      range-mapping-determined = range-mapping-one;
      decode-worked-out-determined = decode-worked-out-one;
      decode-imapb-in-determined = decode-imapb-in-one;
      parse-mode1-determined = parse-mode1-one;
      parse-mode2-determined = parse-mode2-one;
      read-header-determined = read-header-one;
      check-matrix-size-fits-determined = check-matrix-size-fits-one;
      peek-matrix-size-determined = peek-matrix-size-one;
      corr-slots-determined = corr-slots-one;
      triangle-slot-determined = triangle-slot-one;
      bounded-slots-determined = bounded-slots-one;
      refusal-from-broken-determined = refusal-from-broken-one;
      by-determined = by_one;
      is-pushed-determined = is-pushed-one;
      read-item-determined = read-item-one;
      next-pack-determined = next-pack-one;
      pack-part-determined = pack-part-one;
      tags-part-determined = tags-part-one;
      read-set-determined = read-set-one;
      pack-at-determined = pack-at-one;
      set-pack-determined = set-pack-one;
      tags-of-determined = tags-of-one;
      open-pack-determined = open-pack-one;
      deviation-count-determined = deviation-count-one;
      pack-of-determined = pack-of-one;
      left-determined = left_one;
      check-number-determined = check-number-one;
      value-bits-determined = value-bits-one;
      deviation-at-determined = deviation-at-one;
      check-slot-determined = check-slot-one;
      state-of-determined = state-of-one;
      slot-of-determined = slot-of-one;
      correlation-at-determined = correlation-at-one;
      slot-at-determined = slot-at-one;
      is-present-determined = is-present-one;
      present-count-determined = present-count-one;
      check-deviation-range-determined = check-deviation-range-one;
      deviation-form-determined = deviation-form-one;
      deviation-in-determined = deviation-in-one;
      decide-determined = decide-one;
      judge-determined = judge-one;
      check-rooms-determined = check-rooms-one;
      check-rooms-for-determined = check-rooms-for-one;
      explain-determined = explain-one;
      slot-code-determined = slot-code-one;
      behind-determined = behind-one;
      by-words-determined = by-words-one;
      store-mapped-determined = store-mapped-one;
      decode-sdcc-flp-determined = decode-sdcc-flp-one;
      decode-sdcc-flp-in-determined = decode-sdcc-flp-in-one;
      plan-pack-determined = plan-pack-one;
      zero-of-determined = zero-of-one;
      write-slots-determined = write-slots-one;
      encode-sdcc-flp-mode2-determined = encode-sdcc-flp-mode2-one;
      encode-sdcc-flp-determined = encode-sdcc-flp-one;
      write-header-determined = write-header-one;
      size-in-determined = size-in-one;
      check-header-determined = check-header-one;
      export-npy-determined = export-npy-one;
      import-npy-determined = import-npy-one;
      correlation-determined = correlation-one;
      usable-determined = usable-one;
      put-entries-determined = put-entries-one;
      put-values-determined = put-values-one;
      put-refused-determined = put-refused-one;
      put-refusal-determined = put-refusal-one;
      put-counts-determined = put-counts-one;
      put-line-determined = put-line-one;
      put-rows-determined = put-rows-one;
      put-answer-determined = put-answer-one;
      is-too-big-determined = is-too-big-one;
      print-pack-determined = print-pack-one;
      set-too-big-determined = set-too-big-one;
      put-set-determined = put-set-one;
      put-first-determined = put-first-one;
      put-tags-determined = put-tags-one;
      put-pack-of-determined = put-pack-of-one;
      npy-of-pack-determined = npy-of-pack-one;
      pack-of-npy-determined = pack-of-npy-one;
      put-reason-determined = put-reason-one;
      put-gap-determined = put-gap-one;
      put-elements-determined = put-elements-one;
      put-slot-determined = put-slot-one;
      put-account-determined = put-account-one;
      print-why-determined = print-why-one;
      read-request-determined = read-request-one;
      states-of-determined = states-of-one;
      letter-determined = letter-one;
      is-field-determined = is-field-one;
      one-determined = one-one;
      words-determined = words-one;
      refused-determined = refused-one;
      special-of-determined = special-of-one;
      special-determined = special-one;
      of-mapped-determined = of-mapped-one;
      widen-determined = widen-one;
      narrow-determined = narrow_one;
      float-of-determined = float-of-one;
      of-oid-determined = of-oid-one;
      of-strict-oid-determined = of-strict-oid-one;
      of-ber-determined = of-ber-one;
      of-written-determined = of-written-one;
      of-peek-determined = of-peek-one;
      of-read-determined = of-read-one;
      of-cell-determined = of-cell-one;
      of-usable-determined = of-usable-one;
      of-set-determined = of-set-one;
      of-place-determined = of-place-one;
      put-reply-determined = put-reply-one;
      put-bytes-determined = put-bytes-one;
      put-deviations-determined = put-deviations-one;
      put-slots-determined = put-slots-one;
      put-touched-determined = put-touched-one;
      put-written-determined = put-written-one;
      put-pack-determined = put-pack-one;
      round-trip-determined = round-trip-one;
    }
