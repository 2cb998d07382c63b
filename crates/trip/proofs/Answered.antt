-- Every input of every public function that answers by the table has an answer of it: rule by rule.
-- Assumes nothing.
use mathlib.Core.List.{List, [], ◌∷◌}
use Prim.Native.Nat.{ℕ, zero, suc, ◌+◌, ◌-◌, ◌*◌}
use lib.Dec.{eqb, ltb}
use lib.ListN.{length}
use Rattle.std.specs.Prelude.{None, Some, Option, Result, Ok, Err}
use Rattle.answers.specs.Table.{Answer, answer, short, wholes, passes, next, each, room_rule}
use Rattle.answers.specs.Listed.{InTable}
use Rattle.answers.proofs.InTable.{in-done, in-1, in-8, in-10, in-pick, in-next, table}
use Rattle.numbers.specs.Words.{word_of}
use Rattle.imapb.specs.declared.decode.DecodedImapb.{DecodedImapb}
use Rattle.imapb.specs.declared.decode.DecodedImapb.TheVariants.{Value, Special, ReservedSpecial, OutOfRange}
use Rattle.imapb.specs.Tables.{range_rule, length_rule}
use Rattle.ranges.specs.Range.{reading_in}
use Rattle.layout.specs.Triangle.{slots_of}
use Rattle.layout.specs.declared.control.ParseControl.{ParseControl}
use Rattle.layout.specs.declared.header.Head.{Head}
use Rattle.layout.specs.declared.header.HeaderError.{HeaderError}
use Rattle.layout.specs.declared.header.HeaderError.TheVariants.{Unreadable, Short}
use Rattle.layout.specs.declared.rule.Rule.{Rule}
use Rattle.layout.specs.declared.rule.Rule.TheVariants.{A, B, C, D, E, F, G, H, I, J, K}
use Rattle.layout.specs.Header.{said_size, control_of, body_at, header_of, rule_a, rule_b, header_refusal, head_rules}
use Rattle.layout.specs.Size.{fit_rules, size_rules, peeked}
use Rattle.layout.proofs.Peek.{size-answers, fit-answers}
use Rattle.sets.specs.declared.item.Item.{Item}
use Rattle.sets.specs.Tags.{pack_tag}
use Rattle.sets.specs.Parts.{part_of}
use Rattle.sets.specs.Items.{Placed, items_of}
use Rattle.sets.specs.Packs.{pushed, tags_of, packs_of}
use Rattle.sets.specs.Rules.{peek_rule, pack_rule, room_rule as tag_rule, item_rules, set_rules, counts}
use Rattle.elements.specs.Elements.{head_of, deviations_at, deviation_count, codes_at, present_count, end_at}
use Rattle.elements.specs.Formats.{deviation_format, code_format}
use Rattle.elements.specs.Numbers.{element_rule}
use Rattle.deviations.specs.declared.form.DeviationRange.{DeviationRange}
use Rattle.deviations.specs.Range.{known, lent_rule, value_rule, format_over, row_part}
use Rattle.codes.specs.Store.{store_rules}
use Rattle.reader.specs.Rules.{done, read_answer_in}
use Rattle.rules.specs.Named.{rule_of}
use Rattle.rules.specs.Rules.{in_turn, codes_rule, over_rule, rule_h, rule_i, rule_j, rule_k, element_rules, pack_rules, rooms_rule, room_rules}
use Rattle.rules.proofs.Named.{element-answers}
use Rattle.layout.specs.declared.header.Head.{Head}
use Rattle.npy_header.specs.Header.{size_in}
use Rattle.npy_header.specs.Rules.{header_rule}
use Rattle.npy.specs.Rules as npy
use Rattle.npy.specs.Rules.{pair_rule, row_rules, pair_rules, file_rules, import_rules}
use Rattle.plan.specs.Places.{pack_plan}
use Rattle.writer.specs.Pack.{pack_bytes}
use Rattle.trip.specs.Answered.{Answered}
use Rattle.plan.specs.Rules.{count_rules, range_rules, plan_rules}

-- each element, alone and in turn, and each correlation
element-in : (bytes : List ℕ) (at size : ℕ) (format : Answer) → InTable format → InTable (element_rule bytes at size format)
element-in bytes at size format f =
    in-pick (ltb (length bytes - at) size) (short size (length bytes - at)) format (in-1 size (length bytes - at)) f

-- rules in turn
each_in : (rule : ℕ → Answer) → ((k : ℕ) → InTable (rule k)) → (n : ℕ) → InTable (each n rule)
each_in rule f zero = in-done []
each_in rule f (suc n) = in-next (each n rule) (rule n) (each_in rule f n) (f n)

turns-in : (bytes : List ℕ) (at size : ℕ) (format : ℕ → Answer) → ((i : ℕ) → InTable (format i)) → (n : ℕ) → InTable (in_turn bytes at size format n)
turns-in bytes at size format f =
    each_in (λ k. element_rule bytes (at + k * size) size (format k)) (λ k. element-in bytes (at + k * size) size (format k) (f k))

range-in : (v : ℕ) → InTable (range_rule v)
range-in v = search table depth 10

ranges_in : (cs : List ℕ) → InTable (range_rules cs)
ranges_in [] = in-done []
ranges_in (c ∷ cs) = in-next (range_rule c) (range_rules cs) (range-in c) (ranges_in cs)

-- rules a) to g), and h) to k)
sizes-in : (n R : ℕ) (k : ParseControl) → InTable (size_rules n R k)
sizes-in n R k = rw (size-answers n R k) (search table depth 20)

header-in : (h : Result Head HeaderError) → InTable (header_refusal h)
header-in (Err Unreadable) = in-1 0 0
header-in (Err Short) = in-1 1 0
header-in (Ok head) = in-done []

heads-in : (bytes : List ℕ) → InTable (head_rules bytes)
heads-in bytes = header-in (header_of bytes)

formats-in : (k : ParseControl) → InTable (deviation_format k) × InTable (code_format k)
formats-in k = (search table depth 10, search table depth 10)

codes-in : (k : ParseControl) (present left : ℕ) → InTable (codes_rule k present left)
codes-in k present left = search table depth 10

over-in : (used given : ℕ) → InTable (over_rule used given)
over-in used given = search table depth 10

-- over a range, or over none
values-in : (row : ℕ) (d : DecodedImapb) → InTable (value_rule row d)
values-in row (Value x) = in-done []
values-in row (Special s) = in-8 row
values-in row (ReservedSpecial y) = in-8 row
values-in row (OutOfRange x) = in-8 row

lengths-in : (L : ℕ) → InTable (length_rule L)
lengths-in L = search table depth 10

lent-in : (range : Option DeviationRange) → InTable (lent_rule range)
lent-in None = in-done []
lent-in (Some range) = search table depth 10

over-range-in : (range : Option DeviationRange) (k : ParseControl) (i : ℕ) (raw : List ℕ) → InTable (format_over range k i raw)
over-range-in None k i raw = (formats-in k).0
over-range-in (Some range) k i raw =
    let v = reading_in range.min range.max k.slen (word_of raw) in
    in-pick k.sf (next (length_rule k.slen) (value_rule i v)) (deviation_format k)
    (in-next (length_rule k.slen) (value_rule i v) (lengths-in k.slen) (values-in i v)) (formats-in k).0

elements-in : (range : Option DeviationRange) (bytes : List ℕ) → InTable (element_rules range bytes (head_of bytes))
elements-in range bytes =
    let h = head_of bytes in
    let k = h.control in
    let raw : ℕ → List ℕ = row_part bytes (deviations_at h) k in
    rw (element-answers range bytes h)
    (in-next (rule_h range bytes h) (next (rule_i bytes h) (next (rule_j bytes h) (rule_k bytes h)))
    (turns-in bytes (deviations_at h) k.slen (λ i. format_over range k i (raw i)) (λ i. over-range-in range k i (raw i)) (deviation_count h))
    (in-next (rule_i bytes h) (next (rule_j bytes h) (rule_k bytes h)) (codes-in k (present_count bytes h) (length bytes - codes_at h))
    (in-next (rule_j bytes h) (rule_k bytes h) (turns-in bytes (codes_at h) k.clen (λ _. code_format k) (λ _. (formats-in k).1) (present_count bytes h)) (over-in (end_at bytes h) (length bytes)))))

-- each rule by its name
header-rules-in : (h : Result Head HeaderError) → InTable (rule_a h) × InTable (rule_b h)
header-rules-in (Err Unreadable) = (in-1 0 0, in-done [])
header-rules-in (Err Short) = (in-done [], in-1 1 0)
header-rules-in (Ok head) = (in-done [], in-done [])

rules-in : (bytes : List ℕ) (x : Rule) → InTable (rule_of bytes x)
rules-in bytes A = (header-rules-in (header_of bytes)).0
rules-in bytes B = (header-rules-in (header_of bytes)).1
rules-in bytes C = search table depth 10
rules-in bytes D = search table depth 10
rules-in bytes E = search table depth 10
rules-in bytes F = search table depth 10
rules-in bytes G = search table depth 10
rules-in bytes H =
    let h = head_of bytes in
    turns-in bytes (deviations_at h) h.control.slen (λ _. deviation_format h.control) (λ _. (formats-in h.control).0) (deviation_count h)
rules-in bytes I = let h = head_of bytes in codes-in h.control (present_count bytes h) (length bytes - codes_at h)
rules-in bytes J =
    let h = head_of bytes in
    turns-in bytes (codes_at h) h.control.clen (λ _. code_format h.control) (λ _. (formats-in h.control).1) (present_count bytes h)
rules-in bytes K = over-in (end_at bytes (head_of bytes)) (length bytes)

rooms-for-in : (rows slots d c s : ℕ) → InTable (rooms_rule rows slots d c s)
rooms-for-in rows slots d c s = search table depth 20

rooms_in : (h : Head) (d c s : ℕ) → InTable (room_rules h d c s)
rooms_in h = rooms-for-in (deviation_count h) (slots_of h.n)

-- a) to g), and a) to k)
fits_in : (bytes : List ℕ) → InTable (fit_rules bytes)
fits_in bytes =
    let n = said_size bytes in
    let R = length bytes - body_at bytes in
    let k = control_of bytes in
    rw (fit-answers bytes) (in-next (head_rules bytes) (size_rules n R k) (heads-in bytes) (sizes-in n R k))

packs-in : (range : Option DeviationRange) (bytes : List ℕ) → InTable (pack_rules range bytes)
packs-in range bytes =
    let elements = element_rules range bytes (head_of bytes) in
    in-next (lent_rule range) (next (fit_rules bytes) elements) (lent-in range) (in-next (fit_rules bytes) elements (fits_in bytes) (elements-in range bytes))

stores-in : (range : Option DeviationRange) (bytes : List ℕ) (d c s : ℕ) → InTable (store_rules range bytes d c s)
stores-in range bytes d c s =
    let h = head_of bytes in in-next (pack_rules range bytes) (room_rules h d c s) (packs-in range bytes) (rooms_in h d c s)

reads_in : (range : Option DeviationRange) (bytes : List ℕ) (d c s : ℕ) → InTable (read_answer_in range bytes d c s)
reads_in range bytes d c s =
    in-next (store_rules range bytes d c s) (done (head_of bytes)) (stores-in range bytes d c s) (search table depth 10)

-- the items of a set
peeks-in : (r : Option ℕ) → InTable (peek_rule r)
peeks-in (Some n) = in-done []
peeks-in None = in-1 0 0

items-in : (set : List ℕ) (tags seen at : ℕ) (i : Option Item) → InTable (item_rules set tags seen at i)
items-in set tags seen at None = in-10 at
items-in set tags seen at (Some i) =
    in-next (pack_rule set i.tag i.start i.end) (tag_rule tags seen i.tag)
    (in-pick (eqb i.tag pack_tag) (peek_rule (peeked (part_of i.start i.end set))) passes (peeks-in (peeked (part_of i.start i.end set))) (in-done []))
    (search table depth 10)

sets-in : (set : List ℕ) (tags seen : ℕ) (ps : List Placed) → InTable (set_rules set tags seen ps)
sets-in set tags seen [] = in-done []
sets-in set tags seen (p ∷ ps) =
    let n = seen + length (pushed p.item) in
    in-next (item_rules set tags seen p.at p.item) (set_rules set tags n ps) (items-in set tags seen p.at p.item) (sets-in set tags n ps)

-- the writer's counts, the plan, the room, and the slots
counts-in : (n count L : ℕ) → InTable (count_rules n count L)
counts-in n count L = search table depth 10

plans-in : (n : ℕ) (cs : List ℕ) (L : ℕ) → InTable (plan_rules n cs L)
plans-in n cs L = in-next (count_rules n (length cs) L) (range_rules cs) (counts-in n (length cs) L) (ranges_in cs)

room_in : (needed room : ℕ) → InTable (room_rule needed room)
room_in needed room = search table depth 10

-- a .npy file
pairs-in : (file : List ℕ) (n : ℕ) → InTable (pair_rules file n)
unfolding pair_rules
pairs-in file n =
    each_in (row_rules file n) (λ i. each_in (λ k. pair_rule file n i (i + 1 + k)) (λ k. search table depth 10) (n - 1 - i)) n

header-rule-in : (file : List ℕ) → InTable (header_rule file)
header-rule-in file = search table depth 10

file-in : (file : List ℕ) → InTable (file_rules file)
file-in file =
    let n = size_in file in
    in-next (header_rule file) (next (npy.size_rules file n) (pair_rules file n)) (header-rule-in file)
    (in-next (npy.size_rules file n) (pair_rules file n) (search table depth 10) (pairs-in file n))

done-in : (n : ℕ) → InTable (answer 0 (wholes (n ∷ [])))
done-in n = search table depth 10

pub answered : Answered
answered =
    record {
      reads_in = reads_in;
      reads = reads_in None;
      heads = heads-in;
      fits = sizes-in;
      opens = fits_in;
      lent = lent-in;
      decides = packs-in;
      rooms = rooms_in;
      stores = stores-in;
      rooms-for = rooms-for-in;
      takes = λ set room.
          let done = counts (length (packs_of set 0 (items_of set))) (length (tags_of (items_of set))) in
          in-next (set_rules set room 0 (items_of set)) done (sets-in set room 0 (items_of set)) (search table depth 10);
      exports = λ n ds cs room. search table depth 20;
      imports = λ file d c s.
          let n = size_in file in
          let rooms = rooms_rule n (slots_of n) d c s in
          in-next (import_rules file d c s) (answer 0 (wholes (n ∷ n ∷ slots_of n ∷ [])))
          (in-next (file_rules file) rooms (file-in file) (rooms-for-in n (slots_of n) d c s)) (search table depth 10);
      writes-header = λ n room. search table depth 10;
      checks-header = header-rule-in;
      writes = λ ds cs L room.
          let long = length (pack_bytes ds cs L) in
          let done = answer 0 (wholes (long ∷ [])) in
          let behind = next (room_rule long room) done in
          in-next (count_rules (length ds) (length cs) L) (next (range_rules cs) behind) (counts-in (length ds) (length cs) L)
          (in-next (range_rules cs) behind (ranges_in cs) (in-next (room_rule long room) done (room_in long room) (done-in long)));
      plans = plans-in;
      writes-slots = λ n cs L room.
          let end = (pack_plan n cs L).end in
          in-next (plan_rules n cs L) (room_rule end room) (plans-in n cs L) (room_in end room);
      writes-oid = λ v room. search table depth 10;
      maps = λ L v room. search table depth 10;
      checks = range-in;
      lengths = lengths-in;
      ranges = λ min max. lent-in (known min max);
      codes = λ L bytes. search table depth 10;
      maps-special = λ L s room. search table depth 10;
      looks-up = λ p ds cs i j. search table depth 10;
      explains = rules-in;
      prints = λ room text got. search table depth 10;
    }
