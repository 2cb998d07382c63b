-- `lines::put_slots` meets its contract: each turn puts the next line, and has the next pair.
use mathlib.Core.Path.{◌≡◌, refl, ap, ◌∙◌}
use Prim.Native.Nat.{◌<◌, min}
use native.Mathlib.Numerals.{add-one}
use native.Mathlib.Omega.{arith}
use lib.ListN.{length, take, get_or, length-take}
use lib.Seq.{get_or-take}
use Rattle.std.proofs.lemmas.List.{length_push}
use Rattle.std.proofs.lemmas.Slice.Zip.{zip_turn, zip_end}
use Rattle.text.proofs.Adding.{adds_none, adds_then}
use Rattle.shown.specs.Lines.{next_pair}
use Rattle.shown.proofs.Pairs.{pair-within}
use Rattle.shown.proofs.lines.put_slots.Goals as goal
use Rattle.shown.proofs.lines.put_slots.Goals.{In-Some}

-- what a turn comes to
record Turn (c : In-Some) : Type 0 where
  within : length c.loop-bits.yielded < min (min c.args.count (length c.args.correlations.now)) (length c.args.states.now)
  bits : c.in-Some.field-0-0.now ≡ get_or c.args.correlations.now (length c.loop-bits.yielded) 0
  state : c.in-Some.field-0-1.now ≡ get_or c.args.states.now (length c.loop-bits.yielded) 0

turn : (c : In-Some) → Turn c
turn c =
    let a = c.args in
    let held = c.within-held in
    let p = c.loop-bits in
    let w = zip_turn (take held.result a.correlations.now) a.states.now p.yielded c.into_iter-bits-iterator.result p.bits-iterator c.next.new.self c.next.result (cc) (cc) p.yielded_by _ c.in-Some.is c.next.ensures.steps in
    let long = length-take held.result a.correlations.now in
    let h : length p.yielded < held.result = omega (arith, w.0, long) in
    record {
      within = omega (arith, w.0, w.1, long, held.ensures.value);
      bits = w.2 0 ∙ get_or-take held.result a.correlations.now (length p.yielded) 0 h;
      state = w.3 0;
    }

pub loop-bits-init : goal.loop-bits-init
loop-bits-init c = (adds_none c.args.page.now, refl)

pub next_pair-pair-requires : goal.next_pair-pair-requires
next_pair-pair-requires c =
    let t = (goal.at.next_pair-pair-requires c).In-Some in
    let within = (turn t).within in
    let b = pair-within t.args.rows (length t.loop-bits.yielded) in
    rw t.loop-bits.invariant.1 (omega (arith, b.0, within), omega (arith, b.1, within))

pub loop-bits-preserved : goal.loop-bits-preserved
loop-bits-preserved c =
    let t = (goal.at.loop-bits-preserved c).In-Some in
    let p = t.loop-bits in
    let w = turn t in (
      rw (length_push, add-one) (adds_then p.invariant.0 (rw (c.slot.ensures, p.invariant.1, w.bits, w.state) at c.put_reply.ensures)),
      rw (length_push, add-one) (c.next_pair-pair.ensures ∙ ap (next_pair t.args.rows) p.invariant.1),
    )

pub returns : goal.returns
returns c =
    let a = c.args in
    let held = c.within-held in
    let p = c.loop-bits in
    let e = zip_end (take held.result a.correlations.now) a.states.now p.yielded c.into_iter-bits-iterator.result p.bits-iterator c.next.new.self c.next.result (cc) (cc) p.yielded_by c.in-None.is c.next.ensures.steps in
    let all : length p.yielded ≡ min (min a.count (length a.correlations.now)) (length a.states.now)
    = omega (arith, e, length-take held.result a.correlations.now, held.ensures.value) in
    rw all at p.invariant.0
