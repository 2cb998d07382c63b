-- `Coded::fill_states` meets its contract: each turn stores what the slot's code was, or that it is absent.
use Rattle.std.proofs.Common.{◌≡◌, ℕ, ◌+◌, ◌^◌, ◌<◌, ◌≤◌, true, length, set, sym, ◌∙◌, arith}
use Rattle.answers.specs.Lent.{tab}
use Rattle.answers.proofs.Lent.{Front}
use Rattle.answers.proofs.Tab.{tab-none, tab-more, tab-done}
use Rattle.elements.specs.Elements.{present_in, slot_in}
use Rattle.codes.specs.declared.coded.Coded.{Coded}
use Rattle.codes.proofs.Counts.{within-fits}
use Rattle.codes.proofs.Filled.{code_at, first_code, behind-absent}
use Rattle.codes.proofs.Told.{code-there, state-is, code-behind, state-absent}
use Rattle.codes.proofs.coded.Coded.fill_states.Goals as goal
use Rattle.codes.proofs.coded.Coded.fill_states.Goals.{then-is_present, else-is_present, Joined-is_present, Start, Then-is_present}

-- what slot k was
abbrev state : Coded → ℕ → ℕ
state d = λ k. (slot_in d.bytes.now d.vector d.codes d.control k).state

-- a slot that is present
marked : (c : Then-is_present)
    → let a = c.args.self.now in
    present_in a.bytes.now a.vector a.control c.loop-k.k ≡ true
marked c = sym c.is_present.ensures ∙ c.if-is_present.true

-- its code
there : (c : Then-is_present)
    → let a = c.args.self.now in
    (8 ≤ c.loop-k.next) × (c.loop-k.next + a.mapping.length ≤ length a.bytes.now)
there c =
    code-there c.args.self.now.mapped c.loop-k.k (marked c) c.loop-k.invariant.1 c.loop-k-test.true

-- what is lent is no longer than a number can count
few : (s : Start) → length s.args.self.now.bytes.now < 2 ^ 64
few s = omega arith

abbrev k : (c : Joined-is_present) → ℕ
k c = c.loop-k.k

e : (c : Joined-is_present) → c.loop-k.next ≡ code_at c.args.self.now.bytes.now c.args.self.now.vector c.args.self.now.codes c.args.self.now.control (k c)
e c = c.loop-k.invariant.1

told : (c : Joined-is_present) → {x : ℕ} → x ≡ state c.args.self.now (k c) → Front (tab c.args.self.now.slots (state c.args.self.now)) c.args.states.now ((k c) + 1) (set c.loop-k.states (k c) x)
told c e = tab-more c.args.self.now.slots (state c.args.self.now) c.loop-k.invariant.0 c.loop-k-test.true e

pub loop-k-init : goal.loop-k-init
loop-k-init c =
    let s = (goal.at.loop-k-init c).Start in let a = s.args.self.now in
    (tab-none a.slots (state a) s.requires, first_code a.bytes.now a.vector a.codes a.control)

pub state_at-requires : goal.state_at-requires
state_at-requires c = there (goal.at.state_at-requires c).Then-is_present

pub overflow_add-next : goal.overflow_add-next
overflow_add-next c = let t = (goal.at.overflow_add-next c).Then-is_present in within-fits (there t).1 (few (goal.at.overflow_add-next c).Start)

pub loop-k-preserved : goal.loop-k-preserved
loop-k-preserved c =
    elim c.if-is_present.branch [
      | then-is_present w ↦
          let t = sym c.is_present.ensures ∙ w.if-is_present.true in
          rw (w.states-is, w.next-is) (told c (state-is c.args.self.now.mapped (k c) t (e c) w.state_at.ensures), code-behind c.args.self.now.mapped (k c) t (e c))
      | else-is_present w ↦
          let f = sym c.is_present.ensures ∙ w.if-is_present.false in
          rw (w.states-is, w.next-is) (told c (state-absent c.args.self.now.mapped (k c) f), e c ∙ behind-absent c.args.self.now.bytes.now c.args.self.now.vector c.args.self.now.codes c.args.self.now.control (k c) f)
    ]

pub returns : goal.returns
returns c = tab-done c.args.self.now.slots (state c.args.self.now) c.loop-k.invariant.0 c.loop-k-test.false
