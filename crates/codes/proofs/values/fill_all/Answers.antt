-- `values::fill_all` meets its contract: each turn stores the next code's number, which is there, and that the slot is
-- present.
use Rattle.std.proofs.Common.{◌≡◌, ℕ, refl, zero-mul, arith}
use Rattle.answers.proofs.Lent.{length-tab}
use Rattle.codes.specs.Fill.{mapped_in}
use Rattle.answers.proofs.Tab.{tab-none, tab-more, tab-done}
use Rattle.codes.proofs.Bounds.{within_none, within_more}
use Rattle.codes.proofs.Marked.{code-next}
use Rattle.codes.proofs.values.fill_all.Goals as goal
use Rattle.codes.proofs.values.fill_all.Goals.{Start}

-- slot k of the arguments
abbrev number : Start → ℕ → ℕ
number c = mapped_in c.args.bytes.now c.args.codes c.args.mapping.length

pub loop-k-init : goal.loop-k-init
loop-k-init c =
    let s = (goal.at.loop-k-init c).Start in (tab-none s.args.slots (number s) s.requires.1, tab-none s.args.slots (λ _. 1) s.requires.2, omega (arith, zero-mul s.args.mapping.length), within_none)

pub loop-k-preserved : goal.loop-k-preserved
loop-k-preserved c =
    let s = (goal.at.loop-k-preserved c).Start in let l = c.loop-k in
    let y = rw l.invariant.2 at c.code_at-y.ensures in (
      tab-more s.args.slots (number s) l.invariant.0 c.loop-k-test.true (rw y at c.value_of.ensures),
      tab-more s.args.slots (λ _. 1) l.invariant.1 c.loop-k-test.true refl,
      code-next s.args.codes s.args.mapping.length l.k l.invariant.2,
      within_more l.invariant.3 y,
    )

pub returns : goal.returns
returns c =
    let s = (goal.at.returns c).Start in let i = c.loop-k.invariant in
    let e : c.loop-k.k ≡ s.args.slots = omega (arith, i.1.within, length-tab s.args.slots (λ _. 1)) in
    (tab-done s.args.slots (number s) i.0 c.loop-k-test.false, tab-done s.args.slots (λ _. 1) i.1 c.loop-k-test.false, rw e at i.3)
