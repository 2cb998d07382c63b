-- `handed::pack_at` meets its contract: what comes next is the pack behind those passed.
use Rattle.std.proofs.Common.{◌≡◌, refl, sym, ap, ◌∙◌, arith, true, List, add-one}
use Rattle.std.specs.Prelude.{Ok, Err, Result, is_ok}
use Rattle.answers.specs.Table.{Answer}
use Rattle.answers.specs.declared.Refusal.{Refusal}
use Rattle.sets.specs.declared.pack.PackPlace.{PackPlace}
use Rattle.sets.specs.declared.set.SetCounts.{SetCounts}
use Rattle.sets.specs.Items.{items_of}
use Rattle.sets.specs.Packs.{packs_of, nth}
use Rattle.sets.specs.Rules.{set_listed}
use Rattle.sets.specs.Handed.{pack_at}
use Rattle.sets.proofs.Next.{nth-none, next-nth}
use Rattle.sets.proofs.Taken.{taken-packs}
use Rattle.sets.proofs.handed.pack_at.Goals as goal
use Rattle.sets.proofs.handed.pack_at.Goals.{At-loop}

done : (r : Result SetCounts Refusal) → is_ok r ≡ true → (set_listed r).number ≡ 0
done (Ok c) e = refl
done (Err r) e = cc

-- the packs of the set, which is taken
abbrev packs : At-loop → List PackPlace
packs l = let set = l.args.set.now in packs_of set 0 (items_of set)

taken : (l : At-loop) → nth l.args.k (packs l) ≡ pack_at l.args.set.now l.args.room l.args.k
taken l =
    let a = l.args in
    let z = done l.decide.result (sym l.in_ok-ok.ensures.variant) in
    sym (ap (nth a.k) (taken-packs a.set.now a.room (sym (ap (λ (x : Answer). x.number) l.decide.ensures) ∙ z)))

pub returns-in_err-before : goal.returns-in_err-before
returns-in_err-before c =
    let l = (goal.at.returns-in_err-before c).At-loop in
    let e = sym l.loop.invariant ∙ sym c.next_pack.ensures ∙ c.in_err-before.was in
    c.from_residual-in_err-before.ensures ∙ sym (nth-none l.loop.counter l.args.k (packs l) (omega arith) e) ∙ taken l

pub loop-preserved : goal.loop-preserved
loop-preserved c =
    let l = (goal.at.loop-preserved c).At-loop in
    let e = sym l.loop.invariant ∙ sym c.next_pack.ensures ∙ c.in_ok-before.was in
    rw add-one (next-nth l.args.set.now l.loop.counter (packs l) 0 0 (omega arith) refl e)
