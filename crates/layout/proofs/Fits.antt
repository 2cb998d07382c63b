-- What a pack whose size was accepted tells: rules c) to g) passed.
-- Assumes nothing.
use mathlib.Core.Path.{◌≡◌, refl}
use mathlib.Core.Bool.{Bool, true, false, not, ◌&&◌}
use Prim.Native.Nat.{ℕ, ◌*◌, ◌≤◌}
use lib.Dec.{ltb}
use borrow.Author.Tests.{ltb-false}
use Rattle.layout.specs.declared.control.ParseControl.{ParseControl}
use Rattle.layout.specs.Triangle.{slots_of}
use Rattle.layout.specs.Size.{max_rows, rule_c, rule_d, rule_e, rule_f, size_rules}
use Rattle.answers.proofs.Next.{next-zero, unheld}
use Rattle.layout.proofs.Peek.{size-answers}

pub record Fitting (n R : ℕ) (k : ParseControl) : Type 0 where
  pub rows : n ≤ max_rows
  pub deviations : n * k.slen ≤ R
  pub slots : k.cs ≡ false → slots_of n * k.clen ≤ R
  pub bits : k.cs ≡ true → slots_of n ≤ 8 * R

-- a rule that does not refuse: its test is false, where a flag tells that the rule applies, or that it does not
when : (s : Bool) (a b : ℕ) → (s && ltb a b) ≡ false → s ≡ true → b ≤ a
when s a b e t = ltb-false a b (rw t at e)

unless : (s : Bool) (a b : ℕ) → (not s && ltb a b) ≡ false → s ≡ false → b ≤ a
unless s a b e t = ltb-false a b (rw t at e)

module _ (n R : ℕ) (k : ParseControl) where
  pub fits-tells : (size_rules n R k).number ≡ 0 → Fitting n R k
  fits-tells z =
      let d = next-zero (rule_d n R k) _ (next-zero (rule_c n R k) _ (rw (size-answers n R k) at z)).1 in
      let e = next-zero (rule_e n R k) _ d.1 in
      let f = next-zero (rule_f n R k) _ e.1 in
      record {
        rows = ltb-false max_rows n (unheld _ _ refl d.0);
        deviations = ltb-false R (n * k.slen) (unheld _ _ refl e.0);
        slots = unless k.cs R (slots_of n * k.clen) (unheld _ _ refl f.0);
        bits = when k.cs (8 * R) (slots_of n) (unheld _ _ refl f.1);
      }
