-- Laws of a loop that stores lists one behind the other.
-- Assumes nothing.
use mathlib.Core.Path.{◌≡◌, refl, sym, ap, ◌∙◌}
use mathlib.Core.List.{List, [], ◌∷◌}
use Prim.Native.Nat.{ℕ, suc, ◌+◌, ◌-◌, ◌≤◌, ◌<◌}
use native.Mathlib.Nat.{add-zero}
use native.Mathlib.Numerals.{add-one}
use native.Mathlib.Omega.{arith}
use lib.ListN.{length, set, length-set, length-append}
use lib.Seq.{sets, length-sets}
use Rattle.answers.specs.Lent.{joined}
use Rattle.answers.proofs.Joined.{joined-grows}
use Rattle.answers.proofs.Stored.{sets_more, sets-swap}

-- ---- a loop that writes what f gives of 0 to n-1, one behind the other from `at` on over l₀, after i turns
pub record Run (n : ℕ) (f : ℕ → List ℕ) (at : ℕ) (l₀ : List ℕ) (i : ℕ) (l : List ℕ) (next : ℕ) : Type 0 where
  pub within : i ≤ n
  pub room : at + length (joined n f) ≤ length l₀
  pub long : length l ≡ length l₀
  pub on : next ≡ at + length (joined i f)
  pub is : l ≡ sets l₀ at (joined i f)

module _ {n : ℕ} {f : ℕ → List ℕ} {at : ℕ} {l₀ : List ℕ} where
  pub run_none : at + length (joined n f) ≤ length l₀ → Run n f at l₀ 0 l₀ at
  run_none h = record { within = omega arith; room = h; long = refl; on = sym (add-zero at); is = refl }

  module _ {i : ℕ} {l : List ℕ} {next : ℕ} (r : Run n f at l₀ i l next) where
    -- there is room for the next list
    pub run_room : i < n → next + length (f i) ≤ length l
    run_room h =
        let e : suc i + (n - suc i) ≡ n = omega arith in
        omega (arith, r.room, r.long, r.on, length-append (joined i f) (f i), rw e at (joined-grows f (suc i) (n - suc i)))

    -- one list more is written
    pub run_more : {m : List ℕ} {x : ℕ} → i < n → m ≡ sets l next (f i) → x ≡ next + length (f i) → Run n f at l₀ (i + 1) m x
    run_more h e p =
        record {
          within = omega arith;
          room = r.room;
          long = ap length e ∙ length-sets l next (f i) ∙ r.long;
          on = rw (add-one, length-append) (omega (arith, r.on));
          is = rw (add-one, sets_more, ← r.is, ← r.on) e;
        }

    -- a store before the run may as well have come first
    pub run-under : (j x : ℕ) → j < at → Run n f at (set l₀ j x) i (set l j x) next
    run-under j x h =
        record {
          within = r.within;
          room = rw length-set r.room;
          long = rw (length-set l j x, length-set l₀ j x) r.long;
          on = r.on;
          is = rw r.is (sym (sets-swap l₀ j (x ∷ []) at (joined i f) (omega arith)));
        }

    pub run_end : n ≤ i → next ≡ at + length (joined n f)
    run_end h = let e : i ≡ n = omega (arith, r.within) in rw e at r.on

    pub run-done : n ≤ i → l ≡ sets l₀ at (joined n f)
    run-done h = let e : i ≡ n = omega (arith, r.within) in rw e at r.is
