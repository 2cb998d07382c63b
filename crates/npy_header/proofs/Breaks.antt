-- The offset that 11 carries is that of the first byte that breaks the header; a header that passes is that of the size.
-- Assumes nothing.
use mathlib.Core.Path.{◌≡◌, refl, sym, ap, ◌∙◌}
use mathlib.Core.List.{List, [], ◌∷◌}
use mathlib.Core.Logic.{⊎_elim}
use Prim.Native.Nat.{ℕ, suc, ◌≤◌, ◌<◌}
use native.Mathlib.Omega.{arith}
use borrow.Author.Tests.{lt-ltb, le-ltb, ltb-true, ltb-false, eqb-true, eqb-false}
use lib.Dec.{ltb, eqb}
use lib.ListN.{length, take, get_or, length-take}
use lib.Seq.{take_all, take-take, get_or-take}
use Rattle.std.specs.Prelude.{Some}
use Rattle.answers.specs.Table.{Answer, passes}
use Rattle.answers.proofs.Rules.{picked}
use Rattle.text.specs.Numeral.{digit_at, in_decimal}
use Rattle.text.proofs.Figures.{length-decimal}
use Rattle.text.proofs.Order.{lt-or-le}
use Rattle.npy_header.specs.Header.{header_length, front, header, max_size, size_in, break_of, break_in}
use Rattle.npy_header.specs.Rules.{broken_at, header_rule}
use Rattle.npy_header.specs.Breaks.{Starts, Breaks, Headed, HeaderRead}
use Rattle.npy_header.proofs.Headers.{length-header}
use Rattle.npy_header.proofs.Digits.{digits_of}
use Rattle.npy_header.proofs.Spelled.{end_of, Spells, header-split, header-spells, size-spelled, spelled-size, size_small}

-- ---- the first byte of a file that differs from a header's or is missing
-- those before it stand in both, and are the same
pub break-before : (h f : List ℕ) → (break_of h f ≤ length h) × (break_of h f ≤ length f) × (take (break_of h f) f ≡ take (break_of h f) h)
break-before [] f = (omega arith, omega arith, refl)
break-before (a ∷ h) [] = (omega arith, omega arith, refl)
break-before (a ∷ h) (b ∷ f) =
    let p = break-before h f in
    picked (λ (k : ℕ). (k ≤ suc (length h)) × (k ≤ suc (length f)) × (take k (b ∷ f) ≡ take k (a ∷ h))) (eqb a b) (suc (break_of h f)) 0
    (λ t. (omega (arith, p.0), omega (arith, p.1), rw (eqb-true a b t, p.2)))
    (λ _. (omega arith, omega arith, refl))

-- and where it stands in both, it differs
pub break-here : (h f : List ℕ) → break_of h f < length h → break_of h f < length f → get_or f (break_of h f) 0 ≡ get_or h (break_of h f) 0 → ⊥
break-here [] f = λ i. absurd (omega arith)
break-here (a ∷ h) [] = λ i j. absurd (omega arith)
break-here (a ∷ h) (b ∷ f) =
    picked (λ (k : ℕ). k < suc (length h) → k < suc (length f) → get_or (b ∷ f) k 0 ≡ get_or (a ∷ h) k 0 → ⊥) (eqb a b) (suc (break_of h f)) 0
    (λ _ i j e. break-here h f (omega arith) (omega arith) e) (λ n i j e. eqb-false a b n (sym e))

-- ---- lists that start with the same bytes
module _ (f h : List ℕ) where
  same-fewer : (j k : ℕ) → j ≤ k → take k f ≡ take k h → take j f ≡ take j h
  same-fewer j k l e = sym (take-take j k f l) ∙ ap (λ (t : List ℕ). take j t) e ∙ take-take j k h l

  same_at : (i k : ℕ) → i < k → take k f ≡ take k h → get_or f i 0 ≡ get_or h i 0
  same_at i k l e = sym (get_or-take k f i 0 l) ∙ ap (λ (t : List ℕ). get_or t i 0) e ∙ get_or-take k h i 0 l

  -- up to the byte that a number ends at
  spells-same : (n k : ℕ) → end_of n < k → take k f ≡ take k h → Spells f n → Spells h n
  spells-same n k l e p =
      record {
        same = sym (same-fewer (end_of n) k (omega arith) e) ∙ p.same;
        ends = rw (same_at (end_of n) k l e) at p.ends;
      }

-- ---- all headers have the same front, and a digit behind it
front_of : (n : ℕ) → take 61 (header n) ≡ front
front_of n = rw (header-split n)

header-digit : (n : ℕ) → n ≤ max_size → (d : ℕ) × (in_decimal (digit_at (header n) 61) ≡ Some d)
header-digit n h = let d = digits_of 8 n (omega arith) (omega arith) in (d.value, rw (header-split n, d.are) d.digit)

-- ---- a file that is held to the header of its own N
module _ (file : List ℕ) where
  starts-fewer : (j k : ℕ) → j ≤ k → Starts file k → Starts file j
  starts-fewer j k l s =
      record { n = s.n; small = s.small; there = omega (arith, s.there); same = same-fewer file (header s.n) j k l s.same }

  own-before : (break_in file ≤ header_length) × (break_in file ≤ length file) × (take (break_in file) file ≡ take (break_in file) (header (size_in file)))
  unfolding break_in
  own-before =
      let p = break-before (header (size_in file)) file in
      (omega (arith, p.0, length-header (size_in file) (size_small file)), p.1, p.2)

  own-here : break_in file < header_length → break_in file < length file → get_or file (break_in file) 0 ≡ get_or (header (size_in file)) (break_in file) 0 → ⊥
  unfolding break_in
  own-here w = break-here (header (size_in file)) file (omega (arith, length-header (size_in file) (size_small file)))

  break-starts : Starts file (break_in file)
  break-starts = record { n = size_in file; small = size_small file; there = own-before.1; same = own-before.2 }

  -- were there a header with one byte more, that byte would be in the front, which all share, or in the number, which is
  -- spelled as in the file, or behind it, and then the number is the same
  module _ (w : break_in file < header_length) (s : Starts file (suc (break_in file))) where
    differs : get_or file (break_in file) 0 ≡ get_or (header (size_in file)) (break_in file) 0 → ⊥
    differs = own-here w s.there

    agrees : get_or file (break_in file) 0 ≡ get_or (header s.n) (break_in file) 0
    agrees = same_at file (header s.n) (break_in file) (suc (break_in file)) (omega arith) s.same

    in-front : break_in file < 61 → ⊥
    in-front l =
        differs (agrees ∙ same_at (header s.n) (header (size_in file)) (break_in file) 61 l (front_of s.n ∙ sym (front_of (size_in file))))

    spelled : 61 ≤ break_in file → Spells file (size_in file)
    spelled l =
        let d = header-digit s.n s.small in
        spelled-size file (same-fewer file (header (size_in file)) 61 (break_in file) l own-before.2 ∙ front_of (size_in file))
        {d = d.0} (rw (same_at file (header s.n) 61 (suc (break_in file)) (omega arith) s.same) d.1)

    in-number : Spells file (size_in file) → break_in file < end_of (size_in file) → ⊥
    in-number p l =
        differs
        (same_at file (header (size_in file)) (break_in file) (end_of (size_in file)) l (p.same ∙ sym (header-spells (size_in file)).same))

    behind-number : Spells file (size_in file) → end_of (size_in file) ≤ break_in file → ⊥
    behind-number p l =
        let q = spells-same file (header s.n) (size_in file) (suc (break_in file)) (omega arith) s.same p in
        let e : s.n ≡ size_in file =
        sym (size-spelled (header s.n) s.n s.small (header-spells s.n))
        ∙ size-spelled (header s.n) (size_in file) (size_small file) q in
        differs (agrees ∙ ap (λ (n : ℕ). get_or (header n) (break_in file) 0) e)

    no_more : ⊥
    no_more =
        ⊎_elim in-front
        (λ l. ⊎_elim (in-number (spelled l)) (behind-number (spelled l)) (lt-or-le (break_in file) (end_of (size_in file))))
        (lt-or-le (break_in file) 61)

  -- ---- 11
  told : (at : ℕ) → header_rule file ≡ broken_at at → (break_in file < header_length) × (break_in file ≡ at)
  told at =
      picked (λ (a : Answer). a ≡ broken_at at → (break_in file < header_length) × (break_in file ≡ at)) (ltb (break_in file) header_length)
      (broken_at (break_in file)) passes
      (λ t e. (ltb-true (break_in file) header_length t, let c = ap (λ (a : Answer). a.carries) e in cc))
      (λ _ e. let z : ◌≡◌ {A = ℕ} 0 11 = ap (λ (a : Answer). a.number) e in absurd (omega arith))

  breaks : break_in file < header_length → Breaks file (break_in file)
  breaks w = record { within = w; before = break-starts; here = no_more w }

  first-break : (at : ℕ) → Breaks file at → break_in file ≡ at
  first-break at b =
      let below : break_in file < at → ⊥ =
      λ l. no_more (omega (arith, b.within)) (starts-fewer (suc (break_in file)) at l b.before) in
      let above : at < break_in file → ⊥ = λ l. b.here (starts-fewer (suc at) (break_in file) l break-starts) in
      ⊎_elim (λ l. absurd (below l)) (λ (g : at ≤ break_in file). ⊎_elim (λ l. absurd (above l)) (λ (k : break_in file ≤ at). omega arith) (lt-or-le at (break_in file)))
      (lt-or-le (break_in file) at)

  -- ---- a header that passes
  passed : header_rule file ≡ passes → break_in file ≡ header_length
  passed =
      picked (λ (a : Answer). a ≡ passes → break_in file ≡ header_length) (ltb (break_in file) header_length) (broken_at (break_in file)) passes
      (λ _ e. let z : ◌≡◌ {A = ℕ} 11 0 = ap (λ (a : Answer). a.number) e in absurd (omega arith))
      (λ f _. omega (arith, own-before.0, ltb-false (break_in file) header_length f))

  whole-header : (n : ℕ) → n ≤ max_size → take header_length (header n) ≡ header n
  whole-header n h = take_all header_length (header n) (omega (arith, length-header n h))

  headed : (n : ℕ) → header_rule file ≡ passes → size_in file ≡ n → Headed file n
  headed n e z =
      let h : n ≤ max_size = rw z at (size_small file) in
      record { small = h; same = rw (passed e, z) at own-before.2 ∙ whole-header n h }

  module _ (n : ℕ) (p : Headed file n) where
    like : take header_length (header n) ≡ take header_length file
    like = whole-header n p.small ∙ sym p.same

    read : size_in file ≡ n
    read =
        size-spelled file n p.small
        (spells-same (header n) file n header_length (omega (arith, length-decimal 8 n (omega (arith, p.small)))) like (header-spells n))

    long : header_length ≤ length file
    long = omega (arith, length-header n p.small, ap length p.same, length-take header_length file)

    passes-it : header_rule file ≡ passes
    passes-it =
        ⊎_elim
        (λ (l : break_in file < header_length).
        absurd (own-here l (omega (arith, long)) (rw read (sym (same_at (header n) file (break_in file) header_length l like)))))
        (λ (l : header_length ≤ break_in file). rw (le-ltb (break_in file) header_length l))
        (lt-or-le (break_in file) header_length)

  pub header_read : HeaderRead file
  header_read = record {
    broken = λ at. (
      λ e. let t = told at e in rw t.1 at (breaks t.0),
      λ b. rw (first-break at b, lt-ltb at header_length b.within),
    );
    whole = λ n. (λ (e, z). headed n e z, λ p. (passes-it n p, read n p));
  }
