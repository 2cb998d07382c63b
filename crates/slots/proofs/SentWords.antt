-- Laws of the codes of a sparse pack by words of eight bytes: a word is put over what the one before it left behind its
-- code.
-- Assumes nothing.
use mathlib.Core.Path.{◌≡◌, refl, sym, ap, ◌∙◌}
use mathlib.Core.Bool.{Bool, true, false}
use mathlib.Core.List.{List, [], ◌∷◌, ◌++◌, append-nil, append_assoc}
use Prim.Native.Nat.{ℕ, zero, suc, ◌+◌, ◌-◌, ◌*◌, ◌/◌, ◌%◌, ◌^◌, ◌≤◌, ◌<◌}
use native.Mathlib.Nat.{zero-add, add-zero, add-suc, add-mul, mul_assoc, pow-succ', mul-div_right, mul-le-mul_right}
use native.Mathlib.Decide.{dec_le}
use native.Mathlib.Omega.{arith}
use borrow.Author.Tests.{eq-eqb, ne_eqb}
use lib.ListN.{length, get_or, set, length-append, length-set}
use lib.Pow.{pow-add, pow_pos, shl_lt}
use lib.Seq.{sets, length-sets, set-set, get_or-set_same}
use Rattle.answers.specs.Lent.{tab}
use Rattle.answers.proofs.Lent.{length-tab}
use Rattle.answers.proofs.Rules.{picked}
use Rattle.answers.proofs.Joined.{joined-add, joined-le}
use Rattle.answers.proofs.Stored.{sets_more, sets-tab, sets-swap, sets_below, sets-cover}
use Rattle.numbers.proofs.Bytes.{length-bytes}
use Rattle.plan.specs.Rules.{InRange, Supported}
use Rattle.slots.specs.Slots.{coded, sent, eight_bits, vector_byte, element3, element5, code_bytes}
use Rattle.slots.specs.Fill.{Begun, codes_from, codes_of, spill, vector_from, vector_size, words_of}
use Rattle.slots.proofs.Lengths.{length-3}
use Rattle.slots.proofs.Sparse.{bits_of, bits-more, bits-low, codes-add, codes_all}
use Rattle.slots.proofs.Spill.{spill-le, Worded, worded-none, worded-sent, worded-left}

module _ (cs : List ℕ) (L : ℕ) where
  codes-le : (from n : ℕ) → length (codes_of true cs L from n) ≤ n * L
  codes-le from n =
      joined-le (λ k. code_bytes true cs L (from + k)) L n
      (λ k h. picked (λ x. length x ≤ L) (sent true cs (from + k)) _ [] (λ e. rw length-bytes (omega arith)) (λ e. omega arith))

  -- the codes of the first m slots, and of the others
  codes-rest : (m d : ℕ) → m + d ≡ length cs → length (element5 true cs L) ≡ length (codes_of true cs L 0 m) + length (codes_of true cs L m d)
  codes-rest m d e =
      let a : element5 true cs L ≡ codes_of true cs L 0 m ++ codes_of true cs L m d = rw (← e) (simp zero-add (joined-add (code_bytes true cs L) m d)) in
      rw (a, length-append)

  worded-all : (from n : ℕ) (l : List ℕ) (at : ℕ) → Worded true cs L from at l n (sets l at (words_of true cs L from n)) (at + length (codes_of true cs L from n))
  worded-all from n l at = record { run = record { long = length-sets l at (words_of true cs L from n); on = refl; is = refl } }

-- so many slots leave one memory and one place
same : {cs : List ℕ} {L from at : ℕ} {l₀ : List ℕ} {n : ℕ} {l l' : List ℕ} {x y : ℕ} → Worded true cs L from at l₀ n l x → Worded true cs L from at l₀ n l' y
    → (l ≡ l') × (x ≡ y)
same e d = (e.run.is ∙ sym d.run.is, e.run.on ∙ sym d.run.on)

module _ {cs : List ℕ} {L from at : ℕ} {l₀ : List ℕ} {m : ℕ} {l : List ℕ} {next : ℕ} (e : Worded true cs L from at l₀ m l next) where
  -- a store before the codes may as well have come first
  worded-under : (i x : ℕ) → i < at → Worded true cs L from at (set l₀ i x) m (set l i x) next
  worded-under i x h =
      record {
        run = record {
          long = rw (length-set l i x, length-set l₀ i x) e.run.long;
          on = e.run.on;
          is = rw e.run.is (sym (sets-swap l₀ i (x ∷ []) at (words_of true cs L from m) (omega arith)));
        };
      }

  -- the words of n slots more
  worded-add : Supported L → InRange cs → (n : ℕ) {l' : List ℕ} {y : ℕ} → Worded true cs L (from + m) next l n l' y → Worded true cs L from at l₀ (m + n) l' y
  worded-add s r zero d = rw (add-zero, d.run.is, d.run.on, add-zero) e
  worded-add s r (suc n) {l'} {y} d =
      let k : from + m + n ≡ from + (m + n) = omega arith in
      let u : m + suc n ≡ m + n + 1 = omega arith in
      let v : suc n ≡ n + 1 = omega arith in
      let c = get_or cs (from + m + n) 0 in
      let p = sets l next (words_of true cs L (from + m) n) in
      let x = next + length (codes_of true cs L (from + m) n) in
      let f = worded-all cs L (from + m) n l next in
      let g = worded-add s r n f in
      picked {A = ℕ} (λ (_ : ℕ). Worded true cs L from at l₀ (m + suc n) l' y) (sent true cs (from + m + n)) 0 0
      (λ b.
      let a = worded-sent f s (r (from + m + n)) b {m = sets p x (coded 8 c)} refl in
      rw (u, (same (rw v at d) a).0, (same (rw v at d) a).1) (worded-sent g s (r (from + (m + n))) (rw k at b) {m = sets p x (coded 8 c)} (rw k)))
      (λ b.
      let a = worded-left f b in
      rw (u, (same (rw v at d) a).0, (same (rw v at d) a).1) (worded-left g (rw k at b)))

-- ---- the bits of eight slots, each added at its weight
module _ {j : ℕ} (h : j < 8) where
  weight : 128 / 2 ^ j ≡ 2 ^ (7 - j)
  weight =
      let e : 7 ≡ j + (7 - j) = omega arith in
      ap (λ (n : ℕ). 2 ^ n / 2 ^ j) e ∙ rw pow-add (mul-div_right (2 ^ (7 - j)) (pow_pos j))

  -- one bit more
  weigh : (x c : ℕ) → (x * 2 + c) * 2 ^ (8 - (j + 1)) ≡ x * 2 ^ (8 - j) + c * 2 ^ (7 - j)
  weigh x c =
      let e : 8 - (j + 1) ≡ 7 - j = omega arith in
      let f : 8 - j ≡ suc (7 - j) = omega arith in
      rw (e, f, pow-succ', add-mul, mul_assoc)

-- the bits so far, those of the slots to come 0
abbrev weighed : (ℕ → Bool) → ℕ → ℕ
weighed b j = bits_of b j * 2 ^ (8 - j)

module _ (b : ℕ → Bool) {j : ℕ} (h : j < 8) where
  weighed-one : b j ≡ true → weighed b (j + 1) ≡ weighed b j + 128 / 2 ^ j
  weighed-one e = rw (bits-more b j, e, weigh h (bits_of b j) 1, weight h) (omega arith)

  weighed-none : b j ≡ false → weighed b (j + 1) ≡ weighed b j
  weighed-none e = rw (bits-more b j, e, weigh h (bits_of b j) 0) (omega arith)

weighed-fits : (b : ℕ → Bool) (j : ℕ) → j ≤ 8 → weighed b j < 256
weighed-fits b j h =
    let e : j + (8 - j) ≡ 8 = omega arith in
    rw e at (shl_lt {a = bits_of b j} j (8 - j) (bits-low b j))

-- ---- the loop over eight slots by words, after j turns: their bits so far stand at `place`, where first a 0 is stored
pub record EightWords (cs : List ℕ) (from L at place : ℕ) (l₀ : List ℕ) (j : ℕ) (l : List ℕ) (next : ℕ) : Type 0 where
  pub within : j ≤ 8
  pub below : place < at
  pub run : Worded true cs L from at (set l₀ place (weighed (λ k. sent true cs (from + k)) j)) j l next

pub words-start : {cs : List ℕ} {from L at place : ℕ} (l : List ℕ) → place < at → EightWords cs from L at place (set l place 0) 0 (set l place 0) at
words-start l h = record { within = omega arith; below = h; run = rw set-set worded-none }

module _ {cs : List ℕ} {from L at place : ℕ} {l₀ : List ℕ} where
  module _ {j : ℕ} {l : List ℕ} {next : ℕ} (e : EightWords cs from L at place l₀ j l next) where
    abbrev bits : ℕ → ℕ
    bits i = weighed (λ k. sent true cs (from + k)) i

    pub words_long : length l ≡ length l₀
    words_long = e.run.run.long ∙ length-set l₀ place (bits j)

    -- a turn
    module _ (h : j < 8) (s : Supported L) (r : at + 8 * L + 8 ≤ length l₀) where
      -- a word has room, whether a slot more is sent or not
      pub words-room : next + L + 8 ≤ length l
      words-room = omega (arith, e.run.run.on, words_long, codes-le cs L from j, mul-le-mul_right {m = j} {n = 7} L (omega arith))

      pub words-place : place < length l
      words-place = omega (arith, words_long, e.below)

      stands : get_or l place 0 ≡ bits j
      stands =
          ap (λ (x : List ℕ). get_or x place 0) e.run.run.is
          ∙ sets_below (set l₀ place (bits j)) at (words_of true cs L from j) place e.below
          ∙ get_or-set_same l₀ place (bits j) 0 (omega (arith, e.below))

      module _ (t : get_or cs (from + j) 0 % 2 ^ 63 ≡ 0 → ⊥) where
        is-sent : sent true cs (from + j) ≡ true
        is-sent = rw (ne_eqb (get_or cs (from + j) 0 % 2 ^ 63) 0 t)

        bits-on : get_or l place 0 + 128 / 2 ^ j ≡ bits (j + 1)
        bits-on = rw stands (sym (weighed-one (λ k. sent true cs (from + k)) h is-sent))

        pub words-byte : get_or l place 0 + 128 / 2 ^ j < 256
        words-byte = rw bits-on (weighed-fits (λ k. sent true cs (from + k)) (j + 1) (omega arith))

        pub words-one : InRange cs → {m : List ℕ} {x : ℕ} → m ≡ sets (set l place (get_or l place 0 + 128 / 2 ^ j)) next (coded 8 (get_or cs (from + j) 0)) → x ≡ next + L
            → EightWords cs from L at place l₀ (j + 1) m x
        words-one q g p =
            let u = rw (set-set, bits-on) at (worded-under e.run place (get_or l place 0 + 128 / 2 ^ j) e.below) in
            record { within = omega arith; below = e.below; run = rw p (worded-sent u s (q (from + j)) is-sent (rw bits-on at g)) }

      pub words-none : get_or cs (from + j) 0 % 2 ^ 63 ≡ 0 → {m : List ℕ} {x : ℕ} → m ≡ l → x ≡ next → EightWords cs from L at place l₀ (j + 1) m x
      words-none t g p =
          let u : sent true cs (from + j) ≡ false = rw (eq-eqb (get_or cs (from + j) 0 % 2 ^ 63) 0 t) in
          record {
            within = omega arith;
            below = e.below;
            run = rw (g, p, weighed-none (λ k. sent true cs (from + k)) h u) (worded-left e.run u);
          }

    pub words-done : 8 ≤ j
        → (next ≡ at + length (codes_of true cs L from 8)) × (l ≡ sets (set l₀ place (eight_bits true cs from)) at (words_of true cs L from 8))
    words-done h =
        let k : j ≡ 8 = omega (arith, e.within) in
        let q : bits 8 ≡ eight_bits true cs from = omega arith in
        (rw k at e.run.run.on, rw (k, q) at e.run.run.is)

-- ---- the loop over the bytes of the Bit Vector, eight slots each, by words, after i of them
pub record SentWords (cs : List ℕ) (L vector codes end : ℕ) (l₀ : List ℕ) (i : ℕ) (l : List ℕ) (next : ℕ) : Type 0 where
  pub within : i ≤ length cs / 8
  pub behind : vector + vector_size cs ≤ codes
  pub fits : next + length (spill true cs L 0 (8 * i)) ≤ end
  pub run : Worded true cs L 0 codes (sets l₀ vector (tab i (vector_byte true cs))) (8 * i) l next

module _ {cs : List ℕ} {L vector codes end : ℕ} {l₀ : List ℕ} where
  pub sent-words-none : vector + length (element3 true cs) ≤ codes → codes ≤ end → SentWords cs L vector codes end l₀ 0 l₀ codes
  sent-words-none v h =
      record {
        within = omega arith;
        behind = rw (length-3 true cs) at v;
        fits = omega arith;
        run = worded-none;
      }

  module _ {i : ℕ} {l : List ℕ} {next : ℕ} (e : SentWords cs L vector codes end l₀ i l next) where
    pub sent-words-long : length l ≡ length l₀
    sent-words-long = e.run.run.long ∙ length-sets l₀ vector (tab i (vector_byte true cs))

    -- where so much is left there are eight slots more, since the codes of fewer are shorter
    pub sent-words-left : codes + length (element5 true cs L) ≡ end → next + (8 * L + 8) ≤ end → i < length cs / 8
    sent-words-left w h =
        let d = length cs - 8 * i in
        let k : 8 * i + d ≡ length cs = omega (arith, e.within) in
        elim (dec_le 8 d) [
          | yes g ↦ omega arith
          | no g ↦ absurd (omega (arith, e.run.run.on, codes-rest cs L (8 * i) d k, codes-le cs L (8 * i) d, mul-le-mul_right {m = d} {n = 8} L (omega arith)))
        ]

    -- a turn: the group's byte and words
    module _ (h : i < length cs / 8) where
      pub sent-words-place : vector + i < next
      sent-words-place = omega (arith, e.behind, e.run.run.on)

      pub sent-words-more : Supported L → InRange cs → next + (8 * L + 8) ≤ end → {m : List ℕ} {x : ℕ}
          → m ≡ sets (set l (vector + i) (eight_bits true cs (8 * i))) next (words_of true cs L (8 * i) 8) → x ≡ next + length (codes_of true cs L (8 * i) 8)
          → SentWords cs L vector codes end l₀ (i + 1) m x
      sent-words-more s r w {m} {x} g p =
          let k : 8 * (i + 1) ≡ 8 * i + 8 = omega arith in
          let y = set l (vector + i) (eight_bits true cs (8 * i)) in
          let u = worded-under e.run (vector + i) (eight_bits true cs (8 * i)) (omega (arith, e.behind)) in
          let d : Worded true cs L (0 + 8 * i) next y 8 m x = rw (zero-add, g, p) (worded-all cs L (8 * i) 8 y next) in
          record {
            within = omega arith;
            behind = e.behind;
            fits = omega (arith, spill-le true cs L 0 (8 * (i + 1)), codes-le cs L (8 * i) 8);
            run = rw (k, ← (sets-tab l₀ vector i (vector_byte true cs))) (worded-add u s r 8 d);
          }

    pub sent-words-done : Begun cs L vector codes end i next l₀ l
    sent-words-done = record { begun = omega (arith, e.within); on = e.run.run.on; within = e.fits; is = e.run.run.is }

-- ---- the first B bytes by words, and the others each
tab-add : (f : ℕ → ℕ) (m n : ℕ) → tab (m + n) f ≡ tab m f ++ tab n (λ k. f (m + k))
tab-add f m zero = rw (add-zero, append-nil)
tab-add f m (suc n) = rw (add-suc, tab-add f m n, append_assoc)

module _ {cs : List ℕ} {L vector codes end B next : ℕ} {l₀ m : List ℕ} (g : Begun cs L vector codes end B next l₀ m)
    (w : codes + length (element5 true cs L) ≡ end) where
  all_codes : element5 true cs L ≡ codes_of true cs L 0 (8 * B) ++ codes_from cs L B
  all_codes =
      let e : 8 * B + 8 * (vector_size cs - B) ≡ 8 * vector_size cs = omega (arith, g.begun) in
      sym (codes_all cs L) ∙ rw (e, zero-add (8 * B)) at (codes-add cs L 0 (8 * B) (8 * (vector_size cs - B)))

  -- the others end where the pack does
  pub rest-room : next + length (codes_from cs L B) ≡ end
  rest-room = omega (arith, g.on, ap length all_codes, length-append (codes_of true cs L 0 (8 * B)) (codes_from cs L B))

  pub sent-whole : {l : List ℕ} → vector + length (element3 true cs) ≤ codes
      → l ≡ sets (sets m (vector + B) (vector_from cs B)) next (codes_from cs L B)
      → l ≡ sets (sets l₀ vector (element3 true cs)) codes (element5 true cs L)
  sent-whole v f =
      let n = vector_size cs - B in
      let k : B + n ≡ vector_size cs = omega (arith, g.begun) in
      let x = tab B (vector_byte true cs) in
      let y = vector_from cs B in
      let t : tab (vector_size cs) (vector_byte true cs) ≡ x ++ y = rw k at (tab-add (vector_byte true cs) B n) in
      let below : vector + B + length y ≤ codes = rw (length-tab n (λ i. vector_byte true cs (B + i))) (omega (arith, length-3 true cs)) in
      f
      ∙ rw (g.is, ← (sets-swap (sets l₀ vector x) (vector + B) y codes (words_of true cs L 0 (8 * B)) below), g.on, all_codes, t, sets_more l₀ vector x y, length-tab B (vector_byte true cs))
      (sets-cover (sets (sets l₀ vector x) (vector + B) y) codes (codes_of true cs L 0 (8 * B)) (spill true cs L 0 (8 * B)) (codes_from cs L B) (omega (arith, rest-room, g.within)))
