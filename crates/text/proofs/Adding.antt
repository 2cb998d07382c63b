-- Laws of text that is added to a page piece by piece.
use Rattle.std.proofs.Common.{◌≡◌, refl, sym, ◌∙◌, ℕ, min, List, [], ◌++◌, length, length-append, arith}
use Rattle.std.specs.Borrow.{MutBor}
use Rattle.text.specs.declared.page.Page.{Page}
use Rattle.text.specs.Page.{Opened, Adds}
use Rattle.text.specs.Put.{Put}
use Rattle.text.proofs.Pieces.{put-none, put-long, put_then, sets-min}

-- nothing
pub adds_none : (p : Page) → Adds [] p p
adds_none p = record { same = refl; put = put-none p.at p.room.now; behind = omega arith }

-- text from beyond the end is text from the end
put-min : {x : List ℕ} {at : ℕ} {l : List ℕ} {r : ℕ} {m : List ℕ} → Put x at l r m → Put x (min at (length l)) l r m
put-min {x} {at} {l} p = record { behind = omega (arith, p.behind); stored = rw sets-min p.stored }

-- one text behind the other
pub adds_then : {x y : List ℕ} {p q r : Page} → Adds x p q → Adds y q r → Adds (x ++ y) p r
adds_then a b =
    record {
      same = b.same ∙ a.same;
      put = put_then a.put (put-min b.put);
      behind = rw length-append (omega (arith, a.behind, b.behind, put-long a.put));
    }

-- what is put over lent memory from a place on
pub put_opened : {x : List ℕ} {at : ℕ} {room : MutBor (List ℕ)} {p q : Page} {r : ℕ} {l : List ℕ} → Opened at room p → Adds x p q → r ≡ min q.at (length q.room.now) → (room.ghost_name ≡ q.room.ghost_name → l ≡ q.room.now) → Put x at room.now r l
put_opened o a place tied = rw (place, tied (sym (a.same ∙ o.same)), ← o.from, ← o.stored) a.put

-- ---- a loop that has the rest of a text to add
abbrev pub Owes : List ℕ → Page → List ℕ → Page → Type 0
Owes rest q text p = (r : Page) → Adds rest q r → Adds text p r

pub owes-more : {x y text : List ℕ} {p q r : Page} → Owes (x ++ y) q text p → Adds x q r → Owes y r text p
owes-more o a s b = o s (adds_then a b)

pub owes-done : {text : List ℕ} {p q : Page} → Owes [] q text p → Adds text p q
owes-done {q = q} o = o q (adds_none q)
