-- What is told of a pack is what the reader does with it.
-- Assumes nothing.
use mathlib.Core.Path.{◌≡◌, refl, sym, ap, ◌∙◌}
use mathlib.Core.List.{List}
use Prim.Native.Nat.{ℕ}
use Rattle.answers.specs.Table.{Answer}
use Rattle.layout.specs.declared.rule.Rule.{Rule}
use Rattle.layout.specs.Ruled.{Ruled, passed, refused_by}
use Rattle.elements.specs.Elements.{head_of}
use Rattle.rules.specs.Named.{rule_of, pack_ruled, RefusedBy}
use Rattle.rules.proofs.Refused.{refused-by, by-refused}
use Rattle.reader.specs.Rules.{done, read_answer}
use Rattle.told.proofs.Refused.{by-rules, read-refused}
use Rattle.explain.proofs.Joined.{joined}
use Rattle.explain.proofs.Tells.{accepted-tells, refused-tells, explained-as}
use Rattle.trip.specs.Told.{Accepted, Told}

module _ (bytes : List ℕ) where
  refuses : (x : Rule) → RefusedBy bytes x → (d c p : ℕ) → read_answer bytes d c p ≡ rule_of bytes x
  refuses x r d c p = read-refused bytes d c p (by-refused bytes x r)

  none : Accepted bytes → pack_ruled bytes ≡ passed
  none e = (accepted-tells bytes (sym e)).0

  pub told : Told bytes
  told = record {
    named = λ x place a. (
      λ e.
          let t = refused-tells bytes (sym e) in
          let r = refused-by bytes t.0 in
          (r.0, t.1, r.1),
      λ t. explained-as bytes (by-refused bytes x t.0) ∙ rw (t.1, t.2),
    );
    refuses = refuses;
    accepts = λ d c p room. (
      λ e. by-rules bytes d c p ∙ rw (none e, room),
      λ e. go (pack_ruled bytes) refl d c p e,
    );
    joins = λ e. joined bytes (none e);
  }
    where
      go : (u : Ruled) → pack_ruled bytes ≡ u → (d c p : ℕ) → read_answer bytes d c p ≡ done (head_of bytes) → Accepted bytes
      go passed e d c p r = explained-as bytes e
      go (refused_by x a) e d c p r =
          let t = refused-by bytes e in
          absurd (t.0.refuses (ap (λ (a : Answer). a.number) (sym (refuses x t.0 d c p) ∙ r)))
