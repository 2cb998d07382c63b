-- Every rule's answer is of the table, and so is an order of such rules.
-- Assumes nothing.
use mathlib.Core.Path.{refl}
use mathlib.Core.Bool.{Bool, true, false}
use mathlib.Core.List.{List, [], ◌∷◌}
use mathlib.Core.Logic.{inl, inr}
use Prim.Native.Nat.{ℕ}
use lib.Dec.{eqb}
use Rattle.answers.specs.Table.{Entry, bits64, Answer, answer, short, wholes, pick, next}
use Rattle.answers.specs.Listed.{InTable}
use Rattle.answers.specs.declared.Refusal.TheVariants.{
  TruncatedField,
  InvalidLength,
  OutOfRange,
  CorrelationOutOfRange,
  UnsupportedImapbLength,
  BufferTooSmall,
  TooManyRows,
  NoSuchCell,
  NoDeviation,
  InvalidImapbParams,
  MalformedItem,
  MalformedHeader,
  Asymmetric,
}

pub in-done : (es : List Entry) → InTable (answer 0 es)
in-done es = inl refl

pub in-1 : (needed got : ℕ) → InTable (short needed got)
in-1 needed got = inr (TruncatedField needed got, refl)

pub in-2 : (expected got : ℕ) → InTable (answer 2 (wholes (expected ∷ got ∷ [])))
in-2 expected got = inr (InvalidLength expected got, refl)

pub in-3 : (value least most : ℕ) → InTable (answer 3 (wholes (value ∷ least ∷ most ∷ [])))
in-3 value least most = inr (OutOfRange value least most, refl)

pub in-3-bits : (value least most : ℕ) → InTable (answer 3 (bits64 value ∷ bits64 least ∷ bits64 most ∷ []))
in-3-bits value least most = inr (CorrelationOutOfRange value least most, refl)

pub in-4 : (length : ℕ) → InTable (answer 4 (wholes (length ∷ [])))
in-4 length = inr (UnsupportedImapbLength length, refl)

pub in-5 : (needed got : ℕ) → InTable (answer 5 (wholes (needed ∷ got ∷ [])))
in-5 needed got = inr (BufferTooSmall needed got, refl)

pub in-6 : (n : ℕ) → InTable (answer 6 (wholes (n ∷ [])))
in-6 n = inr (TooManyRows n, refl)

pub in-7 : (i j : ℕ) → InTable (answer 7 (wholes (i ∷ j ∷ [])))
in-7 i j = inr (NoSuchCell i j, refl)

pub in-8 : (row : ℕ) → InTable (answer 8 (wholes (row ∷ [])))
in-8 row = inr (NoDeviation row, refl)

pub in-9 : InTable (answer 9 [])
in-9 = inr (InvalidImapbParams, refl)

pub in-10 : (offset : ℕ) → InTable (answer 10 (wholes (offset ∷ [])))
in-10 offset = inr (MalformedItem offset, refl)

pub in-11 : (offset : ℕ) → InTable (answer 11 (wholes (offset ∷ [])))
in-11 offset = inr (MalformedHeader offset, refl)

pub in-12 : (i j : ℕ) → InTable (answer 12 (wholes (i ∷ j ∷ [])))
in-12 i j = inr (Asymmetric i j, refl)

pub in-pick : (t : Bool) (a b : Answer) → InTable a → InTable b → InTable (pick t a b)
in-pick true a b p q = p
in-pick false a b p q = q

pub in-next : (a b : Answer) → InTable a → InTable b → InTable (next a b)
in-next a b p q = in-pick (eqb a.number 0) b a q p

pub ruleset table = (in-done, in-1, in-2, in-3, in-3-bits, in-4, in-5, in-6, in-7, in-8, in-9, in-10, in-11, in-12, in-pick, in-next)
