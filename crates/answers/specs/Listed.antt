-- This paper's number and values for each case of each enum: what the promises speak of.
use Rattle.std.specs.Prelude.{◌≡◌, [], ◌∷◌, ◌⊎◌, Ok, Err, Result, ℕ, ⊤}
use Rattle.answers.specs.declared.Refusal.{Refusal}
use Rattle.answers.specs.declared.Refusal.TheVariants.{
  TruncatedField,
  InvalidLength,
  OutOfRange,
  CorrelationOutOfRange,
  UnsupportedImapbLength,
  BufferTooSmall,
  TooManyRows,
  NoSuchCell,
  NoDeviation,
  InvalidImapbParams,
  MalformedItem,
  MalformedHeader,
  Asymmetric,
}
use Rattle.answers.specs.Table.{Answer, answer, short, passes, bits64, wholes}

abbrev pub listed : Refusal → Answer
listed (TruncatedField needed got) = short needed got
listed (InvalidLength expected got) = answer 2 (wholes (expected ∷ got ∷ []))
listed (OutOfRange value least most) = answer 3 (wholes (value ∷ least ∷ most ∷ []))
listed (CorrelationOutOfRange value least most) = answer 3 (bits64 value ∷ bits64 least ∷ bits64 most ∷ [])
listed (UnsupportedImapbLength length) = answer 4 (wholes (length ∷ []))
listed (BufferTooSmall needed got) = answer 5 (wholes (needed ∷ got ∷ []))
listed (TooManyRows n) = answer 6 (wholes (n ∷ []))
listed (NoSuchCell i j) = answer 7 (wholes (i ∷ j ∷ []))
listed (NoDeviation row) = answer 8 (wholes (row ∷ []))
listed InvalidImapbParams = answer 9 []
listed (MalformedItem offset) = answer 10 (wholes (offset ∷ []))
listed (MalformedHeader offset) = answer 11 (wholes (offset ∷ []))
listed (Asymmetric i j) = answer 12 (wholes (i ∷ j ∷ []))

abbrev pub written : Result ℕ Refusal → Answer
written (Ok n) = answer 0 (wholes (n ∷ []))
written (Err r) = listed r

abbrev pub checked : Result ⊤ Refusal → Answer
checked (Ok _) = passes
checked (Err r) = listed r

-- an answer of the table: done, or what a refusal lists as
abbrev pub InTable : Answer → Type 0
InTable a = (a.number ≡ 0) ⊎ ((r : Refusal) × (a ≡ listed r))
