-- Document 01's answers, independent of the code's enums: a number, and the entries that it carries.
use Rattle.std.specs.Prelude.{ℕ, zero, suc, Bool, true, false, List, [], ◌∷◌, eqb, ltb}

-- an entry keeps its kind: a whole number (N, a count, a row, a length, a payload), or the bits of a binary64
pub data Entry : Type 0 where
  whole : ℕ → Entry
  bits64 : ℕ → Entry

pub record Answer : Type 0 where
  pub number : ℕ
  pub carries : List Entry

abbrev pub answer : ℕ → List Entry → Answer
answer n es = record { number = n; carries = es }

abbrev pub wholes : List ℕ → List Entry
wholes [] = []
wholes (n ∷ ns) = whole n ∷ wholes ns

-- 1, with the bytes needed and the bytes there
abbrev pub short : ℕ → ℕ → Answer
short needed got = answer 1 (wholes (needed ∷ got ∷ []))

-- the numbers that entries of either kind carry
abbrev pub plain : Entry → ℕ
plain (whole n) = n
plain (bits64 b) = b

abbrev pub plains : List Entry → List ℕ
plains [] = []
plains (e ∷ es) = plain e ∷ plains es

-- a rule of an order: where the test holds this answer, otherwise the next rule
abbrev pub pick : {A : Type 0} → Bool → A → A → A
pick true a b = a
pick false a b = b

-- a rule that refuses nothing, and the next rule, which counts where the one before does not refuse
abbrev pub passes : Answer
passes = answer 0 []

abbrev pub next : Answer → Answer → Answer
next a b = pick (eqb a.number 0) b a

-- the first so many rules, each where those before it refuse nothing
abbrev pub each : ℕ → (ℕ → Answer) → Answer
each zero rule = passes
each (suc k) rule = next (each k rule) (rule k)

-- less room than is needed: 5 with both
abbrev pub room_rule : ℕ → ℕ → Answer
room_rule needed room = pick (ltb room needed) (answer 5 (wholes (needed ∷ room ∷ []))) passes
