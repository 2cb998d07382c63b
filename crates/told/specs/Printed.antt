-- What the program `why` prints: the account of a pack, for people, within the bounds of the program that prints a pack.
use Rattle.std.specs.Prelude.{ℕ, true, List, ◌++◌}
use Rattle.answers.specs.Table.{pick}
use Rattle.text.specs.Text.{newline}
use Rattle.report.specs.Lines.{too_big_line}
use Rattle.report.specs.Printed.{is_too_big}
use Rattle.accounts.specs.Account.{account_text}

unfoldable pub printed : List ℕ → List ℕ
printed bytes = pick (is_too_big bytes) too_big_line (account_text true bytes ++ newline)

-- the room that is asked for, whatever is printed
abbrev pub room : ℕ
room = 327680
