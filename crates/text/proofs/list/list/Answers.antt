-- `list::list` meets its contract: the entries are read into the room's front.
use mathlib.Core.Path.{sym, ◌∙◌}
use Rattle.text.proofs.Entered.{listed-all}
use Rattle.text.proofs.list.list.Goals as goal

pub returns-clause-room_after : goal.returns-clause-room_after
returns-clause-room_after c =
    let a = c.args in
    (listed-all a.line.now a.room.now a.at (sym c.decimal_up_to.ensures ∙ c.in_ok-count.was) a.entry (c.entries.ensures.value, c.entries.ensures.list_after)).1
