-- What each part that puts text on a page leaves.
use Rattle.std.specs.Prelude.{ℕ, ◌+◌, min, max, ◌≡◌, List, length}
use Rattle.std.specs.Borrow.{MutBor}
use Rattle.text.specs.declared.page.Page.{Page}
use Rattle.text.specs.Put.{Put}

-- a page over lent memory, from a place on
pub record Opened (at : ℕ) (room : MutBor (List ℕ)) (page : Page) : Type 0 where
  pub same : page.room.ghost_name ≡ room.ghost_name
  pub from : page.at ≡ at
  pub stored : page.room.now ≡ room.now

-- a text goes on the page, as far as that has room, and the place is behind it, no further than the end; a page that
-- begins past its end stays there
pub record Adds (text : List ℕ) (old : Page) (new : Page) : Type 0 where
  pub same : new.room.ghost_name ≡ old.room.ghost_name
  pub put : Put text old.at old.room.now (min new.at (length new.room.now)) new.room.now
  pub behind : new.at ≡ max old.at (min (old.at + length text) (length old.room.now))

-- how far a page is filled, and its bytes
abbrev pub filled : Page → ℕ × List ℕ
filled page = (page.at, page.room.now)
