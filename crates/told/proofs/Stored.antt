-- What the program prints of the stored examples, computed.
-- Assumes nothing.
use mathlib.Core.Path.{◌≡◌, refl}
use Rattle.numbers.specs.BerOid.{oid_read}
use Rattle.numbers.specs.Words.{word_of}
use Rattle.layout.specs.Triangle.{slots_of, slot_of}
use Rattle.rules.specs.Named.{pack_ruled}
use Rattle.explain.specs.Explained.{explained}
use Rattle.text.specs.Text.{places}
use Rattle.reasons.specs.Sentences.{sentences, is_field, value_of}
use Rattle.accounts.specs.Account.{account_text}
use Rattle.told.specs.Printed.{printed}
use Rattle.told.specs.Stored.{stored, texts, given}

pub stored-right : given stored ≡ texts stored
unfolding printed account_text explained pack_ruled oid_read word_of slots_of slot_of places sentences is_field value_of
stored-right = refl
