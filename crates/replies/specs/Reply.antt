-- A reply: the place of its form, and the values that the form's letters stand for.
use Rattle.std.specs.Prelude.{ℕ}
use Rattle.replies.specs.declared.reply.Reply.{Reply}

abbrev pub reply : ℕ → ℕ → ℕ → ℕ → ℕ → Reply
reply form a b c d = record { form = form; a = a; b = b; c = c; d = d }

-- one value, whichever letter it has
abbrev pub one_reply : ℕ → ℕ → Reply
one_reply form value = reply form value value 0 0

-- words alone
abbrev pub words_reply : ℕ → Reply
words_reply form = one_reply form 0
