-- The special values by the places of their forms, 12 to 20.
use Rattle.std.specs.Prelude.{ℕ, eqb}
use Rattle.answers.specs.Table.{pick}
use Rattle.imapb.specs.declared.special.ImapbSpecial.{ImapbSpecial}
use Rattle.imapb.specs.declared.special.ImapbSpecial.TheVariants.{
  PositiveInfinity,
  NegativeInfinity,
  PositiveQuietNaN,
  NegativeQuietNaN,
  PositiveSignalingNaN,
  NegativeSignalingNaN,
  BelowMin,
  AboveMax,
  UserDefined,
}
use Rattle.replies.specs.declared.reply.Reply.{Reply}
use Rattle.replies.specs.Reply.{one_reply}

abbrev pub form_for : ImapbSpecial → ℕ
form_for (UserDefined p) = 12
form_for PositiveInfinity = 13
form_for (PositiveQuietNaN p) = 14
form_for (PositiveSignalingNaN p) = 15
form_for NegativeInfinity = 16
form_for (NegativeQuietNaN p) = 17
form_for (NegativeSignalingNaN p) = 18
form_for BelowMin = 19
form_for AboveMax = 20

-- the payload, 0 where there is none
abbrev pub carried : ImapbSpecial → ℕ
carried (UserDefined p) = p
carried PositiveInfinity = 0
carried (PositiveQuietNaN p) = p
carried (PositiveSignalingNaN p) = p
carried NegativeInfinity = 0
carried (NegativeQuietNaN p) = p
carried (NegativeSignalingNaN p) = p
carried BelowMin = 0
carried AboveMax = 0

abbrev pub special_reply : ImapbSpecial → Reply
special_reply s = one_reply (form_for s) (carried s)

-- the special value of a form and a payload
abbrev pub special_of : ℕ → ℕ → ImapbSpecial
special_of form p =
    pick (eqb form 12) (UserDefined p)
    (pick (eqb form 13) PositiveInfinity
    (pick (eqb form 14) (PositiveQuietNaN p)
    (pick (eqb form 15) (PositiveSignalingNaN p)
    (pick (eqb form 16) NegativeInfinity
    (pick (eqb form 17) (NegativeQuietNaN p)
    (pick (eqb form 18) (NegativeSignalingNaN p)
    (pick (eqb form 19) BelowMin AboveMax)))))))
