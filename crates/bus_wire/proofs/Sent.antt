-- What an asker hears of an answer that was sent.
use Rattle.std.proofs.Common.{◌≡◌, Bool, true, false, refl}
use Rattle.usb_base.specs.declared.packets.Reply.{Reply}
use Rattle.bus_wire.specs.declared.who_heard.WhoHeard.{WhoHeard}
use Rattle.bus_wire.specs.declared.who_heard.WhoHeard.TheVariants.{SentUnheard}
use Rattle.bus_wire.specs.WhoHeard.{who_heard, answer_sent, asker_hears}

-- what was heard was answered as the answer says
pub was_sent : (answers unheard acknowledged lost : Bool) (answer : Reply) → answer ≡ answer_sent (who_heard false answers unheard acknowledged lost) answer
was_sent false unheard acknowledged lost answer = refl
was_sent true true acknowledged lost answer = refl
was_sent true false false lost answer = refl
was_sent true false true true answer = refl
was_sent true false true false answer = refl

-- the asker hears of what was sent what it hears of the answer
pub hears_sent : (row : WhoHeard) (answer : Reply) → asker_hears row (answer_sent row answer) ≡ asker_hears row answer
hears_sent SentUnheard answer = refl
hears_sent _ answer = refl
