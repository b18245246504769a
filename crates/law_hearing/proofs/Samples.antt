-- What the start-split of the samples is answered.
use Rattle.std.proofs.Common.{◌≡◌, [], refl, sym, subst}
use Rattle.usb_base.specs.declared.packets.Pid.TheVariants as pids
use Rattle.usb_base.specs.declared.packets.Reply.{Reply}
use Rattle.usb_base.specs.declared.packets.Reply.TheVariants as replies
use Rattle.bus_wire.specs.Bus.{reply_of, transact_after}
use Rattle.claims_answers.specs.Hearing.{IsHeard}
use Rattle.law_hearing.specs.Worked.{start_split, quiet, lossy, IsAnswered, IsLostAbove, SilenceIsWrong, DeafnessToLinesIsWrong}
use Rattle.law_hearing.proofs.Heard.{asks_are_heard}
use Rattle.law_hearing.proofs.Determined.{one_thing_is_heard}

heard_quiet : reply_of quiet.fixed quiet.bus start_split [] ≡ replies.Hand pids.Ack
heard_quiet = refl

heard_lossy : reply_of lossy.fixed lossy.bus start_split [] ≡ replies.Silent
heard_lossy = refl

pub answered : IsAnswered
answered =
    subst (λ (r : Reply). IsHeard quiet.fixed quiet.bus start_split [] r (transact_after quiet.fixed quiet.bus start_split [])) heard_quiet
    (asks_are_heard quiet.fixed quiet.bus start_split [] refl)

pub lost : IsLostAbove
lost =
    subst (λ (r : Reply). IsHeard lossy.fixed lossy.bus start_split [] r (transact_after lossy.fixed lossy.bus start_split [])) heard_lossy
    (asks_are_heard lossy.fixed lossy.bus start_split [] refl)

silent_hand : replies.Silent ≡ replies.Hand pids.Ack → ⊥
silent_hand e = cc

pub silence : SilenceIsWrong
silence after heard =
    silent_hand (one_thing_is_heard quiet.fixed quiet.bus start_split [] replies.Silent (replies.Hand pids.Ack) after
    (transact_after quiet.fixed quiet.bus start_split []) heard answered).0

pub deaf : DeafnessToLinesIsWrong
deaf after heard =
    silent_hand (sym (one_thing_is_heard lossy.fixed lossy.bus start_split [] (replies.Hand pids.Ack) replies.Silent after
    (transact_after lossy.fixed lossy.bus start_split []) heard lost).0)
