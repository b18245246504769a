-- When the host hears what a translator's pipeline brought (USB 2.0, 11.18.4): by the last complete-split that a plan has for it.
--     end_of p k              the first microframe in which nothing of the key is laid any more
--     IsHeardIn               an isochronous IN whose device sent what the start had room for
--     IsAnswered late         an interrupt's result, and the last bytes of an isochronous IN, are there so long after the last laid one
use Rattle.std.specs.Prelude.{◌≡◌, ℕ, ◌+◌, ◌/◌, ◌≤◌, true, false, List, [], ◌∷◌, length}
use Rattle.usb_base.specs.declared.packets.EpKind.TheVariants.{Iso, Interrupt}
use Rattle.usb_base.specs.declared.packets.Pid.{Pid}
use Rattle.usb_base.specs.declared.packets.Pid.TheVariants.{In}
use Rattle.usb_base.specs.declared.packets.Reply.TheVariants.{Bytes}
use Rattle.usb_base.specs.declared.packets.Speed.TheVariants.{Full}
use Rattle.hub_keys.specs.declared.key.Key.{Key}
use Rattle.tt_pipeline.specs.declared.entry.Entry.{Entry}
use Rattle.tt_pipeline.specs.declared.entry.Exchange.TheVariants.{Made}
use Rattle.tt_pipeline.specs.declared.rows.AnswerRow.TheVariants.{Last, Result}
use Rattle.tt_pipeline.specs.Answers.{answer_row}
use Rattle.claims_world.specs.Watched.{Watched}
use Rattle.claims_world.specs.Plans.{Plan}

-- 188 byte-times are laid in each microframe from its first on, and the rest in the last
abbrev pub end_of : Plan → Key → ℕ
end_of p k = p.first k + (p.times k + 187) / 188

-- the start came whole, the device sent no more than the start had room for, and its bytes weren't all given yet
pub record IsHeardIn (e : Entry) (pid : Pid) (bytes : List ℕ) : Type 0 where
  pub kind : e.ask.kind ≡ Iso
  pub way : e.ask.pid ≡ In
  pub speed : e.ask.speed ≡ Full
  pub made : e.exchange ≡ Made (Bytes pid bytes)
  pub fits : length bytes ≤ e.ask.limit
  pub goes_on : e.ended ≡ false
  pub whole : e.heard.whole ≡ true

-- from the microframe on that is so many after the last in which something is laid
pub record IsAnswered (late : ℕ) (p : Plan) (now : ℕ) (w : Watched) : Type 0 where
  pub result :
      w.entry.ask.kind ≡ Interrupt → w.entry.heard.whole ≡ true → end_of p w.entry.key + late ≤ now → now ≤ 8
      → answer_row w.entry ≡ Result
  pub last :
      (pid : Pid) → (bytes : List ℕ) → IsHeardIn w.entry pid bytes → end_of p w.entry.key + late ≤ now → now ≤ 8
      → answer_row w.entry ≡ Last

abbrev pub AllAnswered : ℕ → Plan → ℕ → List Watched → Type 0
AllAnswered late p now [] = Unit {0}
AllAnswered late p now (w ∷ ws) = IsAnswered late p now w × AllAnswered late p now ws
