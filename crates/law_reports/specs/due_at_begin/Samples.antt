-- Worlds for worked rows: right after the Begin of its microframe a cancel of a keyboard, of a microphone, or of a speaker behind a hub, is
-- accepted (EHCI 1.0, 4.6).
--     cancelled_keyboard, cancelled_microphone, cancelled_speaker
use Rattle.usb_base.specs.declared.commands.Cmd.TheVariants.{Cancel}
use Rattle.bus_world.specs.World.{World, commanded}
use Rattle.law_world.specs.memory.MicrophoneSamples.{microphone}
use Rattle.law_microframes.specs.due.Samples.{keyboard, keyed_at}
use Rattle.law_microframes.specs.due.sitds.Samples.{speaker, speaker_place, sound_at}
use Rattle.law_microframes.specs.due.slots.Samples.{due_at}

abbrev pub cancelled_keyboard : World
cancelled_keyboard = commanded (keyed_at 22) 9 (Cancel keyboard.name)

abbrev pub cancelled_microphone : World
cancelled_microphone = commanded (due_at 1) 9 (Cancel microphone.name)

abbrev pub cancelled_speaker : World
cancelled_speaker = commanded (sound_at speaker 400 speaker_place 1) 9 (Cancel speaker.name)
