-- Of a script whose endpoints are high-speed bulk and control ones, the streams that are claimed at high speed are all streams of data.
--     HighKeepsAll       and where all of it is kept at high speed, all is kept that was said of such a script: also after its run
--     HighSaysAsMuch     so what is said of the streams at high speed says as much of such a script as what is said of all its streams
use Rattle.script_types.specs.declared.scripts.Script.{Script}
use Rattle.law_driver.specs.AsynchronousScripts.{AsynchronousOnly}
use Rattle.law_world.specs.streams.Asynchronous.{InStreamsAreRightThroughout, OutStreamsAreTakenThroughout, OutStreamsAreSentThroughout}
use Rattle.law_world.specs.streams.Asynchronous.{StreamsAreRightAtTheEnd, KeepsStreams}
use Rattle.claims_world.specs.HighStreams.{HighInsAreRight, HighOutsAreTaken}
use Rattle.claims_world.specs.HighStreams.{HighOutsAreSent, HighStreamsEndRight, KeepsAllHighStreams}

pub record HighSaysAll (s : Script) : Type 0 where
  pub ins : HighInsAreRight s → InStreamsAreRightThroughout s
  pub taken : HighOutsAreTaken s → OutStreamsAreTakenThroughout s
  pub sent : HighOutsAreSent s → OutStreamsAreSentThroughout s
  pub all : HighStreamsEndRight s → StreamsAreRightAtTheEnd s

abbrev pub HighSaysAsMuch : Type 0
HighSaysAsMuch = (s : Script) → AsynchronousOnly s → HighSaysAll s

abbrev pub HighKeepsAll : Type 0
HighKeepsAll = (s : Script) → AsynchronousOnly s → KeepsAllHighStreams s → KeepsStreams s
