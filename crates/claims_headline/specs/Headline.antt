-- The theorem in one sentence, of a script: what is printed of each endpoint begins its stream, and its requests are right; a periodic
-- endpoint is admitted exactly where some placement keeps every budget; what is due is done; and no word is touched after its release
-- (EHCI 1.0, 4.4, 4.6 to 4.8, 4.10 and 4.12; USB 2.0, 5.5 to 5.8, 8.5, 8.6 and 11.14 to 11.18). Each part says of which endpoints.
--     IsOfStreams s x            of the stream of endpoint x something is claimed: it is a bulk or interrupt endpoint at high speed, or an
--                                OUT endpoint of either kind behind a port of a hub of the script, or an IN endpoint there, where no
--                                `control` line to this hub clears a buffer or resets a translator
--     TellsStreams s r           of each such endpoint that was opened the bytes told begin its stream, each once and in order, up to the
--                                line of its end, and nothing follows that; those told of an OUT endpoint begin what its device took
--     PrintsStreams s            so it is of the report that is printed after the run
--     ActsOnRequests s           after the run, of each control endpoint at high speed of a device that is no hub: in the window of each of
--                                its requests the device acted at most once, and on nothing but the setup bytes; of one that is told done
--                                exactly once, with all its data; one that halted tells a beginning of them, and so does a cancel's line
--     DoesWhatIsDue s            what is due as a microframe begins is done in it
--     TouchesNoneReleased s      each word that the controller reads or writes is of a Lent block; what was linked is given back after the
--                                advance interrupt (4.8.2), or after a frame boundary that two readings of FRINDEX showed (4.6); and what
--                                was given back the controller leaves alone until it is lent again
--     KeepsHeadline s            all of this, and its budgets: a periodic endpoint is admitted exactly where some placement keeps each
use Rattle.std.specs.List.{AllByRecursion}
use Rattle.std.specs.Prelude.{◌≡◌, ℕ, true, []}
use Rattle.usb_base.specs.declared.endpoints.EpDesc.{EpDesc}
use Rattle.script_types.specs.declared.scripts.Script.{Script}
use Rattle.drv_table.specs.declared.content.Endpoint.{Endpoint}
use Rattle.claims_report.specs.Reports.{WholeReport, whole_text}
use Rattle.claims_report.specs.Requests.{AreRightRequests}
use Rattle.claims_report.specs.Streams.{opened, IsRightStream}
use Rattle.bus_world.specs.Budgets.{moment}
use Rattle.bus_world.specs.BudgetsAtWork.{AdmitsAtWork}
use Rattle.bus_world.specs.Closing.{world_text}
use Rattle.bus_world.specs.Runs.{IsWholeRunOf}
use Rattle.bus_world.specs.World.{Standing}
use Rattle.claims_world.specs.BelowStreams.{is_claimed_below, is_claimed_in, LeavesTranslator}
use Rattle.claims_world.specs.DueAtBegin.{DueAtBeginIsDone}
use Rattle.claims_world.specs.HighStreams.{claimed}
use Rattle.claims_world.specs.Lent.{KeepsToLentThroughout}
use Rattle.claims_world.specs.Releases.{GivesBackLast, StaysUntouched}
use Rattle.claims_world.specs.Requests.{IsOfDevice, report_at, windows_then}
use Rattle.claims_world.specs.Results.{KeepsAnswers}
use Rattle.claims_world.specs.SitdsAtBegin.{SitdsAtBeginAreServed}
use Rattle.claims_world.specs.SlotsAtBegin.{SlotsAtBeginAreDone}
use Rattle.claims_world.specs.SplitFrames.{KeepsSplitFrames}
use Rattle.claims_world.specs.SplitsAtBegin.{KeepsSplits}
use Rattle.claims_world.specs.Streams.{report_of}

-- ---- the bytes begin the stream

pub data IsOfStreams (s : Script) (x : EpDesc) : Type 0 where
  at_high_speed : claimed s x ≡ true → IsOfStreams s x
  out_below_hub : is_claimed_below s x ≡ true → IsOfStreams s x
  in_below_hub : is_claimed_in s x ≡ true → LeavesTranslator s x → IsOfStreams s x

abbrev pub TellsStreams : Script → WholeReport → Type 0
TellsStreams s r = AllByRecursion (λ x. IsOfStreams s x → IsRightStream s r x.name) (opened s r)

pub record PrintsStreams (s : Script) : Type 0 where
  pub told : (w : Standing) → IsWholeRunOf s w → TellsStreams s (report_of w.fixed w.world)
  -- this report is the text that is printed
  pub printed : (w : Standing) → whole_text (report_of w.fixed w.world) ≡ world_text w.fixed w.world

-- ---- the requests are right

abbrev pub ActsOnRequests : Script → Type 0
ActsOnRequests s = (k e : ℕ) (x : Endpoint) → (moment s k).orders ≡ [] → IsOfDevice s k e x
    → AreRightRequests s (report_at s k) x.desc.name (windows_then s k e)

-- ---- what is due is done

pub record DoesWhatIsDue (s : Script) : Type 0 where
  -- at high speed: the packet of an interrupt endpoint, and the slot of an isochronous descriptor
  pub packets : DueAtBeginIsDone s
  pub slots : SlotsAtBeginAreDone s
  -- behind hubs, of an interrupt endpoint: start-splits and complete-splits are made; in the frame the host hears what the device said to a
  -- translator that has the whole start-split; and what the translator has for the host is taken
  pub splits : KeepsSplits s
  pub frames : KeepsSplitFrames s
  pub results : KeepsAnswers s
  -- .. and the transaction of an isochronous descriptor there
  pub split_slots : SitdsAtBeginAreServed s

-- ---- no word is touched after its release

pub record TouchesNoneReleased (s : Script) : Type 0 where
  pub lent : KeepsToLentThroughout s
  pub last : GivesBackLast s
  pub untouched : StaysUntouched s

-- ---- the sentence

pub record KeepsHeadline (s : Script) : Type 0 where
  pub streams : PrintsStreams s
  pub requests : ActsOnRequests s
  pub admitted : AdmitsAtWork s
  pub due : DoesWhatIsDue s
  pub released : TouchesNoneReleased s
