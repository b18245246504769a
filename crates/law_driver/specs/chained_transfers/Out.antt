-- The qTDs of an endpoint that were published and aren't harvested yet, in their order (EHCI 1.0, 4.10): of a transfer that a short packet ended, those
-- that were passed over stay among them until it is given back.
--     pieces_from next b n       the byte addresses of n qTDs from block b on
--     unpublished c made n       how many of the first qTDs of the newest transfer aren't published: none, but while its command is unfinished
--     out_of next e c made ts    those of endpoint e
--     out_now d e                the same of the driver's content
--     out_all d e                .. once its command is finished
use Rattle.std.specs.Prelude.{ℕ, zero, suc, ◌+◌, ◌*◌, ◌==◌, Bool, not, ◌&&◌, List, [], ◌∷◌, ◌++◌, drop, Option, Some, None, if◌then◌else◌}
use Rattle.drv_table.specs.declared.content.Transfer.{Transfer}
use Rattle.drv_table.specs.declared.content.Command.{Command}
use Rattle.drv_table.specs.declared.content.Command.TheVariants as unfinished
use Rattle.drv_table.specs.DriverContent.{DriverContent}
use Rattle.claims_driver.specs.Owners.{NoteRuns, note_in}

abbrev pub pieces_from : (ℕ → NoteRuns) → ℕ → ℕ → List ℕ
pieces_from note b zero = []
pieces_from note b (suc n) = 32 * b ∷ pieces_from note (note b).next n

-- all of them before the lend, and the first until the last of its stores
abbrev pub unpublished : Option Command → ℕ → ℕ → ℕ
unpublished (Some (unfinished.Publish b words)) zero n = n
unpublished (Some (unfinished.Publish b words)) (suc made) n = 1
unpublished _ made n = 0

-- the qTD that was read last is the one at which a reported transfer ended
abbrev pub passed : Bool → ℕ
passed reported = if reported then 1 else 0

abbrev pub out_of_transfer : (ℕ → NoteRuns) → ℕ → ℕ → Transfer → List ℕ
out_of_transfer note e first y =
    if y.endpoint == e && not y.released then drop (first + passed y.reported) (pieces_from note y.place y.left) else []

abbrev pub if_last : List Transfer → ℕ → ℕ
if_last [] n = n
if_last (y ∷ ys) n = 0

abbrev pub out_of : (ℕ → NoteRuns) → ℕ → Option Command → ℕ → List Transfer → List ℕ
out_of note e c made [] = []
out_of note e c made (y ∷ ys) = out_of_transfer note e (if_last ys (unpublished c made y.qtds)) y ++ out_of note e c made ys

abbrev pub out_now : DriverContent → ℕ → List ℕ
out_now d e = out_of (note_in d.notes) e d.command d.made d.transfers

abbrev pub out_all : DriverContent → ℕ → List ℕ
out_all d e = out_of (note_in d.notes) e None 0 d.transfers
