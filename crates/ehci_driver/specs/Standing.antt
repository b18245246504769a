-- What commands ask for, and what an accepted one leaves (EHCI 1.0, 4.7, 4.8 and 4.10).
--     standing d m                  driver and memory, as an accepted command leaves them
--     get_asked len by              a get of len bytes, in qTDs of `by`
--     put_asked bytes by            a put of these bytes, in qTDs of `by`
--     request_asked setup bytes     a request, and the bytes of its data stage where that is an OUT
--     cut_asked sort cut most bytes a transfer that is cut so, tells at most `most` bytes, and sends these
--     taken_asked d m e x a         the answer of endpoint x, of number e, which takes the transfer where its runs are found
--     accepted_with d m e x a runs  what it leaves, accepted with these runs
--     entered d e x t dummy words   transfer t is the last in its endpoint's queue, and its first qTD is to get these words
--     opened_at d x queue dummy     a new endpoint of the ring, with its queue head and its dummy in these blocks
--     plan_answer d m x             the answer to the open of a periodic endpoint
--     cancel_answer d m name        the answer to the cancel of the endpoint with this name
--     iso_answer d m name n len seed            the answer to n descriptors of it
--     taken_descriptors d m e x s n seed        the same of endpoint x, which takes them where their runs are found
--     entered_descriptors d m e x s n seed runs what they leave, accepted with these runs
--     with_refusal d name line why  one more line of the report: the command on this line of the script was refused
use Rattle.std.specs.Prelude.{ℕ, ◌-◌, ◌*◌, List, [], ◌∷◌, ◌++◌, length, take, drop, slice_index, slice_set, Some, Result, unwrap_or}
use Rattle.usb_base.specs.declared.endpoints.EpName.{EpName}
use Rattle.usb_base.specs.declared.endpoints.EpDesc.{EpDesc}
use Rattle.usb_base.specs.declared.reports.OfferError.{OfferError}
use Rattle.usb_base.specs.declared.reports.What.TheVariants.{Refused}
use Rattle.word_mem.specs.Memory.{Mem}
use Rattle.qh_qtd.specs.Qtd.{qtd_words}
use Rattle.mem_runs.specs.Book.{Book, holding, store_words}
use Rattle.bandwidth.specs.Admission.{answer}
use Rattle.drv_periodic_table.specs.Periodic.{want_of}
use Rattle.drv_table.specs.declared.content.Endpoint.{Endpoint}
use Rattle.drv_table.specs.declared.content.Transfer.{Transfer}
use Rattle.drv_table.specs.declared.content.QtdNote.{QtdNote}
use Rattle.drv_table.specs.declared.content.Slots.{Slots}
use Rattle.drv_table.specs.declared.content.Sort.{Sort}
use Rattle.drv_table.specs.declared.content.Sort.TheVariants as sorts
use Rattle.drv_table.specs.declared.content.Stage.{Stage}
use Rattle.drv_table.specs.declared.content.Command.TheVariants as unfinished
use Rattle.drv_table.specs.DriverContent.{DriverContent, endpoint_of, endpoint_named}
use Rattle.drv_table.specs.Words.{needs, dummy_qtd, get_stages, put_stages, request_stages, request_length}
use Rattle.drv_table.specs.Harvests.{note_at}
use Rattle.drv_table.specs.Accepting.{Offered, take_runs}
use Rattle.drv_table.specs.Offers.{Asked, taken_transfer, accepted_transfer, note_stages, write_stages, send_stages, with_queued, with_transfer, new_endpoint, planned_open}
use Rattle.drv_table.specs.CancelOffers.{offered_cancel}
use Rattle.drv_table.specs.IsoOffers.{offered_iso, taken_iso, iso_needs, entered_iso, all_descriptors, total_of}
use Rattle.drv_words.specs.declared.cuts.Cut.{Cut}
use Rattle.drv_words.specs.Cuts.{stages_of}

abbrev pub standing : DriverContent → Mem → Offered
standing d m = record { driver = d; memory = m }

-- ---- transfers

abbrev pub get_asked : ℕ → ℕ → Asked
get_asked len by = record { sort = sorts.Get; stages = get_stages len by; most = len; bytes = [] }

abbrev pub put_asked : List ℕ → ℕ → Asked
put_asked bytes by = record { sort = sorts.Put; stages = put_stages (length bytes) by; most = length bytes; bytes = bytes }

abbrev pub request_asked : List ℕ → List ℕ → Asked
request_asked setup bytes = record { sort = sorts.Request; stages = request_stages setup; most = request_length setup; bytes = setup ++ bytes }

abbrev pub cut_asked : Sort → Cut → ℕ → List ℕ → Asked
cut_asked sort cut most bytes = record { sort = sort; stages = stages_of cut; most = most; bytes = bytes }

abbrev pub taken_asked : DriverContent → Mem → ℕ → Endpoint → Asked → Result Offered OfferError
taken_asked d m e x a = taken_transfer d e x a (take_runs (holding d.book m) (needs a.stages))

-- Of the runs that were taken the first are those of its qTDs, the last of which is the new dummy, and then come those of its buffers.
abbrev pub new_dummy : List Stage → List ℕ → ℕ
new_dummy ss runs = slice_index (take (length ss) runs) (length ss - 1)

abbrev pub noted_transfer : List QtdNote → List Stage → ℕ → List ℕ → List QtdNote
noted_transfer notes ss first runs = note_stages notes ss first (take (length ss) runs) (drop (length ss) runs)

-- its qTDs but the first, the dummy, and the bytes that it sends
abbrev pub written_transfer : Book → Mem → List QtdNote → List Stage → ℕ → ℕ → List ℕ → Mem
written_transfer k m notes ss first dummy bytes =
    send_stages k
    (store_words k (write_stages k m notes dummy (drop 1 ss) (note_at notes first).next) dummy (32 * dummy) (qtd_words dummy_qtd))
    notes ss first bytes

abbrev pub accepted_with : DriverContent → Mem → ℕ → Endpoint → Asked → List ℕ → Offered
accepted_with d m e x a runs =
    accepted_transfer d e x a (holding d.book m) (new_dummy a.stages runs) (noted_transfer d.notes a.stages x.dummy runs)

abbrev pub entered : DriverContent → ℕ → Endpoint → Transfer → ℕ → List ℕ → DriverContent
entered d e x t dummy words =
    record d {
      endpoints = slice_set d.endpoints e (with_queued x dummy (length d.transfers));
      transfers = d.transfers ++ t ∷ [];
      command = Some (unfinished.Publish t.first words);
      made = 0;
      room = with_transfer d.room t.most;
    }

-- ---- open and cancel

abbrev pub opened_at : DriverContent → EpDesc → ℕ → ℕ → DriverContent
opened_at d x queue dummy =
    record d {
      endpoints = d.endpoints ++ new_endpoint x queue dummy ∷ [];
      command = Some (unfinished.Open queue);
      made = 0;
      room = record d.room { endpoints = d.room.endpoints - 1 };
    }

abbrev pub plan_answer : DriverContent → Mem → EpDesc → Result Offered OfferError
plan_answer d m x = planned_open d m x (answer d.periodic.plan (want_of (length d.endpoints) x))

abbrev pub cancel_answer : DriverContent → Mem → EpName → Result Offered OfferError
cancel_answer d m name = offered_cancel d m (unwrap_or (endpoint_of d name) 0) (endpoint_named d name)

-- ---- descriptors

abbrev pub iso_answer : DriverContent → Mem → EpName → ℕ → ℕ → ℕ → Result Offered OfferError
iso_answer d m name n len seed = offered_iso d m (unwrap_or (endpoint_of d name) 0) n len seed (endpoint_named d name)

abbrev pub taken_descriptors : DriverContent → Mem → ℕ → Endpoint → Slots → ℕ → ℕ → Result Offered OfferError
taken_descriptors d m e x s n seed = taken_iso d e x s n seed (take_runs (holding d.book m) (iso_needs s n))

abbrev pub entered_descriptors : DriverContent → Mem → ℕ → Endpoint → Slots → ℕ → ℕ → List ℕ → Offered
entered_descriptors d m e x s n seed runs =
    entered_iso d e x n (total_of s) d.book
    (all_descriptors d.book e x.desc s n seed runs (record { notes = d.periodic.notes; transfers = d.transfers; memory = m }))

-- ---- a refusal

abbrev pub with_refusal : DriverContent → EpName → ℕ → OfferError → DriverContent
with_refusal d name line why =
    record d {
      reports = d.reports ++ (record { name = name; what = Refused line why; from = length d.store; len = 0 }) ∷ [];
      room = record d.room { reports = d.room.reports - 1 };
    }
